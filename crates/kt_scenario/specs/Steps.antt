-- What the lines of a text of steps say, and what is first wrong in them.
use Rattle.std.specs.Prelude.{◌≡◌, ◌≢◌, ◌⊎◌, ◌<◌, ◌≤◌, ◌^◌, ◌++◌, ℕ, List, [], ◌∷◌, Option, Some, None, IsSome, codes, length, if◌then◌else◌}
use Rattle.std.specs.Str.{bytes_eq}
use Rattle.kt_plan.specs.declared.steps.Step.{Step}
use Rattle.kt_plan.specs.declared.steps.Step.TheVariants as step
use Rattle.kt_plan.specs.Names.{number_in}
use Rattle.kt_scenario.specs.declared.steps.StepWord.{StepWord}
use Rattle.kt_scenario.specs.declared.steps.StepWord.TheVariants.{Do, Take}
use Rattle.kt_scenario.specs.declared.fault.StepLineFault.{StepLineFault}
use Rattle.kt_scenario.specs.declared.fault.StepLineFault.TheVariants as fault
use Rattle.kt_scenario.specs.declared.fault.StepsFault.{StepsFault}
use Rattle.kt_scenario.specs.declared.fault.StepsFault.TheVariants.{TooLong}
use Rattle.kt_scenario.specs.Faults.{step_fault_at}
use Rattle.kt_scenario.specs.Lines.{lines_of, Reads, IsFirstWrong}

-- which of the two first words a word is
abbrev pub step_word_in : List ℕ → Option StepWord
step_word_in word =
    if bytes_eq word (codes "do") then Some Do else
    if bytes_eq word (codes "take") then Some Take else None

-- how many steps there are at most
abbrev pub most_steps : ℕ
most_steps = 2 ^ 20

-- one step more, where there is room for it
abbrev pub Adds : List Step → Step → List Step → Type 0
Adds old one new = (length old < most_steps) × (new ≡ old ++ one ∷ [])

-- `take AT FROM`
pub record IsTake (names : List (List ℕ)) (old : List Step) (at from : List ℕ) (new : List Step) : Type 0 where
  pub taker : ℕ
  pub sender : ℕ
  pub at_known : number_in names at ≡ Some taker
  pub from_known : number_in names from ≡ Some sender
  pub another : taker ≢ sender
  pub adds : Adds old (step.Take taker sender) new

-- `do A`
pub record IsDo (names : List (List ℕ)) (old : List Step) (name : List ℕ) (new : List Step) : Type 0 where
  pub process : ℕ
  pub known : number_in names name ≡ Some process
  pub adds : Adds old (step.Do process) new

-- what the words after a first word say, where processes have these names
abbrev pub StepsAfter : List (List ℕ) → Option StepWord → List Step → List (List ℕ) → List Step → Type 0
StepsAfter names None old words new = ⊥
StepsAfter names (Some Do) old words new = (name : List ℕ) × (words ≡ name ∷ []) × IsDo names old name new
StepsAfter names (Some Take) old words new = (at from : List ℕ) × (words ≡ at ∷ from ∷ []) × IsTake names old at from new

-- what the words of a line say
abbrev pub StepSays : List (List ℕ) → List Step → List (List ℕ) → List Step → Type 0
StepSays names old [] new = ⊥
StepSays names old (word ∷ words) new = StepsAfter names (step_word_in word) old words new

-- how many words come after a first word
abbrev pub step_word_count : StepWord → ℕ
step_word_count Do = 1
step_word_count Take = 2

-- what is first wrong in the word of `do`
abbrev pub IsWrongDo : List (List ℕ) → List Step → List ℕ → StepLineFault → Type 0
IsWrongDo names steps name fault.Unknown = number_in names name ≡ None
IsWrongDo names steps name fault.TooMany = IsSome (number_in names name) × (most_steps ≤ length steps)
IsWrongDo names steps name f = ⊥

-- what is first wrong in the words of `take`
abbrev pub IsWrongTake : List (List ℕ) → List Step → List ℕ → List ℕ → StepLineFault → Type 0
IsWrongTake names steps at from fault.Unknown = (number_in names at ≡ None) ⊎ (IsSome (number_in names at) × (number_in names from ≡ None))
IsWrongTake names steps at from fault.Itself = (by : ℕ) × (number_in names at ≡ Some by) × (number_in names from ≡ Some by)
IsWrongTake names steps at from fault.TooMany =
    (by other : ℕ) × (number_in names at ≡ Some by) × (number_in names from ≡ Some other) × (by ≢ other) × (most_steps ≤ length steps)
IsWrongTake names steps at from f = ⊥

-- what is first wrong in as many words as there should be
abbrev pub IsWrongStepIn : List (List ℕ) → StepWord → List Step → List (List ℕ) → StepLineFault → Type 0
IsWrongStepIn names Do steps words f = (name : List ℕ) × (words ≡ name ∷ []) × IsWrongDo names steps name f
IsWrongStepIn names Take steps words f = (at from : List ℕ) × (words ≡ at ∷ from ∷ []) × IsWrongTake names steps at from f

-- what is first wrong after a first word: how many words there are, or one of them
abbrev pub IsWrongStepAfter : List (List ℕ) → Option StepWord → List Step → List (List ℕ) → StepLineFault → Type 0
IsWrongStepAfter names None steps words f = f ≡ fault.Command
IsWrongStepAfter names (Some word) steps words f = ((f ≡ fault.Words) × (length words ≢ step_word_count word)) ⊎ IsWrongStepIn names word steps words f

-- what is first wrong in the words of a line
abbrev pub IsWrongStep : List (List ℕ) → List Step → List (List ℕ) → StepLineFault → Type 0
IsWrongStep names steps [] f = ⊥
IsWrongStep names steps (word ∷ words) f = IsWrongStepAfter names (step_word_in word) steps words f

-- how many bytes a text of steps has at most
abbrev pub most_step_bytes : ℕ
most_step_bytes = 2 ^ 26

-- the text says these steps of processes with these names
pub record AreSteps (names : List (List ℕ)) (text : List ℕ) (steps : List Step) : Type 0 where
  pub few : length text ≤ most_step_bytes
  pub read : Reads (StepSays names) [] (lines_of text) steps

-- the first fault of a text of steps: it is too long, or a line is wrong
abbrev pub IsFirstStepFault : List (List ℕ) → List ℕ → StepsFault → Type 0
IsFirstStepFault names text fault =
    ((fault ≡ TooLong) × (most_step_bytes < length text))
    ⊎ ((number : ℕ) × (wrong : StepLineFault) × (fault ≡ step_fault_at wrong number) × (length text ≤ most_step_bytes) × IsFirstWrong (StepSays names) (IsWrongStep names) [] (lines_of text) number wrong)
