-- What the lines of a scenario say, and what is first wrong in them.
use Rattle.std.specs.Prelude.{◌≡◌, ◌≢◌, ◌⊎◌, ◌<◌, ◌≤◌, ◌^◌, ℕ, ℤ, true, false, List, [], ◌∷◌, Option, Some, None, IfSome, IsSome, length, FitsSigned}
use Rattle.std.specs.Int.{w64}
use Rattle.kt_plan.specs.declared.commands.Job.{Job}
use Rattle.kt_plan.specs.declared.commands.Job.TheVariants as job
use Rattle.kt_plan.specs.Names.{is_name, number_in, most_names}
use Rattle.kt_plan.specs.Limits.{Planned, most_commands}
use Rattle.kt_scenario.specs.declared.draft.Word.{Word}
use Rattle.kt_scenario.specs.declared.draft.Word.TheVariants.{Object, Send, Checkpoint, Rollback, Fail, Settle}
use Rattle.kt_scenario.specs.declared.fault.LineFault.{LineFault}
use Rattle.kt_scenario.specs.declared.fault.LineFault.TheVariants as fault
use Rattle.kt_scenario.specs.declared.fault.ScenarioFault.{ScenarioFault}
use Rattle.kt_scenario.specs.declared.fault.ScenarioFault.TheVariants.{TooLong}
use Rattle.kt_scenario.specs.Faults.{fault_at}
use Rattle.kt_scenario.specs.Lines.{lines_of, Reads, IsFirstWrong}
use Rattle.kt_scenario.specs.Said.{Said, nothing_said, plan_of, with_object, with_command, settled, word_in, kind_in, body_word}

-- a word is the body of a send: `.`, or a number within 64 bits
abbrev pub IsBodyWord : List ℕ → Option ℤ → Type 0
IsBodyWord word body = (word ≡ body_word body) × IfSome body (FitsSigned w64)

-- `object NAME KIND`: the next process
pub record IsObject (old : Said) (name kind : List ℕ) (new : Said) : Type 0 where
  pub proper : is_name name ≡ true
  pub unknown : number_in old.names name ≡ None
  pub number : ℕ
  pub known_kind : kind_in kind ≡ Some number
  pub room : length old.names < most_names
  pub said : new ≡ with_object old name number

-- `send A B BODY`: a command of A
pub record IsSend (old : Said) (from to body : List ℕ) (new : Said) : Type 0 where
  pub by : ℕ
  pub at : ℕ
  pub value : Option ℤ
  pub sender : number_in old.names from ≡ Some by
  pub receiver : number_in old.names to ≡ Some at
  pub another : by ≢ at
  pub number : IsBodyWord body value
  pub room : length old.commands < most_commands
  pub said : new ≡ with_command old by (job.Send at value)

-- a job and the name of the process that does it
pub record IsOrder (old : Said) (job : Job) (name : List ℕ) (new : Said) : Type 0 where
  pub by : ℕ
  pub known : number_in old.names name ≡ Some by
  pub room : length old.commands < most_commands
  pub said : new ≡ with_command old by job

-- what the words after a first word say
abbrev pub SaysAfter : Option Word → Said → List (List ℕ) → Said → Type 0
SaysAfter None old words new = ⊥
SaysAfter (Some Object) old words new = (name kind : List ℕ) × (words ≡ name ∷ kind ∷ []) × IsObject old name kind new
SaysAfter (Some Send) old words new = (from to body : List ℕ) × (words ≡ from ∷ to ∷ body ∷ []) × IsSend old from to body new
SaysAfter (Some Checkpoint) old words new = (name : List ℕ) × (words ≡ name ∷ []) × IsOrder old job.Checkpoint name new
SaysAfter (Some Rollback) old words new = (name : List ℕ) × (words ≡ name ∷ []) × IsOrder old job.Rollback name new
SaysAfter (Some Fail) old words new = (name : List ℕ) × (words ≡ name ∷ []) × IsOrder old job.Fail name new
SaysAfter (Some Settle) old words new = (words ≡ []) × (new ≡ settled old)

-- what the words of a line say
abbrev pub Says : Said → List (List ℕ) → Said → Type 0
Says old [] new = ⊥
Says old (word ∷ words) new = SaysAfter (word_in word) old words new

-- how many words come after a first word
abbrev pub word_count : Word → ℕ
word_count Object = 2
word_count Send = 3
word_count Checkpoint = 1
word_count Rollback = 1
word_count Fail = 1
word_count Settle = 0

-- what is first wrong in the words of an object
abbrev pub IsWrongObject : Said → List ℕ → List ℕ → LineFault → Type 0
IsWrongObject said name kind fault.Name = is_name name ≡ false
IsWrongObject said name kind fault.Twice = (is_name name ≡ true) × IsSome (number_in said.names name)
IsWrongObject said name kind fault.KindWord = (is_name name ≡ true) × (number_in said.names name ≡ None) × (kind_in kind ≡ None)
IsWrongObject said name kind fault.TooManyObjects =
    (is_name name ≡ true) × (number_in said.names name ≡ None) × IsSome (kind_in kind) × (most_names ≤ length said.names)
IsWrongObject said name kind f = ⊥

-- two names of the same process
abbrev pub IsSame : Said → List ℕ → List ℕ → Type 0
IsSame said from to = (by : ℕ) × (number_in said.names from ≡ Some by) × (number_in said.names to ≡ Some by)

-- the names of two processes
abbrev pub AreTwo : Said → List ℕ → List ℕ → Type 0
AreTwo said from to = (by at : ℕ) × (number_in said.names from ≡ Some by) × (number_in said.names to ≡ Some at) × (by ≢ at)

-- what is first wrong in the words of a send
abbrev pub IsWrongSend : Said → List ℕ → List ℕ → List ℕ → LineFault → Type 0
IsWrongSend said from to body fault.Unknown = (number_in said.names from ≡ None) ⊎ (IsSome (number_in said.names from) × (number_in said.names to ≡ None))
IsWrongSend said from to body fault.Itself = IsSame said from to
IsWrongSend said from to body fault.Number = AreTwo said from to × ((value : Option ℤ) → IsBodyWord body value → ⊥)
IsWrongSend said from to body fault.TooManyCommands = AreTwo said from to × ((value : Option ℤ) × IsBodyWord body value) × (most_commands ≤ length said.commands)
IsWrongSend said from to body f = ⊥

-- what is first wrong in the word of a checkpoint, a rollback or a failure
abbrev pub IsWrongOrder : Said → List ℕ → LineFault → Type 0
IsWrongOrder said name fault.Unknown = number_in said.names name ≡ None
IsWrongOrder said name fault.TooManyCommands = IsSome (number_in said.names name) × (most_commands ≤ length said.commands)
IsWrongOrder said name f = ⊥

-- what is first wrong in as many words as there should be
abbrev pub IsWrongIn : Word → Said → List (List ℕ) → LineFault → Type 0
IsWrongIn Object said words f = (name kind : List ℕ) × (words ≡ name ∷ kind ∷ []) × IsWrongObject said name kind f
IsWrongIn Send said words f = (from to body : List ℕ) × (words ≡ from ∷ to ∷ body ∷ []) × IsWrongSend said from to body f
IsWrongIn Checkpoint said words f = (name : List ℕ) × (words ≡ name ∷ []) × IsWrongOrder said name f
IsWrongIn Rollback said words f = (name : List ℕ) × (words ≡ name ∷ []) × IsWrongOrder said name f
IsWrongIn Fail said words f = (name : List ℕ) × (words ≡ name ∷ []) × IsWrongOrder said name f
IsWrongIn Settle said words f = ⊥

-- what is first wrong after a first word: how many words there are, or one of them
abbrev pub IsWrongAfter : Option Word → Said → List (List ℕ) → LineFault → Type 0
IsWrongAfter None said words f = f ≡ fault.Command
IsWrongAfter (Some word) said words f = ((f ≡ fault.Words) × (length words ≢ word_count word)) ⊎ IsWrongIn word said words f

-- what is first wrong in the words of a line
abbrev pub IsWordsFault : Said → List (List ℕ) → LineFault → Type 0
IsWordsFault said [] f = ⊥
IsWordsFault said (word ∷ words) f = IsWrongAfter (word_in word) said words f

-- how many bytes a scenario has at most
abbrev pub most_bytes : ℕ
most_bytes = 2 ^ 20

-- the text says this plan
pub record IsScenario (text : List ℕ) (plan : Planned) : Type 0 where
  pub said : Said
  pub few : length text ≤ most_bytes
  pub read : Reads Says nothing_said (lines_of text) said
  pub is : plan ≡ plan_of said

-- the first fault of a text: it is too long, or a line is wrong
abbrev pub IsFirstScenarioFault : List ℕ → ScenarioFault → Type 0
IsFirstScenarioFault text fault =
    ((fault ≡ TooLong) × (most_bytes < length text))
    ⊎ ((number : ℕ) × (wrong : LineFault) × (fault ≡ fault_at wrong number) × (length text ≤ most_bytes) × IsFirstWrong Says IsWordsFault nothing_said (lines_of text) number wrong)
