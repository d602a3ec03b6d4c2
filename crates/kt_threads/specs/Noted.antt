-- What is noted of steps: of processes, in a list for each, and of all of them, in one list.
use Rattle.std.specs.Prelude.{◌≡◌, ◌<◌, ◌==◌, ℕ, List, [], ◌∷◌, ◌++◌, Option, IfSome, length, map, slice_index_or, if◌then◌else◌}
use Rattle.kt_threads.specs.Books.{errands_by}
use Rattle.kt_threads.specs.declared.asked.Entry.{Entry}
use Rattle.kt_plan.specs.declared.steps.Step.{Step}
use Rattle.kt_plan.specs.declared.steps.Told.{Told}
use Rattle.kt_threads.specs.Errands.{errands_of}
use Rattle.kt_threads.specs.Histories.{made_by, told_to}
use Rattle.kt_threads.specs.declared.state.Made.{Made}

-- the list of one process goes on by this, if it has one, and those of the others stay
pub record IsNotedBy {X : Type 0} (p : ℕ) (item : X) (old new : List (List X)) : Type 0 where
  pub count : length new ≡ length old
  pub each : (q : ℕ) → q < length old → slice_index_or new q [] ≡ slice_index_or old q [] ++ (if p == q then item ∷ [] else [])

-- in a history each process has what its own steps asked of its object
pub record AreAskedBy (steps : List Made) (asked : List Entry) : Type 0 where
  pub each : (p : ℕ) → errands_by p asked ≡ errands_of (made_by p steps)

-- each process that has a list has there what its own steps told
pub record AreToldBy (steps : List Made) (told : List (List Told)) : Type 0 where
  pub each : (p : ℕ) → p < length told → slice_index_or told p [] ≡ told_to p steps

-- the steps themselves, of steps that were made
abbrev pub made_steps : List Made → List Step
made_steps steps = map (λ (made : Made). made.told.step) steps

-- where there is a list for the steps themselves, it has them all, in order
abbrev pub AreListed : List Made → Option (List Step) → Type 0
AreListed steps listed = IfSome listed (λ list. list ≡ made_steps steps)

-- all three
pub record AreNoted (steps : List Made) (asked : List Entry) (told : List (List Told)) (listed : Option (List Step)) : Type 0 where
  pub asks : AreAskedBy steps asked
  pub tells : AreToldBy steps told
  pub lists : AreListed steps listed
