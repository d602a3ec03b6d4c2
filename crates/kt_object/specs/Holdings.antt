-- What a process holds: the contents of its object and of its saved states, and what acts make of them.
use Rattle.std.specs.Prelude.{◌≡◌, ℕ, ℤ, List, Option, Some, None, fold, unwrap_or}
use Rattle.std.specs.Option.{option_map}
use Rattle.kt_object.specs.Bytes.{IsSavedState}
use Rattle.kt_object.specs.SavedStates.{SavedStates}
use Rattle.kt_object.specs.Value.{after}
use Rattle.kt_plan.specs.declared.steps.Act.{Act}
use Rattle.kt_plan.specs.declared.steps.Act.TheVariants.{Nothing, Apply, Keep, Promote, Discard, Restore, Drop}

-- an object's kind and value
pub record Content : Type 0 where
  pub kind : ℕ
  pub value : List ℤ

abbrev pub content : ℕ → List ℤ → Content
content kind value = record { kind = kind; value = value }

-- the content of the object, where the process is up, and those that its saved states were saved from
pub record Holding : Type 0 where
  pub object : Option Content
  pub permanent : Content
  pub tentative : Option Content

-- at first the object is there, and its content is saved
abbrev pub first_holding : Content → Holding
first_holding c = record { object = Some c; permanent = c; tentative = None }

-- an object after a message
abbrev pub applied : ℕ → ℤ → Content → Content
applied from body c = content c.kind (after c.kind c.value from body)

-- what an act makes of a holding
abbrev pub does : Holding → Act → Holding
does h Nothing = h
does h (Apply from body) = record h { object = option_map (applied from body) h.object }
does h Keep = record h { tentative = h.object }
does h Promote = record h { permanent = unwrap_or h.tentative h.permanent; tentative = None }
does h Discard = record h { tentative = None }
does h Restore = record h { object = Some h.permanent }
does h Drop = record h { object = None }

-- what acts make of it, in order
abbrev pub does_all : Holding → List Act → Holding
does_all h acts = fold does h acts

-- there are a content and bytes that were saved from it, or neither
abbrev pub AreSaved : Option Content → Option (List ℕ) → Type 0
AreSaved None None = Unit {0}
AreSaved None (Some saved) = ⊥
AreSaved (Some c) None = ⊥
AreSaved (Some c) (Some saved) = IsSavedState c.kind c.value saved

-- an object of this content, where there is one, and these saved states are what is held
pub record Holds (h : Holding) (present : Option Content) (depot : SavedStates) : Type 0 where
  pub object : present ≡ h.object
  pub permanent : IsSavedState h.permanent.kind h.permanent.value depot.permanent
  pub tentative : AreSaved h.tentative depot.tentative
