-- Which acts can be done, and how many spares they take.
use Rattle.std.specs.Prelude.{◌≡◌, ℕ, ◌+◌, ◌-◌, Bool, true, false, not, ◌&&◌, ◌||◌, nat_lt, List, [], ◌∷◌, Option, Some, None}
use Rattle.std.specs.Option.{option_map}
use Rattle.kt_object.specs.Bytes.{IsSavedState}
use Rattle.kt_object.specs.SavedStates.{SavedStates}
use Rattle.kt_object.specs.Holdings.{Content, applied}
use Rattle.kt_plan.specs.declared.steps.Act.{Act}
use Rattle.kt_plan.specs.declared.steps.Act.TheVariants.{Nothing, Apply, Keep, Promote, Discard, Restore, Drop}

-- what decides which acts can be done: whether the object is there, whether a tentative state is, whether the object's
-- state was saved for the step, and how many spares there are
pub record Outline : Type 0 where
  pub up : Bool
  pub tentative : Bool
  pub saved : Bool
  pub spares : ℕ

-- the same, put together
abbrev pub outline : Bool → Bool → Bool → ℕ → Outline
outline up tentative saved spares =
    record { up = up; tentative = tentative; saved = saved; spares = spares }

-- whether an act can be done
abbrev pub fits : Outline → Act → Bool
fits o Nothing = true
fits o (Apply from body) = o.up
fits o Keep = o.up && not o.tentative && o.saved
fits o Promote = o.tentative
fits o Discard = o.tentative
fits o Restore = o.up || nat_lt 0 o.spares
fits o Drop = o.up

-- how many spares an act takes: a restore takes one where the object is not there
abbrev pub spares_of : Bool → Act → ℕ
spares_of up Nothing = 0
spares_of up (Apply from body) = 0
spares_of up Keep = 0
spares_of up Promote = 0
spares_of up Discard = 0
spares_of true Restore = 0
spares_of false Restore = 1
spares_of up Drop = 0

-- whether the object is there after an act
abbrev pub is_up_after : Bool → Act → Bool
is_up_after up Nothing = up
is_up_after up (Apply from body) = up
is_up_after up Keep = up
is_up_after up Promote = up
is_up_after up Discard = up
is_up_after up Restore = true
is_up_after up Drop = false

-- whether a tentative state is there after an act
abbrev pub has_tentative_after : Bool → Act → Bool
has_tentative_after tentative Nothing = tentative
has_tentative_after tentative (Apply from body) = tentative
has_tentative_after tentative Keep = true
has_tentative_after tentative Promote = false
has_tentative_after tentative Discard = false
has_tentative_after tentative Restore = tentative
has_tentative_after tentative Drop = tentative

-- what was saved for a step is for the first thing alone that is done
abbrev pub is_saved_after : Bool → Act → Bool
is_saved_after saved Nothing = saved
is_saved_after saved (Apply from body) = false
is_saved_after saved Keep = false
is_saved_after saved Promote = false
is_saved_after saved Discard = false
is_saved_after saved Restore = false
is_saved_after saved Drop = false

abbrev pub outline_after : Outline → Act → Outline
outline_after o act = record {
  up = is_up_after o.up act;
  tentative = has_tentative_after o.tentative act;
  saved = is_saved_after o.saved act;
  spares = o.spares - spares_of o.up act;
}

-- whether acts can be done in order
abbrev pub fits_all : Outline → List Act → Bool
fits_all o [] = true
fits_all o (act ∷ acts) = fits o act && fits_all (outline_after o act) acts

-- how many spares acts take in order
abbrev pub spares_of_all : Bool → List Act → ℕ
spares_of_all up [] = 0
spares_of_all up (act ∷ acts) = spares_of up act + spares_of_all (is_up_after up act) acts

-- an act leads from an object and saved states to others
abbrev pub ActLeads : Act → Option Content → SavedStates → Option Content → SavedStates → Type 0
ActLeads Nothing v d w e = (w ≡ v) × (e ≡ d)
ActLeads (Apply from body) v d w e = (w ≡ option_map (applied from body) v) × (e ≡ d)
ActLeads Keep v d w e = (w ≡ v) × (e.permanent ≡ d.permanent)
    × ((c : Content) × (saved : List ℕ) × (v ≡ Some c) × (e.tentative ≡ Some saved) × IsSavedState c.kind c.value saved)
ActLeads Promote v d w e = (w ≡ v) × (d.tentative ≡ Some e.permanent) × (e.tentative ≡ None)
ActLeads Discard v d w e = (w ≡ v) × (e ≡ record d { tentative = None })
ActLeads Restore v d w e = (e ≡ d) × ((c : Content) × (w ≡ Some c) × IsSavedState c.kind c.value d.permanent)
ActLeads Drop v d w e = (w ≡ None) × (e ≡ d)
