-- A process's real object and saved states, and what acts do to them.
use Rattle.std.specs.Prelude.{◌≡◌, ℕ, ℤ, Bool, true, Option, Some, None, option_map, unwrap_or, List, [], ◌∷◌}
use Rattle.kt_machine.specs.Values.{Rules, Due, Act, Apply, Keep, Promote, Discard, Restore, Drop}

-- the value of the object that is there, and the saved states
pub record Things (V B : Type 0) : Type 0 where
  pub present : Option V
  pub permanent : B
  pub tentative : Option B

-- how values are saved: those that an object can have are known by what is saved of them
pub record Saving (V B : Type 0) : Type 0 where
  pub saved : V → B
  pub valid : V → Bool
  pub fits : ℤ → Bool

-- objects have valid values throughout, and two of which the same is saved are the same
pub record IsSaving {V B : Type 0} (r : Rules V) (s : Saving V B) : Type 0 where
  pub opening : s.valid r.opening ≡ true
  pub after : (v : V) (from : ℕ) (body : ℤ) → s.valid v ≡ true → s.fits body ≡ true → s.valid (r.after v from body) ≡ true
  pub exact : (v w : V) → s.valid v ≡ true → s.valid w ≡ true → s.saved v ≡ s.saved w → v ≡ w

-- at first: an object with its first value, which is saved
abbrev pub first_things : {V B : Type 0} → Rules V → Saving V B → Things V B
first_things r s = record { present = Some r.opening; permanent = s.saved r.opening; tentative = None }

-- an object is restored to a value that it can have and of which this is saved
pub record Restores {V B : Type 0} (s : Saving V B) (x y : Things V B) : Type 0 where
  pub value : V
  pub valid : s.valid value ≡ true
  pub saved : x.permanent ≡ s.saved value
  pub present : y ≡ record x { present = Some value }

-- an act leads from some things to others
abbrev pub ThingsLead : {V B : Type 0} → Rules V → Saving V B → Act → Things V B → Things V B → Type 0
ThingsLead r s (Apply from body) x y = (s.fits body ≡ true) × (y ≡ record x { present = option_map (λ v. r.after v from body) x.present })
ThingsLead r s Keep x y = y ≡ record x { tentative = option_map s.saved x.present }
ThingsLead r s Promote x y = y ≡ record x { permanent = unwrap_or x.tentative x.permanent; tentative = None }
ThingsLead r s Discard x y = y ≡ record x { tentative = None }
ThingsLead r s Restore x y = Restores s x y
ThingsLead r s Drop x y = y ≡ record x { present = None }

-- some acts lead there, one after another
abbrev pub LeadsAlong : {V B : Type 0} → Rules V → Saving V B → List Act → Things V B → Things V B → Type 0
LeadsAlong r s [] x y = y ≡ x
LeadsAlong {V} {B} r s (a ∷ acts) x y = (z : Things V B) × ThingsLead r s a x z × LeadsAlong r s acts z y

-- the things of a process are those that are due to it
abbrev pub things_for : {V B : Type 0} → Saving V B → Due V → Things V B
things_for s d = record { present = d.object; permanent = s.saved d.permanent; tentative = option_map s.saved d.tentative }
