-- Acts done on real things lead to what is due.
use Rattle.std.proofs.Common.{◌≡◌, ℕ, ℤ, true, Option, Some, None, List, [], ◌∷◌, refl, sym, ap, subst, ◌∙◌}
use Rattle.std.specs.Prelude.{option_map, unwrap_or}
use Rattle.kt_protocol.specs.States.{ProtocolStep, opening}
use Rattle.kt_protocol.specs.LateSteps.{late_run}
use Rattle.kt_machine.specs.Done.{done}
use Rattle.kt_machine.specs.Values.{Rules, Due, Act, Apply, Keep, Promote, Discard, Restore, Drop, due, first_due, does, does_all}
use Rattle.kt_machine.specs.Acts.{acts_through}
use Rattle.kt_machine.specs.Things.{Things, Saving, IsSaving, first_things, ThingsLead, LeadsAlong, things_for}
use Rattle.kt_machine.proofs.RunActs.{whole_run}

module _ {V B : Type 0} (r : Rules V) (s : Saving V B) (i : IsSaving r s) where
  IsValid : Option V → Type 0
  IsValid None = Unit {0}
  IsValid (Some v) = s.valid v ≡ true

  record Valid (d : Due V) : Type 0 where
    object : IsValid d.object
    permanent : s.valid d.permanent ≡ true
    tentative : IsValid d.tentative

  after_valid : (o : Option V) (from : ℕ) (body : ℤ) → s.fits body ≡ true → IsValid o → IsValid (option_map (λ v. r.after v from body) o)
  unfolding IsValid
  after_valid None from body f v = tt
  after_valid (Some x) from body f v = i.after x from body v f

  none_valid : IsValid None
  unfolding IsValid
  none_valid = tt

  some_valid : (v : V) → s.valid v ≡ true → IsValid (Some v)
  unfolding IsValid
  some_valid v h = h

  promoted : (o : Option V) (v : V) → IsValid o → s.valid v ≡ true → s.valid (unwrap_or o v) ≡ true
  unfolding IsValid
  promoted None v h g = g
  promoted (Some w) v h g = h

  saved_promoted : (o : Option V) (v : V) → unwrap_or (option_map s.saved o) (s.saved v) ≡ s.saved (unwrap_or o v)
  saved_promoted None v = refl
  saved_promoted (Some w) v = refl

  one : (a : Act) (d : Due V) (y : Things V B) → Valid d → ThingsLead r s a (things_for s d) y → Valid (does r d a) × (y ≡ things_for s (does r d a))
  one (Apply from body) d y v l = (record { object = after_valid d.object from body l.0 v.object; permanent = v.permanent; tentative = v.tentative }, l.1)
  one Keep d y v l = (record { object = v.object; permanent = v.permanent; tentative = v.object }, l)
  one Promote d y v l = (record { object = v.object; permanent = promoted d.tentative d.permanent v.tentative v.permanent; tentative = none_valid }, l ∙ ap (λ (b : B). record { present = d.object; permanent = b; tentative = None }) (saved_promoted d.tentative d.permanent))
  one Discard d y v l = (record { object = v.object; permanent = v.permanent; tentative = none_valid }, l)
  one Restore d y v l =
      let e : l.value ≡ d.permanent = i.exact l.value d.permanent l.valid v.permanent (sym l.saved) in
      (record { object = some_valid d.permanent v.permanent; permanent = v.permanent; tentative = v.tentative }, l.present ∙ ap (λ (x : V). record (things_for s d) { present = Some x }) e)
  one Drop d y v l = (record { object = none_valid; permanent = v.permanent; tentative = v.tentative }, l)

  along : (acts : List Act) (d : Due V) (y : Things V B) → Valid d → LeadsAlong r s acts (things_for s d) y → y ≡ things_for s (does_all r d acts)
  along [] d y v l = l
  along (a ∷ acts) d y v l =
      let h = one a d l.0 v l.1 in
      along acts (does r d a) y h.0 (subst (λ (z : Things V B). LeadsAlong r s acts z y) h.1 l.2)

  -- some acts lead from first things to those that are due after them
  pub things_after : (acts : List Act) (y : Things V B) → LeadsAlong r s acts (first_things r s) y → y ≡ things_for s (does_all r (first_due r) acts)
  things_after acts y l = along acts (first_due r) y (record { object = some_valid r.opening i.opening; permanent = i.opening; tentative = none_valid }) l

  pub things_of_run : (n : ℕ) (steps : List ProtocolStep) (p : ℕ) (y : Things V B) → LeadsAlong r s (acts_through p (opening n) steps) (first_things r s) y → y ≡ things_for s (due r (done (late_run (opening n) steps).log) p)
  things_of_run n steps p y l = things_after (acts_through p (opening n) steps) y l ∙ ap (things_for s) (whole_run r n steps p)
