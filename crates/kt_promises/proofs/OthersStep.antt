-- What stays as it is for a process while others move.
use Rattle.std.proofs.Common.{◌≡◌, ℕ, true, List, [], ◌∷◌, sym, ap, ◌∙◌, Some, None}
use Rattle.std.specs.Prelude.{Option, unwrap_or}
use Rattle.kt_protocol.proofs.Choices.{at_if}
use Rattle.kt_machine.specs.Done.{done}
use Rattle.kt_machine.specs.Values.{Rules, due, does_all}
use Rattle.kt_plan.specs.Limits.{Planned, IsPlan}
use Rattle.kt_plan.specs.declared.steps.Step.{Step}
use Rattle.kt_promises.specs.Steps.{process_of_step, enabled, progress_after}
use Rattle.kt_promises.specs.Runs.{Move, after_moves, RunReaches, AreOfOthers}
use Rattle.kt_promises.specs.Progress.{Progress}
use Rattle.kt_promises.specs.Looks.{look}
use Rattle.kt_promises.proofs.RunSteps.{next_reached_seen, stays_on, stays_seen}
use Rattle.kt_promises.proofs.ActsOfSteps.{values_lead, others_idle}

pub waits : (plan : Planned) (first : ℕ) (w v : Progress) (x : Step) (moves : List Move) → IsPlan plan → RunReaches plan first w → enabled plan w x ≡ true → AreOfOthers (process_of_step x) moves → after_moves plan w moves ≡ Some v → (enabled plan v x ≡ true) × (look plan v x ≡ look plan w x)
waits plan first w v x [] i r e o h = let s : w ≡ v = ap (λ (o : Option Progress). unwrap_or o w) h in (ap (λ (u : Progress). enabled plan u x) (sym s) ∙ e, ap (λ (u : Progress). look plan u x) (sym s))
waits plan first w v x (y ∷ ys) i r e o h = at_if (λ (p : Option Progress). p ≡ Some v → (enabled plan v x ≡ true) × (look plan v x ≡ look plan w x)) (enabled plan w y.step) (after_moves plan (progress_after plan w y.step y.give) ys) None
    (λ b z. let a = waits plan first (progress_after plan w y.step y.give) v x ys i (next_reached_seen plan first w y.step y.give i r b) (stays_on plan first w x y.step y.give i r e b o.0) o.1 z in
    (a.0, a.1 ∙ stays_seen plan first w x y.step y.give i r e b o.0))
    (λ b z. absurd (cc (z))) h

pub due_waits : {V : Type 0} (r : Rules V) (plan : Planned) (first : ℕ) (w v : Progress) (p : ℕ) (moves : List Move) → IsPlan plan → RunReaches plan first w → AreOfOthers p moves → after_moves plan w moves ≡ Some v → due r (done v.now.log) p ≡ due r (done w.now.log) p
due_waits r plan first w v p [] i s o h = let e : w ≡ v = ap (λ (o : Option Progress). unwrap_or o w) h in ap (λ (u : Progress). due r (done u.now.log) p) (sym e)
due_waits r plan first w v p (y ∷ ys) i s o h = at_if (λ (q : Option Progress). q ≡ Some v → due r (done v.now.log) p ≡ due r (done w.now.log) p) (enabled plan w y.step) (after_moves plan (progress_after plan w y.step y.give) ys) None
    (λ b z. due_waits r plan first (progress_after plan w y.step y.give) v p ys i (next_reached_seen plan first w y.step y.give i s b) o.1 z
    ∙ (sym (values_lead r plan first w y.step y.give p i s b) ∙ ap (does_all r (due r (done w.now.log) p)) (others_idle plan first w y.step y.give p i s b o.0)))
    (λ b z. absurd (cc (z))) h
