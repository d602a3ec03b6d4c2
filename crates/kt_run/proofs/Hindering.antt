-- What stands in the way of a step that is given.
use Rattle.std.specs.Prelude.{Option, not, if◌then◌else◌}
use Rattle.std.proofs.Common.{◌≡◌, ◌≢◌, ℕ, Bool, true, false, Some, None, List, refl, sym, subst}
use Rattle.kt_object.specs.Holdings.{Content}
use Rattle.kt_plan.specs.Limits.{Planned}
use Rattle.kt_plan.specs.declared.steps.Step.{Step}
use Rattle.kt_promises.specs.Hindrances.{hindrance}
use Rattle.kt_promises.specs.declared.hindrances.Hindrance.{Hindrance}
use Rattle.kt_promises.specs.Progress.{Progress}
use Rattle.kt_core.specs.Shown.{Mirrors}
use Rattle.kt_core.specs.Worlds.{World, can_make, step_refusal, is_full, lacks_label}
use Rattle.kt_core.specs.declared.faults.StepFault.TheVariants.{NotEnabled, LogFull, LabelsSpent}
use Rattle.kt_run.specs.Hindered.{IsHindered}
use Rattle.kt_run.specs.Refused.{IsGivenNext}

-- what can be made is not refused as what is not enabled
pub not_so_refused : (w : World) (x : Step) → can_make w x ≡ true → step_refusal w x ≢ Some NotEnabled
not_so_refused w x e = go (can_make w x) (is_full w) (lacks_label w x) e
  where
    go : (a b c : Bool) → a ≡ true → (if not a then Some NotEnabled else if b then Some LogFull else if c then Some LabelsSpent else None) ≢ Some NotEnabled
    go true true c e f = cc (f)
    go true false true e f = cc (f)
    go true false false e f = cc (f)
    go false b c e f = cc (e)

-- the next step given is not enabled, and the world tells what stands in its way
pub given_hindered : (plan : Planned) (cast : List (List Content)) (steps : List Step) (done : ℕ) (w : World) (x : Step) (n : IsGivenNext plan cast steps done w x) (told : Option Hindrance) → w.agenda.plan ≡ plan
    → ((first : ℕ) (v : Progress) → Mirrors w.agenda w.system first v → told ≡ hindrance w.agenda.plan v x) → (told ≡ None → can_make w x ≡ true) → can_make w x ≡ false
    → (why : Hindrance) × (told ≡ Some why) × IsHindered plan cast steps done why
given_hindered plan cast steps done w x n None same tells none off = absurd (let on = none refl in cc (on, off))
given_hindered plan cast steps done w x n (Some why) same tells none off = (
  why,
  refl,
  record { world = w; step = x; next = n; hindered = subst (λ (z : Planned). hindrance z n.run.now x ≡ Some why) same (sym (tells 0 n.run.now n.run.shown)) },
)
