-- The rows that a step of a world adds are those of its run.
use Rattle.std.proofs.Common.{◌≡◌, ℕ, true, None, List, drop, length, sym, ap, subst, ◌∙◌}
use Rattle.kt_plan.specs.declared.steps.Step.{Step}
use Rattle.kt_plan.specs.declared.steps.Give.{Give}
use Rattle.kt_spacetime.specs.declared.event.Event.{Event}
use Rattle.kt_promises.specs.Rows.{AreRowsOfStep}
use Rattle.kt_promises.specs.Steps.{enabled, progress_after}
use Rattle.kt_promises.specs.Progress.{Progress}
use Rattle.kt_core.specs.PlanLaws.{PlanLaws}
use Rattle.kt_core.specs.Shown.{Mirrors}
use Rattle.kt_core.specs.Worlds.{World, step_refusal}
use Rattle.kt_core.proofs.Enabled.{enabled_is, enabled_if}

pub rows_fit : PlanLaws → (old new : World) (first : ℕ) (v : Progress) (x : Step) (give : Give) → step_refusal old x ≡ None → Mirrors old.agenda old.system first v
    → Mirrors new.agenda new.system first (progress_after old.agenda.plan v x give)
    → AreRowsOfStep old.agenda.plan v x give (drop (length old.system.rows.rows) new.system.rows.rows)
rows_fit laws old new first v x give e r next =
    let on : enabled old.agenda.plan v x ≡ true = sym (enabled_is laws old first v r x) ∙ enabled_if old x e in
    subst (λ (l : List Event). AreRowsOfStep old.agenda.plan v x give l)
    (ap (λ (l : List Event). drop (length v.now.log) l) (sym next.now.log) ∙ ap (λ (l : List Event). drop (length l) new.system.rows.rows) (sym r.now.log))
    (laws.fit old.agenda.plan first v x give r.limits r.reached on)
