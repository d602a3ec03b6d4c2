-- A step that has nothing to do with the object of its process.
use Rattle.std.specs.Prelude.{◌<◌, ◌&&◌, nat_lt}
use Rattle.std.proofs.Common.{◌≡◌, ℕ, Bool, true, List, [], ◌∷◌, length, set, refl, arith, ap, subst, sym, ◌∙◌, inl, inr}
use Rattle.std.proofs.lemmas.List.{set-get_or}
use Rattle.std.proofs.lemmas.Option.{slice_get_cases}
use Rattle.std.specs.declared.alloc.Global.{Global}
use Rattle.std.specs.declared.dyn_box.DynBox.{DynBox}
use Rattle.kt_object.specs.Holdings.{Content}
use Rattle.kt_object.specs.declared.held.Held.{Held}
use Rattle.kt_plan.specs.declared.steps.Act.TheVariants as act
use Rattle.kt_plan.specs.declared.steps.Give.{Give}
use Rattle.kt_plan.specs.declared.steps.Look.TheVariants as look
use Rattle.kt_plan.specs.declared.steps.Step.{Step}
use Rattle.kt_plan.specs.declared.steps.Step.TheVariants as steps
use Rattle.std.proofs.lemmas.Bool.Decides.{nat_tests}
use Rattle.kt_promises.specs.Looks.{look as needed}
use Rattle.kt_promises.specs.Progress.{Progress}
use Rattle.kt_promises.specs.Steps.{process_of_step}
use Rattle.kt_core.specs.Shown.{Mirrors}
use Rattle.kt_core.specs.Worlds.{World, can_make}
use Rattle.kt_run.specs.RunLaws.{RunLaws}
use Rattle.kt_run.specs.Runs.{told_and_held, Tells, StepsTo}
use Rattle.kt_run.proofs.Acting.{held_to}

-- each process holds what it held
pub steps_quietly : {X : Type 0} {D : X → Type 0} → RunLaws → (helds : List (Held X D)) (content_of : DynBox X Global D → Content) (old new : World) (step : Step) (give : Give)
    → process_of_step step < length helds
    → ((first : ℕ) (v : Progress) → Mirrors old.agenda old.system first v → needed old.agenda.plan v step ≡ look.Plain)
    → Tells old [] step give new [] (act.Nothing ∷ act.Nothing ∷ [])
    → StepsTo old (told_and_held [] helds content_of) step new (told_and_held [] helds content_of)
steps_quietly {X} {D} laws helds content_of old new step give there looks tells = elim ((slice_get_cases helds (process_of_step step)).1) [
  | inl found ↦
      let x = found.0 in
      let i = process_of_step step in
      let same : set helds i x ≡ helds = ap (λ (z : Held X D). set helds i z) (sym found.3) ∙ set-get_or helds i x in
      subst (λ (zs : List (Held X D)). StepsTo old (told_and_held [] helds content_of) step new (told_and_held [] zs content_of)) same
      (held_to laws helds content_of i x x found.2 old new [] [] step refl give (act.Nothing ∷ act.Nothing ∷ []) look.Plain
      (λ first v r. sym (looks first v r)) (λ e. absurd (cc (e))) (λ h holds. holds) refl tells)
  | inr past ↦ absurd (let p = past.0 in omega (arith, there, p))
]

-- whose step can be made is there
pub mover_there : (w : World) (x : Step) → can_make w x ≡ true → process_of_step x < w.system.size
mover_there w (steps.Do p) e = below p w.system.size _ e
  where
    below : (p n : ℕ) (b : Bool) → (nat_lt p n && b) ≡ true → p < n
    below p n b e = grind (arith, nat_tests, e)
mover_there w (steps.Take at from) e = below at w.system.size _ e
  where
    below : (p n : ℕ) (b : Bool) → (nat_lt p n && b) ≡ true → p < n
    below p n b e = grind (arith, nat_tests, e)
