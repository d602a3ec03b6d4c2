-- In a run no process takes of itself: its steps are read back as they are written.
use Rattle.std.proofs.Common.{◌≡◌, ◌<◌, ℕ, Bool, true, false, All, List, [], ◌∷◌, length, map, arith, refl, subst, Some, None}
use Rattle.std.specs.Prelude.{◌&&◌, nat_lt, Option, if◌then◌else◌}
use Rattle.std.proofs.lemmas.Bool.Decides.{nat_tests}
use Rattle.std.proofs.lemmas.List.Elements.{All-cons}
use Rattle.kt_spacetime.specs.declared.event.Event.{Event}
use Rattle.kt_object.specs.Holdings.{Content}
use Rattle.kt_plan.specs.Limits.{Planned, IsPlan}
use Rattle.kt_plan.specs.declared.steps.Step.{Step}
use Rattle.kt_plan.specs.declared.steps.Step.TheVariants.{Do, Take}
use Rattle.kt_promises.specs.Progress.{Progress, next_command, progress_at_start}
use Rattle.kt_promises.specs.Runs.{Move, RunReaches, after_moves}
use Rattle.kt_promises.specs.Steps.{can_take_from, enabled, may_do, progress_after}
use Rattle.kt_run.specs.Orders.{IsRunBy}
use Rattle.kt_scenario.specs.Written.{IsStepOf}
use Rattle.kt_program.proofs.RunLaws.{RunLaws}

module _ (laws : RunLaws) (plan : Planned) (i : IsPlan plan) where
  both : (a b c : Bool) → ((a && b) && c) ≡ true → (a ≡ true) × (b ≡ true) × (c ≡ true)
  both true true true e = (refl, refl, refl)
  both true true false e = absurd (cc (e))
  both true false c e = absurd (cc (e))
  both false b c e = absurd (cc (e))

  below : (m n : ℕ) → nat_lt m n ≡ true → m < n
  below m n e = grind (arith, nat_tests, e)

  first : (a b : Bool) → (a && b) ≡ true → a ≡ true
  first true b e = refl
  first false b e = absurd (cc (e))

  step_of : (w : Progress) → RunReaches plan 0 w → (x : Step) → enabled plan w x ≡ true → IsStepOf (length plan.names) x
  step_of w r (Do p) e = below p (length plan.names) (first (nat_lt p (length plan.names)) (may_do w p (next_command plan w p)) e)
  step_of w r (Take p q) e =
      let b = both (nat_lt p (length plan.names)) (nat_lt q (length plan.names)) (can_take_from w.now p q) e in
      (below p (length plan.names) b.0, below q (length plan.names) b.1, laws.of_another plan 0 w p q i r e)

  at_if : {X : Type 0} (P : X → Type 0) (b : Bool) (x y : X) → (b ≡ true → P x) → (b ≡ false → P y) → P (if b then x else y)
  at_if P true x y f g = f refl
  at_if P false x y f g = g refl

  steps_along : (moves : List Move) (u w : Progress) → RunReaches plan 0 u → after_moves plan u moves ≡ Some w → All (IsStepOf (length plan.names)) (map (λ (m : Move). m.step) moves)
  steps_along [] u w r e = λ k d l. absurd (omega (arith, l))
  steps_along (x ∷ xs) u w r e = at_if (λ (o : Option Progress). o ≡ Some w → All (IsStepOf (length plan.names)) (map (λ (m : Move). m.step) (x ∷ xs))) (enabled plan u x.step) (after_moves plan (progress_after plan u x.step x.give) xs) None
      (λ on z. All-cons (IsStepOf (length plan.names)) x.step (map (λ (m : Move). m.step) xs) (step_of u r x.step on)
      (steps_along xs (progress_after plan u x.step x.give) w (laws.next plan 0 u x.step x.give i r on) z))
      (λ on z. absurd (cc (z))) e

  -- each step of a run is one of a process that is there, and a take is of another one
  pub steps_of_run : (cast : List (List Content)) (steps : List Step) (rows : List Event) → IsRunBy plan cast steps rows → All (IsStepOf (length plan.names)) steps
  steps_of_run cast steps rows by =
      subst (λ (l : List Step). All (IsStepOf (length plan.names)) l) by.made
      (steps_along by.moves (progress_at_start plan 0) by.run.end (record { moves = []; leads = refl }) by.run.leads)
