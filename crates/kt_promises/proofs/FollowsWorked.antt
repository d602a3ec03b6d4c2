-- Where worked moves lead, the log follows the plan.
use Rattle.std.proofs.Common.{◌≡◌, true, List, refl, subst, Some, None}
use Rattle.std.specs.Prelude.{Option, option_map}
use Rattle.kt_spacetime.specs.declared.event.Event.{Event}
use Rattle.kt_plan.specs.Limits.{Planned, IsPlan}
use Rattle.kt_promises.specs.Runs.{Move}
use Rattle.kt_promises.specs.Progress.{Progress}
use Rattle.kt_promises.specs.Steps.{is_at_rest}
use Rattle.kt_promises.specs.WorkedRuns.{led_by, at_end}
use Rattle.kt_meaning.specs.Follows.{FollowsPlan, BeginsPlan}
use Rattle.kt_promises.proofs.FollowsRuns.{begins_seen, follows_seen}

pub worked_begins : (plan : Planned) (moves : List Move) (log : List Event) → IsPlan plan → at_end plan moves (λ w. w.now.log) ≡ Some log → BeginsPlan plan log
worked_begins plan moves log i e = go (led_by plan moves) refl e
  where
    go : (o : Option Progress) → led_by plan moves ≡ o → option_map (λ (w : Progress). w.now.log) o ≡ Some log → BeginsPlan plan log
    go None f h = absurd (cc (h))
    go (Some w) f h = subst (BeginsPlan plan) (cc (h)) (begins_seen plan 100 w i (record { moves = moves; leads = f }))

pub worked_follows : (plan : Planned) (moves : List Move) (log : List Event) → IsPlan plan → at_end plan moves (λ w. w.now.log) ≡ Some log → at_end plan moves (λ w. is_at_rest plan w) ≡ Some true → FollowsPlan plan log
worked_follows plan moves log i e a = go (led_by plan moves) refl e a
  where
    go : (o : Option Progress) → led_by plan moves ≡ o → option_map (λ (w : Progress). w.now.log) o ≡ Some log → option_map (λ (w : Progress). is_at_rest plan w) o ≡ Some true → FollowsPlan plan log
    go None f h r = absurd (cc (h))
    go (Some w) f h r = subst (FollowsPlan plan) (cc (h)) (follows_seen plan 100 w i (record { moves = moves; leads = f }) (cc (r)))
