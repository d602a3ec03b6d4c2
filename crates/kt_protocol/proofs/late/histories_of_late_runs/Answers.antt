use Rattle.std.proofs.Common.{◌≡◌, subst, sym}
use Rattle.kt_protocol.specs.States.{State}
use Rattle.kt_protocol.specs.OwnHistories.{own_histories, live_once_closed}
use Rattle.kt_protocol.proofs.OwnSteps.{own_after_run}
use Rattle.kt_protocol.proofs.LateWholeSteps.{once_closed_run}
use Rattle.kt_protocol.proofs.late.histories_of_late_runs.Goals as goal

pub returns : goal.returns
returns c = record { own = λ n steps p. subst (λ (s : State). s.so_far.live p ≡ live_once_closed s.so_far (own_histories s.log).own p) (sym (once_closed_run n steps)) ((own_after_run n steps).live p) }
