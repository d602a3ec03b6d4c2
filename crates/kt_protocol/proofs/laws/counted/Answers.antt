use Rattle.std.proofs.Common.{ℕ, ◌≤◌, subst}
use Rattle.std.specs.Prelude.{◌*◌, ◌-◌}
use Rattle.kt_protocol.proofs.laws.counted.Goals as goal
use Rattle.kt_protocol.proofs.Bounds.{asks_bounded, decisions_bounded, replies_bounded, same_processes}
use Rattle.kt_protocol.proofs.WholeSteps.{all_after_run}
use Rattle.kt_protocol.specs.States.{opening}
use Rattle.kt_protocol.specs.Steps.{run}

pub returns-clause-asks : goal.returns-clause-asks
returns-clause-asks c = λ n steps k. subst (λ (b : ℕ). (run (opening n) steps).asks k ≤ b * (b - 1)) (same_processes n steps) (asks_bounded (run (opening n) steps) (all_after_run n steps).always.counted k)

pub returns-clause-replies : goal.returns-clause-replies
returns-clause-replies c = λ n steps k. replies_bounded (run (opening n) steps) (all_after_run n steps).always.counted k

pub returns-clause-decisions : goal.returns-clause-decisions
returns-clause-decisions c = λ n steps k. decisions_bounded (run (opening n) steps) (all_after_run n steps).always.counted k
