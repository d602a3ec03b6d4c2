use Rattle.std.proofs.Common.{◌≡◌, subst, sym, ◌∙◌}
use Rattle.kt_protocol.proofs.Walk.{invariant_after_run}
use Rattle.kt_protocol.specs.States.{State, opening}
use Rattle.kt_protocol.specs.Summary.{summary}
use Rattle.kt_protocol.specs.LateSteps.{late_run}
use Rattle.kt_protocol.proofs.LateWholeSteps.{once_closed_run, same_log, once_closed_rest}
use Rattle.kt_protocol.proofs.late.late_runs.Goals as goal

pub returns-clause-closed : goal.returns-clause-closed
returns-clause-closed c = λ n steps. once_closed_run n steps

pub returns-clause-same_log : goal.returns-clause-same_log
returns-clause-same_log c = λ n steps. same_log n steps

pub returns-clause-at_rest : goal.returns-clause-at_rest
returns-clause-at_rest c = λ n steps o. sym (once_closed_rest (late_run (opening n) steps) o) ∙ once_closed_run n steps

pub returns-clause-known : goal.returns-clause-known
returns-clause-known c = λ n steps. subst (λ (s : State). s.so_far ≡ summary s.log) (sym (once_closed_run n steps)) (invariant_after_run n steps).histories.of_log
