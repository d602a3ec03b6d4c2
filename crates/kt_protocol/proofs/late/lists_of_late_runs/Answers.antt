use Rattle.std.proofs.Common.{◌≡◌, true, subst, sym}
use Rattle.kt_protocol.specs.States.{State, opening}
use Rattle.kt_protocol.specs.LateSteps.{late_run}
use Rattle.kt_protocol.specs.KeptInOrder.{has_only_messages}
use Rattle.kt_protocol.proofs.KeptLists.{held_closed_messages}
use Rattle.kt_protocol.proofs.LateWholeSteps.{AllQuiet, all_quiet, once_closed_run, agrees_after_run}
use Rattle.kt_protocol.proofs.late.lists_of_late_runs.Goals as goal

pub returns-clause-older_first : goal.returns-clause-older_first
returns-clause-older_first c = λ n steps p q s. (agrees_after_run n steps).kept.parted p q s

pub returns-clause-kept_messages : goal.returns-clause-kept_messages
returns-clause-kept_messages c = λ n steps q p. (agrees_after_run n steps).kept.kept_messages q p

pub returns-clause-held_messages : goal.returns-clause-held_messages
returns-clause-held_messages c = λ n steps q p. (agrees_after_run n steps).kept.held_messages q p

pub returns-clause-held_messages_at_once : goal.returns-clause-held_messages_at_once
returns-clause-held_messages_at_once c = λ n steps q p. subst (λ (s : State). has_only_messages (s.held q p) ≡ true) (once_closed_run n steps) (held_closed_messages (late_run (opening n) steps) q p (agrees_after_run n steps).kept)

pub returns-clause-quiet : goal.returns-clause-quiet
returns-clause-quiet c = λ n steps k q p a b d m rest e. subst AllQuiet (sym (once_closed_run n steps)) (all_quiet n steps) k q p a b d m rest e
