use Rattle.kt_protocol.specs.States.{opening}
use Rattle.kt_protocol.specs.Steps.{run}
use Rattle.kt_protocol.proofs.LabelsNoted.{by_label}
use Rattle.kt_protocol.proofs.Walk.{invariant_after_run}
use Rattle.kt_protocol.proofs.laws.noted_labels.Goals as goal

pub returns : goal.returns
returns c = record { undone = λ n steps k p q m a d r s f t. by_label (run (opening n) steps) k p q m (invariant_after_run n steps) a d r s f t }
