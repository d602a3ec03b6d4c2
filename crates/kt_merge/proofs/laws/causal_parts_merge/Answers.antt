use Rattle.kt_merge.proofs.CausalRows.{causal_log}
use Rattle.kt_merge.proofs.LimitsAlone.{only_limits}
use Rattle.kt_merge.proofs.laws.causal_parts_merge.Goals as goal

pub returns-clause-log : goal.returns-clause-log
returns-clause-log c = causal_log

pub returns-clause-faults : goal.returns-clause-faults
returns-clause-faults c = only_limits
