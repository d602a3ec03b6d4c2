use Rattle.kt_program.proofs.MergedLogs.{has_text}
use Rattle.kt_program.proofs.merged.merge_into.Goals as goal

pub returns-in_ok-finish-in-Ok-clause-merged : goal.returns-in_ok-finish-in-Ok-clause-merged
returns-in_ok-finish-in-Ok-clause-merged g c = has_text c.args.parts.now _ _ c.in-Ok.ensures.merged
