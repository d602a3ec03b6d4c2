use Rattle.kt_program.proofs.MergedLogs.{stop_of}
use Rattle.kt_program.proofs.merged.merged_text.Goals as goal

pub returns-in-Err-clause-stopped : goal.returns-in-Err-clause-stopped
returns-in-Err-clause-stopped g c = stop_of c.args.parts.now c.in-Err.unmerged.fault _ _ c.unmerged_failure.result.fault c.in-Err.ensures.stopped c.unmerged_failure.ensures
