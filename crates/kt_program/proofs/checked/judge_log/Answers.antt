use Rattle.std.proofs.lemmas.Result.{err_from_is_err_and}
use Rattle.kt_log_text.specs.declared.fault.LogFault.TheVariants as log
use Rattle.kt_program.specs.Stored.{records_told}
use Rattle.kt_program.proofs.Unread.{no_rows}
use Rattle.kt_program.proofs.checked.judge_log.Goals as goal

pub returns-in_err-rows-clause-fault : goal.returns-in_err-rows-clause-fault
returns-in_err-rows-clause-fault g c =
    let p = err_from_is_err_and c.from_residual.result c.from_residual.ensures.1 in
    rw p.1 (log.Memory, p.2, no_rows (records_told (g.L.Read.remaining c.args.log.source)))
