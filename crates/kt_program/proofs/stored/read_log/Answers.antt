use Rattle.std.proofs.lemmas.Result.{err_from_is_err_and}
use Rattle.kt_log_text.specs.declared.fault.LogFault.TheVariants as log
use Rattle.kt_program.specs.Stored.{records_told}
use Rattle.kt_program.proofs.Unread.{no_rows}
use Rattle.kt_program.proofs.stored.read_log.Goals as goal

pub returns-in-Ok-clause-read : goal.returns-in-Ok-clause-read
returns-in-Ok-clause-read g c = rw c.in_ok-rows.ensures at c.in-Ok.ensures.found

pub returns-clause-fault : goal.returns-clause-fault
returns-clause-fault g c = (c.in-Err.fault, c.log_failure.ensures, rw c.in_ok-rows.ensures at c.in-Err.ensures.fault)

pub returns-in_err-rows-clause-fault : goal.returns-in_err-rows-clause-fault
returns-in_err-rows-clause-fault g c =
    let p = err_from_is_err_and c.from_residual.result c.from_residual.ensures.1 in
    rw p.1 (log.Memory, p.2, no_rows (records_told (g.L.Read.remaining c.args.log.source)))
