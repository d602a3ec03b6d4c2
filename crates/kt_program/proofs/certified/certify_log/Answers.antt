use Rattle.kt_program.proofs.StoredLogs.{uncertified}
use Rattle.kt_program.proofs.certified.certify_log.Goals as goal

pub returns-in-Err-clause-fault : goal.returns-in-Err-clause-fault
returns-in-Err-clause-fault g c =
    uncertified (g.L.Read.remaining c.args.log.source) c.in-Err.fault c.from.result c.from.ensures c.in-Err.ensures.fault
