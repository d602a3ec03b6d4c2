use Rattle.koo_toueg_c.proofs.Refusals.{refused}
use Rattle.koo_toueg_c.proofs.judging.verdict_of.Goals as goal

pub returns-in-Err-clause-fault : goal.returns-in-Err-clause-fault
returns-in-Err-clause-fault c =
    c.fault_before.ensures c.args.certificates.now (refused c.args.certificates.now c.in-Err.fault c.in-Err.ensures.fault)
