use Rattle.std.proofs.lemmas.Result.{err_from_is_err_and}
use Rattle.kt_merge.proofs.reading.own_row_in.Goals as goal

pub returns-in_err-row-clause-fault : goal.returns-in_err-row-clause-fault
returns-in_err-row-clause-fault c =
    let p = err_from_is_err_and c.from_residual.result c.from_residual.ensures.1 in
    rw (p.1, p.2) (λ rest. c.in_err-row.ensures.fault c.args.process c.args.clock rest)
