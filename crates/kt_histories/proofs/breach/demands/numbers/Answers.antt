use Rattle.kt_histories.proofs.breach.demands.numbers.Goals as goal

pub returns-in-Unwilling-clause-on : goal.returns-in-Unwilling-clause-on
returns-in-Unwilling-clause-on c = (tt, (c.named.ensures.on c.args.row.now, (tt, (tt, (tt, (tt, (tt, tt)))))))

pub returns-in-Refused-clause-on : goal.returns-in-Refused-clause-on
returns-in-Refused-clause-on c = (c.named-in-Refused.ensures.on c.args.row.now, (tt, (tt, (tt, (tt, (tt, (tt, tt)))))))
