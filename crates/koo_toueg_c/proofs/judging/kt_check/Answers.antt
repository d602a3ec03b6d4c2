use Rattle.koo_toueg_c.proofs.Exactly.{exact}
use Rattle.koo_toueg_c.proofs.judging.kt_check.Goals as goal

pub returns-in-Ok-clause-yes : goal.returns-in-Ok-clause-yes
returns-in-Ok-clause-yes c = λ answered.
    exact c.args.log.now c.args.certificates.now c.in-Ok.verdict c.tell_answer.result c.in-Ok.ensures.answer c.tell_answer.ensures.told.ends
