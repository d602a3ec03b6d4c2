use Rattle.std.proofs.lemmas.Result.{IfOk-weaker}
use Rattle.kt_log_text.specs.Reading.{rows_unread}
use Rattle.kt_checker.proofs.TextAnswers.{passed_exactly}
use Rattle.kt_checker.proofs.streaming.check_stream.Goals as goal

pub returns-clause-answer : goal.returns-clause-answer
returns-clause-answer g c = c.check_rows.ensures.answer (g.R.Read.remaining c.args.log_reader) c.in_ok-rows.ensures

pub returns-clause-fault : goal.returns-clause-fault
returns-clause-fault g c = c.check_rows.ensures.fault (g.R.Read.remaining c.args.log_reader) c.in_ok-rows.ensures

pub returns-clause-yes : goal.returns-clause-yes
returns-clause-yes g c = IfOk-weaker c.check_rows.result _ _ (λ verdict h. passed_exactly (rows_unread (g.R.Read.remaining c.args.log_reader)).left c.args.certificates.now verdict h.rows h.says h.answer) (c.check_rows.ensures.answer (g.R.Read.remaining c.args.log_reader) c.in_ok-rows.ensures)
