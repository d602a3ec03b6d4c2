use Rattle.std.proofs.Common.{rules, arith, ◌≡◌, ◌<◌, length, get_or, ◌++◌}
use Rattle.kt_text.proofs.PieceFacts.{front_none, at_fault}
use Rattle.kt_report.specs.Unwilling.{answer_line}
use Rattle.kt_report.proofs.SendingFacts.{sends_pushed, sends_all, stops_at_item, stops_pushed}
use Rattle.kt_report.proofs.instances.write_unwilling.Goals as goal

pub loop-answer-preserved : goal.loop-answer-preserved
loop-answer-preserved g c =
    let contents = g.W.Write.contents in
    let items = c.args.unwilling.now in
    let within : c.loop-answer.answer-index < length items = omega arith in
    let at : get_or items c.loop-answer.answer-index c.answer-item.result ≡ c.answer-item.result = search rules in
    sends_pushed (answer_line c.args.names.now) (contents c.args.writer.now) (contents c.loop-answer.writer) (contents c.write_full.new.writer) c.args.text.now.items
    c.loop-answer.text.items c.push_unwilling.new.text.items c.write_full.new.text.items items c.loop-answer.answer-index c.answer-item.result within at c.loop-answer.invariant
    c.in_ok-push_unwilling.ensures c.in_ok-write_full.ensures.sent

pub returns-clause-sent : goal.returns-clause-sent
returns-clause-sent g c = sends_all (answer_line c.args.names.now) _ _ _ _ c.args.unwilling.now c.loop-answer.answer-index (omega arith) c.loop-answer.invariant

pub returns-in_err-push_unwilling-clause-stopped : goal.returns-in_err-push_unwilling-clause-stopped
returns-in_err-push_unwilling-clause-stopped g c =
    let contents = g.W.Write.contents in
    let f = answer_line c.args.names.now in
    let d = contents c.loop-answer.writer in
    let items = c.args.unwilling.now in
    let item = c.answer-item.result in
    let within : c.loop-answer.answer-index < length items = omega arith in
    let at : get_or items c.loop-answer.answer-index item ≡ item = search rules in
    at_fault c.from_residual.result
    (stops_at_item f (contents c.args.writer.now) d d c.args.text.now.items c.loop-answer.text.items items c.loop-answer.answer-index item within at c.loop-answer.invariant
    (front_none d (c.loop-answer.text.items ++ f item)))

pub returns-in_err-write_full-clause-stopped : goal.returns-in_err-write_full-clause-stopped
returns-in_err-write_full-clause-stopped g c =
    let contents = g.W.Write.contents in
    let f = answer_line c.args.names.now in
    let b = contents c.loop-answer.writer in
    let d = contents c.write_full.new.writer in
    let items = c.args.unwilling.now in
    let item = c.answer-item.result in
    let within : c.loop-answer.answer-index < length items = omega arith in
    let at : get_or items c.loop-answer.answer-index item ≡ item = search rules in
    at_fault c.from_residual-in_err-write_full.result
    (stops_pushed f (contents c.args.writer.now) b d c.args.text.now.items c.loop-answer.text.items c.push_unwilling.new.text.items items c.loop-answer.answer-index item within at c.loop-answer.invariant c.in_ok-push_unwilling.ensures c.in_err-write_full.ensures.stopped)
