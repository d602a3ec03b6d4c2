use Rattle.std.proofs.Common.{rules, arith, ◌≡◌, ◌<◌, length, get_or, ◌++◌}
use Rattle.kt_text.proofs.PieceFacts.{front_none, at_fault}
use Rattle.kt_report.specs.Lines.{refusal_line}
use Rattle.kt_report.proofs.SendingFacts.{sends_pushed, sends_all, stops_at_item, stops_pushed}
use Rattle.kt_report.proofs.refusals.write_refusals.Goals as goal

pub loop-row-preserved : goal.loop-row-preserved
loop-row-preserved g c =
    let contents = g.W.Write.contents in
    let items = c.args.rows.now in
    let within : c.loop-row.row-index < length items = omega arith in
    let at : get_or items c.loop-row.row-index c.row-item.result ≡ c.row-item.result = search rules in
    sends_pushed (refusal_line c.args.names.now) (contents c.args.writer.now) (contents c.loop-row.writer) (contents c.write_full.new.writer) c.args.text.now.items
    c.loop-row.text.items c.push_row.new.text.items c.write_full.new.text.items items c.loop-row.row-index c.row-item.result within at c.loop-row.invariant
    c.in_ok-push_row.ensures c.in_ok-write_full.ensures.sent

pub returns-clause-sent : goal.returns-clause-sent
returns-clause-sent g c = sends_all (refusal_line c.args.names.now) _ _ _ _ c.args.rows.now c.loop-row.row-index (omega arith) c.loop-row.invariant

pub returns-in_err-push_row-clause-stopped : goal.returns-in_err-push_row-clause-stopped
returns-in_err-push_row-clause-stopped g c =
    let contents = g.W.Write.contents in
    let f = refusal_line c.args.names.now in
    let d = contents c.loop-row.writer in
    let items = c.args.rows.now in
    let item = c.row-item.result in
    let within : c.loop-row.row-index < length items = omega arith in
    let at : get_or items c.loop-row.row-index item ≡ item = search rules in
    at_fault c.from_residual.result
    (stops_at_item f (contents c.args.writer.now) d d c.args.text.now.items c.loop-row.text.items items c.loop-row.row-index item within at c.loop-row.invariant
    (front_none d (c.loop-row.text.items ++ f item)))

pub returns-in_err-write_full-clause-stopped : goal.returns-in_err-write_full-clause-stopped
returns-in_err-write_full-clause-stopped g c =
    let contents = g.W.Write.contents in
    let f = refusal_line c.args.names.now in
    let b = contents c.loop-row.writer in
    let d = contents c.write_full.new.writer in
    let items = c.args.rows.now in
    let item = c.row-item.result in
    let within : c.loop-row.row-index < length items = omega arith in
    let at : get_or items c.loop-row.row-index item ≡ item = search rules in
    at_fault c.from_residual-in_err-write_full.result
    (stops_pushed f (contents c.args.writer.now) b d c.args.text.now.items c.loop-row.text.items c.push_row.new.text.items items c.loop-row.row-index item within at c.loop-row.invariant c.in_ok-push_row.ensures c.in_err-write_full.ensures.stopped)
