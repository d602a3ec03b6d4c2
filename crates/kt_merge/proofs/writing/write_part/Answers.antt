use Rattle.std.proofs.Common.{rules, arith, ◌≡◌, ◌<◌, ◌++◌, ℕ, List, length, get_or, subst}
use Rattle.std.proofs.lemmas.Result.{on_err_weaker}
use Rattle.kt_text.specs.Writing.{WritesFront, line_of}
use Rattle.kt_text.proofs.PieceFacts.{front_none, at_fault}
use Rattle.kt_merge.specs.Spelling.{part_spelling}
use Rattle.kt_merge.proofs.WritingFacts.{sends_row, stops_at_row, stops_at_end}
use Rattle.kt_merge.proofs.writing.write_part.Goals as goal

pub loop-row-preserved : goal.loop-row-preserved
loop-row-preserved g c =
    let contents = g.W.Write.contents in
    let rows = c.args.rows.now in
    let within : c.loop-row.row-index < length rows = omega arith in
    let at : get_or rows c.loop-row.row-index c.row-item.result ≡ c.row-item.result = search rules in
    sends_row (contents c.args.writer.now) (contents c.loop-row.writer) (contents c.write_full.new.writer) c.loop-row.text.items c.push_row.new.text.items c.write_full.new.text.items
    rows c.loop-row.row-index c.row-item.result within at c.loop-row.invariant c.in_ok-push_row.ensures c.in_ok-write_full.ensures.sent

pub returns-in_err-push_row-clause-stopped : goal.returns-in_err-push_row-clause-stopped
returns-in_err-push_row-clause-stopped g c =
    let contents = g.W.Write.contents in
    let a = contents c.args.writer.now in
    let d = contents c.loop-row.writer in
    let rows = c.args.rows.now in
    let y = c.loop-row.text.items in
    let row = c.row-item.result in
    let within : c.loop-row.row-index < length rows = omega arith in
    let at : get_or rows c.loop-row.row-index row ≡ row = search rules in
    at_fault c.from_residual-in_err-push_row.result
    (stops_at_row a d d y rows c.loop-row.row-index row within at c.loop-row.invariant (front_none d (y ++ line_of (part_spelling row))))

pub returns-in_err-write_full-clause-stopped : goal.returns-in_err-write_full-clause-stopped
returns-in_err-write_full-clause-stopped g c =
    let contents = g.W.Write.contents in
    let a = contents c.args.writer.now in
    let b = contents c.loop-row.writer in
    let d = contents c.write_full.new.writer in
    let rows = c.args.rows.now in
    let y = c.loop-row.text.items in
    let row = c.row-item.result in
    let within : c.loop-row.row-index < length rows = omega arith in
    let at : get_or rows c.loop-row.row-index row ≡ row = search rules in
    let out = subst (λ (t : List ℕ). WritesFront b d t) c.in_ok-push_row.ensures c.in_err-write_full.ensures.stopped in
    at_fault c.from_residual-in_err-write_full.result (stops_at_row a b d y rows c.loop-row.row-index row within at c.loop-row.invariant out)

pub returns-clause-stopped : goal.returns-clause-stopped
returns-clause-stopped g c =
    let contents = g.W.Write.contents in
    let a = contents c.args.writer.now in
    let d = contents c.write_rest.new.writer in
    on_err_weaker c.write_rest.result (λ out. stops_at_end a (contents c.loop-row.writer) d c.loop-row.text.items c.args.rows.now c.loop-row.row-index (omega arith) c.loop-row.invariant out) c.write_rest.ensures.stopped
