use Rattle.std.proofs.lemmas.Result.{err_from_is_err_and}
use Rattle.kt_log_text.proofs.GatherFacts.{at_end, gathered_to_fault}
use Rattle.kt_draw.proofs.BytesRead.{rows_undrawn, text_refused}
use Rattle.std.proofs.Common.{rules, ◌≡◌, ◌∙◌, [], None, inr, length, refl}
use Rattle.kt_draw.proofs.Fronts.{ok_weaker, told_drawn}
use Rattle.kt_draw.proofs.Streams.{drawn_none, drawn_few, drawn_more, drawn_all}
use Rattle.kt_draw.proofs.drawing.draw_rows.Goals as goal

pub loop-reading-init : goal.loop-reading-init
loop-reading-init g c = λ source e. drawn_none source c.args.rows.now c.in_ok-reading.reading c.args.span e c.in_ok-reading.ensures

pub feed-requires : goal.feed-requires
feed-requires g c =
    let h = c.loop-reading.invariant c.requires.unread.0 c.requires.unread.1 in
    record { few = (h.seen, h.shows, drawn_few c.loop-reading.rows c.next.new.self c.loop-reading.reading c.in-Some.row h (rw c.in-Some.is at c.in_ok-row.ensures.steps)) }

pub loop-reading-preserved : goal.loop-reading-preserved
loop-reading-preserved g c = λ source e. drawn_more c.loop-reading.rows c.next.new.self c.loop-reading.reading c.feed.new.self c.in-Some.row (c.loop-reading.invariant source e) (rw c.in-Some.is at c.in_ok-row.ensures.steps) c.in_ok-feed.ensures

pub returns-in_err-row-clause-fault : goal.returns-in_err-row-clause-fault
returns-in_err-row-clause-fault g c = λ source e.
    let p = err_from_is_err_and c.from_residual-in_err-row.result c.from_residual-in_err-row.ensures.1 in
    let seen = c.loop-reading.invariant source e in
    rw (p.1)
    (text_refused c.args.span source c.in_err-row.field-0.0 _ p.2
    (gathered_to_fault source c.loop-reading.rows c.next.new.self seen.seen c.in_err-row.field-0.0 seen.gathers c.in_err-row.ensures.steps))

pub returns-clause-picture : goal.returns-clause-picture
returns-clause-picture g c = λ source e.
    let h = c.loop-reading.invariant source e in
    let said = drawn_all c.loop-reading.rows c.next.new.self c.loop-reading.reading h (at_end c.in_ok-row.field-0 c.in_default.not-Some c.in_ok-row.ensures.steps) in
    let made : c.as_slice.result.now ≡ c.in_ok-line.line.items = search rules in
    let line = made ∙ c.in_ok-line.ensures c.args.span h.seen h.shows in
    ok_weaker c.picture.result _ _ (c.picture.ensures.picture h.seen h.shows (inr refl))
    (λ text p. (h.seen, said, told_drawn c.args.names.now c.args.span h.seen (length h.shows.kept) c.loop-reading.reading.breach [] None None c.as_slice.result.now text.items h.shows.read line p))

pub returns-clause-fault : goal.returns-clause-fault
returns-clause-fault g c = λ source e.
    let h = c.loop-reading.invariant source e in
    rows_undrawn c.args.span source h.seen c.picture.result (drawn_all c.loop-reading.rows c.next.new.self c.loop-reading.reading h (at_end c.in_ok-row.field-0 c.in_default.not-Some c.in_ok-row.ensures.steps)) (c.picture.ensures.fault h.seen h.shows)
