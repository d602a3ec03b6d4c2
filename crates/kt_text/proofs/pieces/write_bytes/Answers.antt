use Rattle.kt_text.proofs.PieceFacts.{sends_part}
use Rattle.kt_text.proofs.pieces.write_bytes.Goals as goal

pub loop-preserved : goal.loop-preserved
loop-preserved g c =
    let contents = g.W.Write.contents in
    sends_part (contents c.args.writer.now) (contents c.loop.writer) (contents c.write_some.new.writer) c.loop.rest.now c.args.bytes.now c.in_ok-count.count c.loop.invariant c.in_ok-count.ensures.written
