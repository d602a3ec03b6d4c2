use Rattle.std.proofs.Common.{arith, ◌<◌}
use Rattle.kt_text.proofs.CappedFacts.{gives, gives_end}
use Rattle.kt_text.proofs.capped.CappedRead.read.Goals as goal

pub returns-then-self-eq0-clause-bytes : goal.returns-then-self-eq0-clause-bytes
returns-then-self-eq0-clause-bytes g c =
    let ended = c.end_line.ensures in
    gives_end g.R.Read.remaining c.args.self.now c.end_line.new.self c.end_line.new.buf c.args.buf.now c.end_line.result c.if-self-eq0.true c.if-self.false ended.kept ended.none ended.line

pub returns-clause-bytes : goal.returns-clause-bytes
returns-clause-bytes g c =
    let capped = c.args.self.now in
    let may : 0 < capped.room = omega (arith, c.if-self-eq0.false) in
    let read = c.in_ok-count.ensures in
    rw (c.take_in.ensures.over, c.take_in.ensures.width, c.take_in.ensures.source, c.if-self.false)
    (gives capped.width capped.spot c.take_in.new.self.spot capped.room c.take_in.new.self.room (g.R.Read.remaining capped.source) (g.R.Read.remaining c.read.new.self) c.read.new.buf c.in_ok-count.count c.take_in.result
    may read.bound.0 read.bytes.0 read.bytes.1 c.take_in.ensures.few c.take_in.ensures.front (c.take_in.ensures.some may) c.take_in.ensures.still)
