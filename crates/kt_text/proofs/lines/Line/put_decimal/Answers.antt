use Rattle.std.proofs.Common.{◌-◌, ap, arith, length, take, drop, decimal, length-append}
use Rattle.std.proofs.lemmas.Fmt.{length-decimal-le}
use Rattle.kt_text.proofs.LineFacts.{line_length, line_more}
use Rattle.kt_text.proofs.lines.Line.put_decimal.Goals as goal

pub write_digits-self-inside-requires : goal.write_digits-self-inside-requires
write_digits-self-inside-requires c =
    let long = line_length c.self.inside.bytes c.self.inside.start c.self.invariant.0 c.self.invariant.1 in
    let short = length-decimal-le 10 c.from.result (omega arith) (omega arith) (omega arith) in
    (omega (arith, long, short, ap length c.self.view_is, c.requires), omega (arith, c.self.invariant.0, c.self.invariant.1))

pub returns-clause-text : goal.returns-clause-text
returns-clause-text c =
    let w = c.write_digits-self-inside in
    let more = line_more (decimal c.from.result) w.new.buf c.self.inside.bytes w.result c.self.inside.start w.ensures.written w.ensures.start c.self.invariant.1 in
    rw (← c.from.ensures, ← c.self.view_is) more

pub returns-clause-length : goal.returns-clause-length
returns-clause-length c =
    let w = c.write_digits-self-inside in
    let more = line_more (decimal c.from.result) w.new.buf c.self.inside.bytes w.result c.self.inside.start w.ensures.written w.ensures.start c.self.invariant.1 in
    let short = length-decimal-le 10 c.from.result (omega arith) (omega arith) (omega arith) in
    let long = line_length c.self.inside.bytes c.self.inside.start c.self.invariant.0 c.self.invariant.1 in
    omega (arith, ap length more, length-append (decimal c.from.result) (take (64 - c.self.inside.start) (drop c.self.inside.start c.self.inside.bytes)), short, ap length c.self.view_is, long)
