use Rattle.std.proofs.Common.{arith}
use Rattle.kt_object.proofs.NumbersLemmas.{saved_head}
use Rattle.kt_object.proofs.numbers.Numbers.read.Goals as goal

pub returns-then-bytes-count-clause-none : goal.returns-then-bytes-count-clause-none
returns-then-bytes-count-clause-none c =
    λ value is. let head = saved_head c.args.kind value c.args.saved.now is.bytes in omega (arith, c.from-count.ensures)
