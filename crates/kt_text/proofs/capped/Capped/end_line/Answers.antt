use Rattle.std.proofs.Common.{rules, ◌<◌, length, refl}
use Rattle.kt_text.proofs.CappedFacts.{put_first}
use Rattle.kt_text.proofs.capped.Capped.end_line.Goals as goal

pub returns-clause-line : goal.returns-clause-line
returns-clause-line g c = λ more.
    let some : 0 < length c.args.buf.now = search rules in
    (put_first c.args.buf.now 10 some, refl)
