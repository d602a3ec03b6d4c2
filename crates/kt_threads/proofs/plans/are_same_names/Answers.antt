use Rattle.std.proofs.Common.{rules, ◌≡◌, string_bytes}
use Rattle.kt_threads.proofs.Reading.{same_further, same_at}
use Rattle.kt_threads.proofs.plans.are_same_names.Goals as goal

pub loop-i-preserved : goal.loop-i-preserved
loop-i-preserved c =
    let x = c.index-one-i.result in
    let y = c.index-other-i.result in
    let same : string_bytes x ≡ string_bytes y = search rules in
    same_further string_bytes c.args.one.now c.args.other.now c.loop-i.i x y (search rules) (search rules) c.index-one-i.is c.index-other-i.is same c.loop-i.invariant

pub returns-then-ne : goal.returns-then-ne
returns-then-ne c =
    let x = c.index-one-i.result in
    let y = c.index-other-i.result in
    record {
      same = (
        λ e. absurd (cc (e)),
        λ e.
            let same : string_bytes x ≡ string_bytes y = same_at string_bytes c.args.one.now c.args.other.now c.loop-i.i x y (search rules) (search rules) c.index-one-i.is c.index-other-i.is e in
            search rules,
      );
    }
