use Rattle.std.proofs.Common.{arith, ap, length, refl}
use Rattle.std.proofs.lemmas.Option.{slice_get_within}
use Rattle.kt_checker.proofs.Chaining.{same_lists}
use Rattle.kt_checker.proofs.judge.lists_members.Goals as goal

pub returns : goal.returns
returns c = (
  λ t.
      let same = c.list-listed.ensures in
      same_lists c.args.certificate.now.members c.args.instance.now.members.items (omega (arith, c.if-listed-len.false, c.len.ensures, c.args.instance.now.members.ok.0, ap length same)) (λ k q chain e.
      let here = rw (← same) at e in
      c.loop-index.invariant k q chain (omega (arith, slice_get_within c.list-listed.result.now k _ here, c.loop-index-test.false)) here),
  λ same. refl,
)
