use Rattle.std.proofs.Common.{arith}
use Rattle.std.proofs.lemmas.Option.{slice_get_within}
use Rattle.kt_checker.proofs.Chaining.{none_listed}
use Rattle.kt_rules.proofs.Traced.{never}
use Rattle.kt_checker.proofs.chains.is_listed.Goals as goal

pub returns : goal.returns
returns c = (
  λ e. absurd (never e),
  λ listed. absurd (none_listed c.args.certificate.now.members c.args.p (λ k q chain e.
      let same = c.list-process-items.ensures in
      let here = rw (← same) at e in
      c.loop-process.invariant k q chain (omega (arith, slice_get_within c.list-process-items.result.now k _ here, c.loop-process-test.false)) here) listed),
)
