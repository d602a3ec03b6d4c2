use Rattle.std.proofs.lemmas.Bool.{both_ways}
use Rattle.kt_process.proofs.process.Process.of.Goals as goal

pub returns-then-not-fits-clause-none : goal.returns-then-not-fits-clause-none
returns-then-not-fits-clause-none c = λ f. both_ways c.fits.result c.if-not-fits.true ((c.fits.ensures c.args.up).1 f)

pub invariant_of-result : goal.invariant_of-result
invariant_of-result c = (c.fits.ensures c.args.up).0 c.if-not-fits.false
