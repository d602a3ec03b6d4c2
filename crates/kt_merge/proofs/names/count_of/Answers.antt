use Rattle.std.proofs.Common.{arith}
use Rattle.kt_spacetime.specs.Counts.{IsCount}
use Rattle.kt_text.proofs.FieldFacts.{absent, one_number}
use Rattle.kt_merge.proofs.names.count_of.Goals as goal

pub returns-in_err-count-clause-none : goal.returns-in_err-count-clause-none
returns-in_err-count-clause-none c = absent IsCount c.args.text.now _ (λ k range spelt.
    let found = c.in_ok-clock_of.ensures.found in
    let same = one_number c.in_ok-clock_of.field-0 k c.args.text.now found.0 (omega (arith, range.1)) found.1 spelt in
    cc (c.in_err-count.ensures.valid.1 (omega (arith, range.0, same), omega (arith, range.1, same))))
