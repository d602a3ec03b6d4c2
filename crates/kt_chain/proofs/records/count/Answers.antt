use Rattle.std.proofs.Common.{refl, arith}
use Rattle.kt_text.proofs.FieldFacts.{one_number}
use Rattle.kt_chain.proofs.records.count.Goals as goal

pub returns-then-number-gt-MAX_MESSAGES-clause-fault : goal.returns-then-number-gt-MAX_MESSAGES-clause-fault
returns-then-number-gt-MAX_MESSAGES-clause-fault c = (
  refl,
  λ fit.
      let same = one_number c.in-Some.number fit.0 c.args.text.now (omega arith) (omega (arith, fit.1)) c.in-Some.ensures.found fit.2 in
      omega (arith, same, fit.1, c.if-number-gt-MAX_MESSAGES.true),
)
