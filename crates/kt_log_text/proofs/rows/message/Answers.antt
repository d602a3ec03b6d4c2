use Rattle.std.proofs.Common.{refl, arith}
use Rattle.kt_text.proofs.FieldFacts.{one_number}
use Rattle.kt_log_text.proofs.rows.message.Goals as goal

pub returns-then-get-max_rows-clause-fault : goal.returns-then-get-max_rows-clause-fault
returns-then-get-max_rows-clause-fault c = (
  refl,
  λ fit.
      let same = one_number c.in-Some.msg fit.0 c.args.text.now (omega (arith, c.in-Some.ensures.found.0)) (omega (arith, fit.2, c.max_rows.ensures.value, c.max_rows.ensures.few)) c.in-Some.ensures.found.1 fit.3 in
      omega (arith, same, fit.2, c.max_rows.ensures.value, c.get.ensures.value, c.if-get-max_rows.true),
)
