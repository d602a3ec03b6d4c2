use Rattle.std.proofs.Common.{arith}
use Rattle.kt_base.specs.Numbers.{IsMsgNo}
use Rattle.kt_text.proofs.FieldFacts.{absent, one_number}
use Rattle.kt_text.proofs.fields.message_of.Goals as goal

pub returns-in_err-message-clause-none : goal.returns-in_err-message-clause-none
returns-in_err-message-clause-none c = absent IsMsgNo c.args.text.now _ (λ k range spelt.
    let same = one_number c.in_ok-number_of.field-0 k c.args.text.now (omega arith) (omega (arith, range.1)) c.in_ok-number_of.ensures.found spelt in
    cc (c.in_err-message.ensures.valid.1 (omega (arith, range.0, same), omega (arith, range.1, same))))
