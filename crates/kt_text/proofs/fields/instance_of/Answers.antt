use Rattle.std.proofs.Common.{◌∙◌, sym, arith}
use Rattle.kt_base.specs.Numbers.{IsInstNo}
use Rattle.kt_text.proofs.FieldFacts.{absent, one_number, too_great, same_number}
use Rattle.kt_text.proofs.fields.instance_of.Goals as goal

pub returns-in_err-ok-clause-none : goal.returns-in_err-ok-clause-none
returns-in_err-ok-clause-none c = absent IsInstNo c.args.text.now _ (λ k range spelt.
    let same = one_number c.in_ok-number.number k c.args.text.now (omega arith) (omega (arith, range.1)) c.in_ok-number.ensures.found spelt in
    let great = too_great _ 65536 c.try_from.result c.try_from.ensures (sym c.ok.ensures.value ∙ c.in_err-ok.was) in
    omega (arith, range.1, same, great))

pub returns-in_err-instance-clause-none : goal.returns-in_err-instance-clause-none
returns-in_err-instance-clause-none c = absent IsInstNo c.args.text.now _ (λ k range spelt.
    let same = one_number c.in_ok-number.number k c.args.text.now (omega arith) (omega (arith, range.1)) c.in_ok-number.ensures.found spelt in
    let fits = same_number _ 65536 c.in_ok-ok.field-0 c.try_from.result c.try_from.ensures (sym c.ok.ensures.value ∙ c.in_ok-ok.was) in
    cc (c.in_err-instance.ensures.valid.1 (omega (arith, range.0, same, fits), omega (arith, range.1, same, fits))))
