use Rattle.std.proofs.Common.{rules, arith, ◌≡◌, ◌≢◌, ◌+◌, ◌*◌, ◌∙◌, length, slice_index, ap}
use Rattle.std.specs.Fmt.{decimal}
use Rattle.kt_text.proofs.NumberFacts.{spelt_one, spelt_two, one_spells, two_spell, spelt_process, process_spells, process_is_spelt}
use Rattle.kt_text.proofs.fields.process_of.Goals.{in_default-via-then-text-lt1, in_default-via-else-text-lt1+else-text-lt2+else-text-lt3}
use Rattle.kt_text.proofs.fields.process_of.Goals as goal

pub returns-in_err-digit_of-in-len1-clause-none : goal.returns-in_err-digit_of-in-len1-clause-none
returns-in_err-digit_of-in-len1-clause-none c =
    let one : length c.args.text.now ≡ 1 = search (rules, arith) in
    rw c.from_residual.ensures (λ p l e. c.in_err-digit_of-in-len1.ensures.none (spelt_one p c.args.text.now (omega (arith, l)) e one).0)

pub returns-in_err-digit_of-in-len2-clause-none : goal.returns-in_err-digit_of-in-len2-clause-none
returns-in_err-digit_of-in-len2-clause-none c =
    let two : length c.args.text.now ≡ 2 = search (rules, arith) in
    rw c.from_residual-in_err-digit_of-in-len2.ensures (λ p l e. c.in_err-digit_of-in-len2.ensures.none (spelt_two p c.args.text.now (omega (arith, l)) e two).1)

pub returns-in_err-digit_of-in-len2-2-clause-none : goal.returns-in_err-digit_of-in-len2-2-clause-none
returns-in_err-digit_of-in-len2-2-clause-none c =
    let two : length c.args.text.now ≡ 2 = search (rules, arith) in
    rw c.from_residual-in_err-digit_of-in-len2-2.ensures (λ p l e. c.in_err-digit_of-in-len2-2.ensures.none (spelt_two p c.args.text.now (omega (arith, l)) e two).2)

pub returns-in_ok-digit_of-in-len1-clause-found : goal.returns-in_ok-digit_of-in-len1-clause-found
returns-in_ok-digit_of-in-len1-clause-found c =
    let one : length c.args.text.now ≡ 1 = search (rules, arith) in
    let units = c.in_ok-digit_of-in-len1.ensures.found in
    let spelt : c.args.text.now ≡ decimal c.in_ok-digit_of-in-len1.field-0 = one_spells c.args.text.now one (omega (arith, units), omega (arith, units)) ∙ ap decimal (omega (arith, units)) in
    process_spells c.args.text.now c.in_ok-digit_of-in-len1.field-0 c.new.result spelt c.new.ensures.valid c.new.ensures.value

pub returns-in-48-clause-none : goal.returns-in-48-clause-none
returns-in-48-clause-none c p l e =
    let two : length c.args.text.now ≡ 2 = search (rules, arith) in
    let zero : slice_index c.args.text.now 0 ≡ 48 = search rules in
    (spelt_two p c.args.text.now (omega (arith, l)) e two).0 zero

pub returns-in_ok-digit_of-in-len2-2-clause-found :
    goal.returns-in_ok-digit_of-in-len2-2-clause-found
returns-in_ok-digit_of-in-len2-2-clause-found c =
    let two : length c.args.text.now ≡ 2 = search (rules, arith) in
    let other : slice_index c.args.text.now 0 ≢ 48 = search rules in
    let tens = c.in_ok-digit_of-in-len2.ensures.found in
    let units = c.in_ok-digit_of-in-len2-2.ensures.found in
    let spelt : c.args.text.now ≡ decimal (c.in_ok-digit_of-in-len2.field-0 * 10 + c.in_ok-digit_of-in-len2-2.field-0)
    = two_spell c.args.text.now two other (omega (arith, tens), omega (arith, tens)) (omega (arith, units), omega (arith, units)) ∙ ap decimal (omega (arith, tens, units)) in
    process_spells c.args.text.now _ c.new-in-len2.result spelt c.new-in-len2.ensures.valid c.new-in-len2.ensures.value

pub returns-in_ok-digit_of-in-len2-2-clause-none :
    goal.returns-in_ok-digit_of-in-len2-2-clause-none
returns-in_ok-digit_of-in-len2-2-clause-none c =
    let two : length c.args.text.now ≡ 2 = search (rules, arith) in
    let tens = c.in_ok-digit_of-in-len2.ensures.found in
    let units = c.in_ok-digit_of-in-len2-2.ensures.found in
    process_is_spelt c.args.text.now (c.in_ok-digit_of-in-len2.field-0 * 10 + c.in_ok-digit_of-in-len2-2.field-0) c.new-in-len2.result (λ p l e. omega (arith, tens, units, (spelt_two p c.args.text.now (omega (arith, l)) e two).3)) c.new-in-len2.ensures.valid

pub returns-in_default-clause-none : goal.returns-in_default-clause-none
returns-in_default-clause-none c p l e =
    let short = spelt_process p c.args.text.now l e in
    search (rules, arith, short)
