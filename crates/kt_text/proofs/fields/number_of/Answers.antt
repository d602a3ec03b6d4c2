use Rattle.std.proofs.Common.{rules, arith}
use Rattle.kt_text.specs.Words.{BeginsAsNumber}
use Rattle.kt_text.proofs.NumberFacts.{spelt_short, spelt_value, value_spells, value_is_spelt}
use Rattle.kt_text.proofs.fields.number_of.Goals.{then-text-gt10-via-then-text-gt10, then-text-gt10-via-else-text-gt10+then-not-begins_as_number}
use Rattle.kt_text.proofs.fields.number_of.Goals as goal

pub returns-then-text-gt10-clause-none : goal.returns-then-text-gt10-clause-none
returns-then-text-gt10-clause-none c n small e = elim c.then-text-gt10.branch [
  | then-text-gt10-via-then-text-gt10 w ↦ omega (arith, w.if-text-gt10, spelt_short n c.args.text.now small e)
  | then-text-gt10-via-else-text-gt10+then-not-begins_as_number w ↦ w.begins_as_number.ensures.none (search rules) n (omega (arith, small)) e
]

pub returns-in_err-value_of-clause-none : goal.returns-in_err-value_of-clause-none
returns-in_err-value_of-clause-none c = rw c.from_residual.ensures (λ n small e. c.in_err-value_of.ensures.none (spelt_value n c.args.text.now (omega (arith, small)) e).0)

pub returns-clause-found : goal.returns-clause-found
returns-clause-found c =
    let begins : BeginsAsNumber c.args.text.now = c.begins_as_number.ensures.number (search rules) in
    let found = c.in_ok-value_of.ensures.found in
    value_spells c.args.text.now c.in_ok-value_of.field-0 c.try_from.result c.ok.result begins found.0 found.1 (omega arith) c.try_from.ensures c.ok.ensures.value

pub returns-clause-none : goal.returns-clause-none
returns-clause-none c = value_is_spelt c.args.text.now c.in_ok-value_of.field-0 c.try_from.result c.ok.result c.in_ok-value_of.ensures.found.1 c.try_from.ensures c.ok.ensures.value
