use Rattle.std.proofs.Common.{rules, ◌≡◌, ◌∷◌}
use Rattle.std.proofs.lemmas.Bool.{eqb-true, not-false}
use Rattle.kt_text.proofs.NumberFacts.{minus_body}
use Rattle.kt_text.proofs.fields.begins_as_body.Goals as goal

pub returns-then-begins_as_number-clause-none : goal.returns-then-begins_as_number-clause-none
returns-then-begins_as_number-clause-none c f z fits e =
    let whole : c.args.text.now ≡ 45 ∷ c.in-Some-eq45-default.digits.now = search rules in
    let spelt = minus_body z c.args.text.now c.in-Some-eq45-default.digits.now fits e whole in
    spelt.3 (eqb-true _ 48 (not-false _ f))

pub returns-else-begins_as_number-clause-none : goal.returns-else-begins_as_number-clause-none
returns-else-begins_as_number-clause-none c f z fits e =
    let whole : c.args.text.now ≡ 45 ∷ c.in-Some-eq45-default.digits.now = search rules in
    let spelt = minus_body z c.args.text.now c.in-Some-eq45-default.digits.now fits e whole in
    c.begins_as_number.ensures.none f spelt.0 spelt.1 spelt.2
