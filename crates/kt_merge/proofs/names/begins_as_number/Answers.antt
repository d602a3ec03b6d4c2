use Rattle.std.proofs.Common.{rules, ◌≡◌, Some, None, slice_get, refl, arith}
use Rattle.std.proofs.lemmas.Bool.{eqb-false}
use Rattle.kt_text.proofs.NumberFacts.{no_first, other_first}
use Rattle.kt_merge.proofs.names.begins_as_number.Goals as goal

pub returns-in-Some-eq48-clause-none : goal.returns-in-Some-eq48-clause-none
returns-in-Some-eq48-clause-none c f n small e =
    let first : slice_get c.args.text.now 0 ≡ Some 48 = search rules in
    eqb-false _ _ f ((other_first n 48 c.args.text.now small e first).1 refl)

pub returns-in-Some-clause-none : goal.returns-in-Some-clause-none
returns-in-Some-clause-none c f n small e =
    let first : slice_get c.args.text.now 0 ≡ Some c.in-Some.first.now = search rules in
    let digit = (other_first n c.in-Some.first.now c.args.text.now small e first).0 in
    search (rules, digit, f, arith)

pub returns-in-None-clause-none : goal.returns-in-None-clause-none
returns-in-None-clause-none c f n small e =
    let first : slice_get c.args.text.now 0 ≡ None = search rules in
    no_first n c.args.text.now small e first
