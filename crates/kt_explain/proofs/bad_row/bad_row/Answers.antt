use Rattle.std.proofs.Common.{◌≡◌, ◌∙◌, ◌-◌, ◌<◌, Bool, true, false, List, length, take, refl, sym, subst, arith}
use Rattle.kt_spacetime.specs.declared.event.Event.{Event}
use Rattle.kt_meaning.specs.Past.{past}
use Rattle.kt_meaning.specs.Legal.{keeps}
use Rattle.kt_rules.proofs.Replayed.{row_read}
use Rattle.kt_meaning.proofs.Items.{some_same}
use Rattle.kt_histories.specs.Breaches.{IsFirstUnmet, IsWaitingAt}
use Rattle.kt_explain.proofs.Faults.{legal_before, breaks_there}
use Rattle.kt_explain.proofs.bad_row.bad_row.Goals as goal

pub of-requires-clause-legal : goal.of-requires-clause-legal
of-requires-clause-legal c =
    let place : c.get.result - 1 ≡ c.args.row - 1 = omega (arith, c.get.ensures.value) in
    (legal_before c.args.rows.now c.args.row (c.get.result - 1) c.args.rule c.requires.bad place).0

pub returns-in-Some : goal.returns-in-Some
returns-in-Some c = λ certificates.
    let rows = c.args.rows.now in
    let place : c.get.result - 1 ≡ c.args.row - 1 = omega (arith, c.get.ensures.value) in
    let number = (legal_before rows c.args.row (c.get.result - 1) c.args.rule c.requires.bad place).1 in
    let low : c.get.result - 1 < length rows = omega (arith, number, c.requires.within) in
    let again = row_read rows (c.get.result - 1) c.index-rows-index.result low c.index-rows-index.is in
    let second = row_read rows (c.get.result - 1) c.index-rows-index-in-Some.result low c.index-rows-index-in-Some.is in (
      c.get.result - 1,
      c.index-rows-index.result,
      refl,
      record {
        row_is = number;
        there = again;
        breach_is = subst (λ (before : List Event). IsFirstUnmet before c.args.rule c.index-rows-index.result c.in-Some.breach) c.in_ok-known.ensures.rows c.in-Some.ensures.unmet;
        undone = c.in_ok-undone_in-in-Some.ensures;
        later = c.later_in.ensures;
        waiting = subst (λ (row : Event). IsWaitingAt (take (c.get.result - 1) rows) row c.in_ok-waiting_at-in-Some.field-0) (some_same (sym second ∙ again))
            (subst (λ (before : List Event). IsWaitingAt before c.index-rows-index-in-Some.result c.in_ok-waiting_at-in-Some.field-0) c.in_ok-known.ensures.rows c.in_ok-waiting_at-in-Some.ensures);
      },
    )

differ : (b : Bool) → b ≡ true → b ≡ false → ⊥
differ b e f = cc

pub returns : goal.returns
returns c = λ certificates.
    let rows = c.args.rows.now in
    let place : c.get.result - 1 ≡ c.args.row - 1 = omega (arith, c.get.ensures.value) in
    let number = (legal_before rows c.args.row (c.get.result - 1) c.args.rule c.requires.bad place).1 in
    let low : c.get.result - 1 < length rows = omega (arith, number, c.requires.within) in
    let again = row_read rows (c.get.result - 1) c.index-rows-index.result low c.index-rows-index.is in
    let broken = breaks_there rows c.args.row (c.get.result - 1) c.args.rule c.index-rows-index.result c.requires.bad place again in
    let kept = subst (λ (before : List Event). keeps c.args.rule (past before) c.index-rows-index.result ≡ true) c.in_ok-known.ensures.rows c.in-None.ensures.kept in
    absurd (differ _ kept broken)
