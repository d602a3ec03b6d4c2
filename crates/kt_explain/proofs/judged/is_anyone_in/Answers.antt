use Rattle.std.proofs.Common.{◌<◌, ◌∙◌, ℕ, sym, ap, arith, inl, inr}
use Rattle.std.proofs.lemmas.Bool.{cases_eq}
use Rattle.kt_meaning.specs.Past.{past}
use Rattle.kt_meaning.specs.Legal.{is_in}
use Rattle.kt_explain.proofs.FilledSets.{someone_in, none_is_in}
use Rattle.kt_explain.proofs.judged.is_anyone_in.Goals as goal

pub loop-number-preserved : goal.loop-number-preserved
loop-number-preserved c = λ rows p h low. elim (cases_eq p c.nth.result) [
  | inl same ↦ ap (λ (q : ℕ). is_in (past rows) q c.args.inst) same ∙ (sym (c.is_in.ensures rows h) ∙ c.if-is_in.false)
  | inr other ↦ c.loop-number.invariant rows p h (omega (arith, low, other, c.nth.ensures))
]

pub returns-then-is_in : goal.returns-then-is_in
returns-then-is_in c = λ rows h.
    let low : c.nth.result < 64 = omega (arith, c.nth.ensures, c.loop-number-test.true) in
    sym (someone_in (past rows) c.args.inst c.nth.result low (sym (c.is_in.ensures rows h) ∙ c.if-is_in.true))

pub returns : goal.returns
returns c = λ rows h. sym (none_is_in (past rows) c.args.inst (λ p low. c.loop-number.invariant rows p h (omega (arith, low, c.loop-number-test.false))))
