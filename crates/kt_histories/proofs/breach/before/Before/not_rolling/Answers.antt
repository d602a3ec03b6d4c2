use Rattle.std.proofs.Common.{◌≡◌, ◌∙◌, ℕ, ◌==◌, not, true, sym, ap, arith}
use Rattle.std.proofs.lemmas.Bool.Decides.{nat_tests}
use Rattle.kt_meaning.specs.Past.{past, is_rollback}
use Rattle.kt_meaning.specs.Legal.{is_instance, is_open_rollback}
use Rattle.kt_histories.proofs.KnownRows.{unjoined}
use Rattle.kt_histories.proofs.breach.before.Before.not_rolling.Goals as goal

itself : (a : ℕ) → (a == a) ≡ true
itself a = grind (arith, nat_tests)

pub returns-then-not-is_rollback : goal.returns-then-not-is_rollback
returns-then-not-is_rollback c =
    let rows = c.args.self.now.rows.now in
    let inside = sym (c.open_in.ensures rows c.requires.before.histories) ∙ c.in_ok-inst.was in
    ap not (ap (is_open_rollback (past rows)) inside ∙ (sym c.is_rollback.ensures ∙ c.if-not-is_rollback.true))

pub returns-in_err-row : goal.returns-in_err-row
returns-in_err-row c =
    let rows = c.args.self.now.rows.now in
    let out = unjoined c.args.p c.in_ok-inst.inst rows c.in_err-row.ensures in
    let inside = sym (c.open_in.ensures rows c.requires.before.histories) ∙ c.in_ok-inst.was in
    absurd (cc (sym out ∙ ap (λ o. is_instance o c.in_ok-inst.inst) inside, itself c.in_ok-inst.inst))

pub open_at-requires-clause-open_in : goal.open_at-requires-clause-open_in
open_at-requires-clause-open_in c = sym (c.open_in.ensures c.args.self.now.rows.now c.requires.before.histories) ∙ c.in_ok-inst.was

pub returns : goal.returns
returns c = record {
  so = (c.open_at.ensures.told, ap (is_rollback (past c.args.self.now.rows.now)) c.open_at.ensures.inst ∙ (sym c.is_rollback.ensures ∙ c.if-not-is_rollback.false));
  against = λ log legal so. ap (λ (q : ℕ). not (is_open_rollback (past log) ((past log).open_in q))) (sym c.open_at.ensures.p) ∙ ap not (ap (is_open_rollback (past log)) so.0.open_in ∙ so.1);
}
