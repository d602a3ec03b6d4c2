use Rattle.std.proofs.Common.{◌≡◌, ◌∙◌, ℕ, Option, None, List, sym, subst, arith}
use Rattle.std.specs.Prelude.{IfOk}
use Rattle.kt_spacetime.specs.declared.event.Event.{Event}
use Rattle.kt_spacetime.specs.declared.certificate.Certificate.{Certificate}
use Rattle.kt_spacetime.specs.declared.verdict.Verdict.TheVariants.{No}
use Rattle.kt_spacetime.specs.declared.verdict.Why.{Why}
use Rattle.kt_spacetime.specs.declared.verdict.Why.TheVariants as why
use Rattle.kt_meaning.specs.Answers.{IsBadLog}
use Rattle.kt_explain.specs.Told.{IsExplanation}
use Rattle.kt_spacetime.specs.declared.rules.Rule.{Rule}
use Rattle.kt_meaning.proofs.Items.{some_same}
use Rattle.kt_explain.proofs.Faults.{log_fault, none_some, first_of_no}
use Rattle.kt_explain.proofs.bad_row.bad_log.Goals as goal

broken : (rows : List Event) (row : Option ℕ) (w : Why) (rule : Rule) → w ≡ why.BadLog rule → IsBadLog rows (No None row w) → IsBadLog rows (No None row (why.BadLog rule))
broken rows row w rule is bad = subst (λ (x : Why). IsBadLog rows (No None row x)) is bad

pub returns-in-Some : goal.returns-in-Some
returns-in-Some c =
    subst (λ (w : Why). IfOk c.bad_row.result (λ e. (certificates : List Certificate) → IsExplanation c.args.rows.now certificates (No None c.args.row w) e)) (sym c.in-BadLog.is)
    (subst (λ (o : Option ℕ). IfOk c.bad_row.result (λ e. (certificates : List Certificate) → IsExplanation c.args.rows.now certificates (No None o (why.BadLog c.in-BadLog.rule)) e)) (sym c.in-Some.is) c.bad_row.ensures)

pub bad_row-requires-clause-bad : goal.bad_row-requires-clause-bad
bad_row-requires-clause-bad c =
    let rows = c.args.rows.now in
    let bad = broken rows c.args.row c.args.why c.in-BadLog.rule c.in-BadLog.is c.requires.bad in
    first_of_no rows c.in-Some.row c.in-BadLog.rule (subst (λ (o : Option ℕ). IsBadLog rows (No None o (why.BadLog c.in-BadLog.rule))) c.in-Some.is bad)

pub bad_row-requires-clause-within : goal.bad_row-requires-clause-within
bad_row-requires-clause-within c =
    let rows = c.args.rows.now in
    let h = log_fault rows c.args.row (why.BadLog c.in-BadLog.rule) (broken rows c.args.row c.args.why c.in-BadLog.rule c.in-BadLog.is c.requires.bad) in
    let same : c.in-Some.row ≡ h.number = some_same (sym c.in-Some.is ∙ h.row_is) in
    omega (arith, same, h.within)

pub returns-in-None : goal.returns-in-None
returns-in-None c = λ certificates.
    let rows = c.args.rows.now in
    let h = log_fault rows c.args.row (why.BadLog c.in-BadLog.rule) (broken rows c.args.row c.args.why c.in-BadLog.rule c.in-BadLog.is c.requires.bad) in
    absurd (none_some h.number (sym c.in-None.is ∙ h.row_is))
