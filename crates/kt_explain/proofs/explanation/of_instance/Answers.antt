use Rattle.std.proofs.Common.{ℕ, Option, Some, None, List, sym, subst}
use Rattle.std.specs.Prelude.{IfOk}
use Rattle.kt_spacetime.specs.declared.event.Event.{Event}
use Rattle.kt_spacetime.specs.declared.verdict.Verdict.TheVariants.{No}
use Rattle.kt_spacetime.specs.declared.verdict.Why.{Why}
use Rattle.kt_spacetime.specs.declared.verdict.Why.TheVariants as why
use Rattle.kt_meaning.specs.Answers.{IsCheckerAnswer}
use Rattle.kt_explain.specs.Told.{IsExplanation}
use Rattle.kt_explain.proofs.CauseRows.{cause_row}
use Rattle.kt_explain.proofs.Comparing.{of_others}
use Rattle.kt_explain.proofs.Faults.{log_not_instance, orphan_row}
use Rattle.kt_explain.proofs.explanation.of_instance.Goals as goal

pub orphan_at-requires : goal.orphan_at-requires
orphan_at-requires c =
    let rows = c.args.log.now.rows in
    let certificates = c.args.certificates.now in
    let k = c.args.inst in
    record {
      answer = subst (λ (w : Why). IsCheckerAnswer rows certificates (No (Some k) (Some c.in-Some-row.row) w)) c.in-Orphan.is
          (subst (λ (o : Option ℕ). IsCheckerAnswer rows certificates (No (Some k) o c.args.why)) c.in-Some-row.is c.requires.answer);
    }

pub returns-in-Some : goal.returns-in-Some
returns-in-Some c =
    let certificates = c.args.certificates.now in
    let k = c.args.inst in
    subst (λ (rows : List Event). IsExplanation rows certificates (No (Some k) c.args.row c.args.why) c.objection.result) c.rows.ensures.rows
    (subst (λ (w : Why). IsExplanation c.rows.result.now certificates (No (Some k) c.args.row w) c.objection.result) (sym c.in-Cause.is)
    (subst (λ (o : Option ℕ). IsExplanation c.rows.result.now certificates (No (Some k) o why.Cause) c.objection.result) (sym c.in-Some.is)
    (c.objection.ensures certificates (subst (λ (rows : List Event). IsCheckerAnswer rows certificates (No (Some k) (Some c.in-Some.decided) why.Cause)) (sym c.rows.ensures.rows)
    (subst (λ (o : Option ℕ). IsCheckerAnswer c.args.log.now.rows certificates (No (Some k) o why.Cause)) c.in-Some.is
    (subst (λ (w : Why). IsCheckerAnswer c.args.log.now.rows certificates (No (Some k) c.args.row w)) c.in-Cause.is c.requires.answer))))))

pub returns-in-None : goal.returns-in-None
returns-in-None c =
    let rows = c.args.log.now.rows in
    let certificates = c.args.certificates.now in
    absurd (cause_row rows certificates c.args.inst (subst (λ (o : Option ℕ). IsCheckerAnswer rows certificates (No (Some c.args.inst) o why.Cause)) c.in-None.is
    (subst (λ (w : Why). IsCheckerAnswer rows certificates (No (Some c.args.inst) c.args.row w)) c.in-Cause.is c.requires.answer)))

pub returns-in-None-row : goal.returns-in-None-row
returns-in-None-row c =
    let rows = c.args.log.now.rows in
    let certificates = c.args.certificates.now in
    absurd (orphan_row rows certificates c.args.inst (subst (λ (w : Why). IsCheckerAnswer rows certificates (No (Some c.args.inst) None w)) c.in-Orphan.is
    (subst (λ (o : Option ℕ). IsCheckerAnswer rows certificates (No (Some c.args.inst) o c.args.why)) c.in-None-row.is c.requires.answer)))

pub returns-in-BadLog : goal.returns-in-BadLog
returns-in-BadLog c =
    absurd (log_not_instance c.args.log.now.rows c.args.certificates.now c.args.inst c.args.row c.in-BadLog.field-0
    (subst (λ (w : Why). IsCheckerAnswer c.args.log.now.rows c.args.certificates.now (No (Some c.args.inst) c.args.row w)) c.in-BadLog.is c.requires.answer))

pub returns-in-Some-row : goal.returns-in-Some-row
returns-in-Some-row c =
    let rows = c.args.log.now.rows in
    let certificates = c.args.certificates.now in
    let k = c.args.inst in
    subst (λ (o : Option ℕ). IfOk c.orphan_at.result (IsExplanation rows certificates (No (Some k) o c.args.why))) (sym c.in-Some-row.is)
    (subst (λ (w : Why). IfOk c.orphan_at.result (IsExplanation rows certificates (No (Some k) (Some c.in-Some-row.row) w))) (sym c.in-Orphan.is) c.orphan_at.ensures)

pub compare-requires-clause-of_certificate : goal.compare-requires-clause-of_certificate
compare-requires-clause-of_certificate c = of_others c.args.why c.in_default.not-Cause c.in_default.not-Orphan c.in_default.not-BadLog
