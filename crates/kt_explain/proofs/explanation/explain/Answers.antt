use Rattle.std.proofs.Common.{ℕ, Option, None, List, sym, subst}
use Rattle.std.specs.Prelude.{IfOk}
use Rattle.kt_spacetime.specs.declared.event.Event.{Event}
use Rattle.kt_spacetime.specs.declared.certificate.Certificate.{Certificate}
use Rattle.kt_spacetime.specs.declared.verdict.Verdict.{Verdict}
use Rattle.kt_spacetime.specs.declared.verdict.Verdict.TheVariants.{No}
use Rattle.kt_meaning.specs.Answers.{IsCheckerAnswer, IsBadLog}
use Rattle.kt_explain.specs.declared.explanation.Explanation.{Explanation}
use Rattle.kt_explain.specs.Told.{IsExplanation}
use Rattle.kt_explain.proofs.Faults.{bad_without_instance}
use Rattle.kt_histories.proofs.Gives.{ok_gives}
use Rattle.kt_explain.proofs.Leftovers.{yes_legal}
use Rattle.kt_explain.proofs.explanation.explain.Goals as goal

pub of_instance-requires : goal.of_instance-requires
of_instance-requires c =
    let rows = c.args.log.now.rows in
    let certificates = c.args.certificates.now in
    record {
      answer = subst (λ (o : Option ℕ). IsCheckerAnswer rows certificates (No o c.in-No.row c.in-No.why)) c.in-Some.is
          (subst (λ (v : Verdict). IsCheckerAnswer rows certificates v) c.in-No.is c.requires.answer);
    }

pub returns-in-Some : goal.returns-in-Some
returns-in-Some c =
    let rows = c.args.log.now.rows in
    let certificates = c.args.certificates.now in
    record {
      told = subst (λ (v : Verdict). IfOk c.of_instance.result (IsExplanation rows certificates v)) (sym c.in-No.is)
          (subst (λ (o : Option ℕ). IfOk c.of_instance.result (IsExplanation rows certificates (No o c.in-No.row c.in-No.why))) (sym c.in-Some.is) c.of_instance.ensures);
    }

pub returns-in-None : goal.returns-in-None
returns-in-None c =
    let rows = c.args.log.now.rows in
    let certificates = c.args.certificates.now in
    let row = c.in-No.row in
    let why = c.in-No.why in
    record {
      told = subst (λ (v : Verdict). IfOk c.bad_log.result (IsExplanation rows certificates v)) (sym c.in-No.is)
          (subst (λ (o : Option ℕ). IfOk c.bad_log.result (IsExplanation rows certificates (No o row why))) (sym c.in-None.is)
          (ok_gives c.bad_log.result
          (λ (e : Explanation). (list : List Certificate) → IsExplanation c.rows.result.now list (No None row why) e)
          (IsExplanation rows certificates (No None row why))
          (λ e f. subst (λ (list : List Event). IsExplanation list certificates (No None row why) e) c.rows.ensures.rows (f certificates)) c.bad_log.ensures));
    }

pub bad_log-requires-clause-bad : goal.bad_log-requires-clause-bad
bad_log-requires-clause-bad c =
    let rows = c.args.log.now.rows in
    let certificates = c.args.certificates.now in
    subst (λ (list : List Event). IsBadLog list (No None c.in-No.row c.in-No.why)) (sym c.rows.ensures.rows)
    (bad_without_instance rows certificates c.in-No.row c.in-No.why
    (subst (λ (o : Option ℕ). IsCheckerAnswer rows certificates (No o c.in-No.row c.in-No.why)) c.in-None.is
    (subst (λ (v : Verdict). IsCheckerAnswer rows certificates v) c.in-No.is c.requires.answer)))

pub at_end-requires : goal.at_end-requires
at_end-requires c = record { legal = yes_legal c.args.log.now.rows c.args.certificates.now c.args.verdict.now c.requires.answer c.in-Yes.is }
