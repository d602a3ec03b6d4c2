-- What a log is judged by, and why it means no certificates.
use Rattle.std.proofs.Common.{◌≡◌, ℕ, Option, Some, None, List, refl, inl, inr}
use Rattle.std.specs.Prelude.{IfSome}
use Rattle.kt_spacetime.specs.declared.event.Event.{Event}
use Rattle.kt_spacetime.specs.declared.rules.Rule.{Rule}
use Rattle.kt_meaning.specs.Legal.{first_broken}
use Rattle.kt_spacetime.specs.declared.certificate.Certificate.{Certificate}
use Rattle.kt_meaning.specs.Fitness.{IsUnfit}
use Rattle.kt_spacetime.specs.declared.unfit.Unfit.{Unfit}
use Rattle.kt_spacetime.specs.declared.unfit.Unfit.TheVariants.{BadLog, NoChain}
use Rattle.kt_spacetime.specs.declared.verdict.Verdict.TheVariants.{No}
use Rattle.kt_spacetime.specs.declared.verdict.Why.TheVariants as why
use Rattle.kt_meaning.specs.Answers.{IsCheckerAnswer}
use Rattle.kt_explain.proofs.Faults.{not_broken}
use Rattle.kt_spacetime.specs.declared.verdict.Verdict.{Verdict}
use Rattle.kt_explain.specs.declared.explanation.Explanation.{Explanation}
use Rattle.kt_explain.specs.Told.{IsExplanation, IsNoOf}
use Rattle.kt_explain.specs.Judging.{AreJudging, IsBasis, IsUnfitTold}

pub reason_of : (rows : List Event) (named : Option (List Certificate)) (o : Option Unfit) (list : List Certificate) → IsBasis rows named o list → IfSome o (IsUnfit rows)
reason_of rows named None list h = tt
reason_of rows named (Some why) list h = h.1

-- rows that break a rule are judged by any certificates
pub broken_judging : (rows : List Event) (named : Option (List Certificate)) (row : ℕ) (rule : Rule) (list : List Certificate) → IsBasis rows named (Some (BadLog row rule)) list → AreJudging rows named list
broken_judging rows None row rule list h = λ legal. absurd (not_broken rows row rule legal h.1)
broken_judging rows (Some x) row rule list h = absurd (cc h.0)

-- the checker's answer to a log that breaks a rule
pub broken_answer : (rows : List Event) (list : List Certificate) (row : ℕ) (rule : Rule) → first_broken rows ≡ Some (row, rule) → IsCheckerAnswer rows list (No None (Some row) (why.BadLog rule))
broken_answer rows list row rule broken = inr (inl (row, rule, refl, broken))

-- what is told of why rows mean no certificates
pub unfit_told : (rows : List Event) (w : Unfit) (e : Explanation)
    → ((row : ℕ) (rule : Rule) → w ≡ BadLog row rule → (list : List Certificate) → IsExplanation rows list (No None (Some row) (why.BadLog rule)) e)
    → ((k row p : ℕ) → w ≡ NoChain k row p → (list : List Certificate) (verdict : Verdict) (j : ℕ) → IsNoOf verdict j → IsExplanation rows list verdict e) → IsUnfitTold rows w e
unfit_told rows (BadLog row rule) e broken unlinked = broken row rule refl
unfit_told rows (NoChain k row p) e broken unlinked = unlinked k row p refl
