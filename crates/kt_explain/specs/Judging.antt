-- How a log is judged, by certificates that are named or by those that it means.
use Rattle.std.specs.Prelude.{◌≡◌, ℕ, Bool, true, Option, Some, None, List, []}
use Rattle.kt_spacetime.specs.declared.event.Event.{Event}
use Rattle.kt_meaning.specs.Legal.{IsLegal}
use Rattle.kt_spacetime.specs.declared.certificate.Certificate.{Certificate}
use Rattle.kt_meaning.specs.Fitness.{IsFitLog, IsUnfit}
use Rattle.kt_meaning.specs.Meant.{AreMeant}
use Rattle.kt_spacetime.specs.declared.unfit.Unfit.{Unfit}
use Rattle.kt_spacetime.specs.declared.unfit.Unfit.TheVariants.{BadLog, NoChain}
use Rattle.kt_spacetime.specs.declared.verdict.Verdict.{Verdict}
use Rattle.kt_spacetime.specs.declared.verdict.Verdict.TheVariants.{Yes, No}
use Rattle.kt_spacetime.specs.declared.verdict.Why.TheVariants as reason
use Rattle.kt_explain.specs.declared.explanation.Explanation.{Explanation}
use Rattle.kt_explain.specs.Told.{IsExplanation, IsNoOf}
use Rattle.kt_explain.specs.Judged.{open_instances, receivers_in_transit}
use Rattle.kt_explain.specs.declared.answer.Answer.{Answer}
use Rattle.kt_explain.specs.declared.answer.Answer.TheVariants.{Checked, Unlinked, Open}

-- the certificates that rows are judged by: those that are named, or else those that they mean, if they are legal
abbrev pub AreJudging : List Event → Option (List Certificate) → List Certificate → Type 0
AreJudging rows (Some named) list = list ≡ named
AreJudging rows None list = IsLegal rows → IsFitLog rows × AreMeant rows list

-- legal rows mean no certificates: a member of a committed instance has no chain; with the row that decides the instance
abbrev pub IsUnlinked : List Event → Unfit → Type 0
IsUnlinked rows (NoChain k row p) = IsUnfit rows (NoChain k row p)
IsUnlinked rows (BadLog row rule) = ⊥

-- what is told of rows that mean no certificates, whatever certificates are named
abbrev pub IsUnfitTold : List Event → Unfit → Explanation → Type 0
IsUnfitTold rows (BadLog row rule) e = (list : List Certificate) → IsExplanation rows list (No None (Some row) (reason.BadLog rule)) e
IsUnfitTold rows (NoChain k row p) e = (list : List Certificate) (verdict : Verdict) (j : ℕ) → IsNoOf verdict j → IsExplanation rows list verdict e

-- what rows are judged by; or why they mean no certificates, where none are named
abbrev pub IsBasis : List Event → Option (List Certificate) → Option Unfit → List Certificate → Type 0
IsBasis rows named None list = AreJudging rows named list
IsBasis rows named (Some why) list = (named ≡ None) × IsUnfit rows why

-- a member of legal rows has no chain, where no certificates are named; or these are what rows are judged by
abbrev pub IsUnlinkedOr : List Event → Option (List Certificate) → Option Unfit → List Certificate → Type 0
IsUnlinkedOr rows named None list = AreJudging rows named list
IsUnlinkedOr rows named (Some why) list = (named ≡ None) × IsUnlinked rows why

-- rows that leave no instance open, and no message in transit
pub record IsAtRest (rows : List Event) : Type 0 where
  pub closed : open_instances rows ≡ []
  pub received : receivers_in_transit rows ≡ []

-- the answer by the checker's to rows and certificates: with the flag a yes means that they are at rest, too
abbrev pub IsAnswerBy : List Event → Option (List Certificate) → Bool → List Certificate → Verdict → Answer → Type 0
IsAnswerBy rows named at_rest list verdict (Checked v) =
    (v ≡ verdict) × AreJudging rows named list × (at_rest ≡ true → verdict ≡ Yes → IsAtRest rows)
IsAnswerBy rows named at_rest list verdict (Unlinked why) = (named ≡ None) × IsUnlinked rows why
IsAnswerBy rows named at_rest list verdict Open =
    (verdict ≡ Yes) × AreJudging rows named list × (at_rest ≡ true) × ¬ IsAtRest rows
