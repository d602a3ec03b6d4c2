-- What is answered to a log.
use Rattle.std.specs.Prelude.{ℕ, Bool, true, false, Option, Some, None, List, codes}
use Rattle.kt_spacetime.specs.declared.unfit.Unfit.TheVariants.{BadLog, NoChain}
use Rattle.kt_spacetime.specs.Unfit.{unfit_text}
use Rattle.kt_spacetime.specs.declared.verdict.Verdict.TheVariants.{Yes, No}
use Rattle.kt_spacetime.specs.Verdicts.{verdict_words}
use Rattle.kt_explain.specs.declared.answer.Answer.{Answer}
use Rattle.kt_explain.specs.declared.answer.Answer.TheVariants.{Checked, Unlinked, Open}

-- whether an answer is a yes
abbrev pub passes : Answer → Bool
passes (Checked Yes) = true
passes (Checked (No inst row why)) = false
passes (Unlinked why) = false
passes Open = false

-- the row that it names
abbrev pub row_named : Answer → Option ℕ
row_named (Checked Yes) = None
row_named (Checked (No inst row why)) = row
row_named (Unlinked (BadLog row rule)) = Some row
row_named (Unlinked (NoChain inst row p)) = Some row
row_named Open = None

-- its words: the checker's, why the log means no certificates, or that it leaves something open
abbrev pub answer_words : Answer → List ℕ
answer_words (Checked verdict) = verdict_words verdict
answer_words (Unlinked why) = unfit_text why
answer_words Open = codes "no open"
