use Rattle.std.proofs.Common.{◌≡◌, ◌∙◌, sym}
use Rattle.std.proofs.lemmas.Str.{IsUtf8-from_ascii}
use Rattle.kt_plan.proofs.NameFacts.{ascii}
use Rattle.kt_plan.proofs.names.name_in.Goals as goal

pub returns-in-Err-clause-none : goal.returns-in-Err-clause-none
returns-in-Err-clause-none c = absurd (c.in-Err.ensures.cases.0 (IsUtf8-from_ascii c.args.word.now (ascii c.args.word.now (sym c.is_name.ensures ∙ c.if-not-is_name.false))))
