use Rattle.std.proofs.Common.{◌≤◌, ℕ, List, length, subst, sym}
use Rattle.kt_report.proofs.NameFacts.{name_short}
use Rattle.kt_report.proofs.words.name_text.Goals as goal

pub returns-clause-short : goal.returns-clause-short
returns-clause-short c =
    subst (λ (word : List ℕ). length word ≤ 16) (sym c.name_at.ensures.name) (name_short c.args.names.now c.index.result c.name_at.ensures.names)
