use Rattle.std.proofs.Common.{sym, ◌∙◌, ap, subst}
use Rattle.kt_tables.specs.States.{State}
use Rattle.kt_tables.specs.Standing.{TablesStandFor}
use Rattle.kt_tables.proofs.Following.{speaks_commit}
use Rattle.kt_tables.proofs.Keeping.{stands_commit}
use Rattle.kt_tables.proofs.tables.Tables.on_commit.Goals as goal

pub returns-clause-stands : goal.returns-clause-stands
returns-clause-stands c = λ calls h.
    let stood = subst (λ (t : State). TablesStandFor t calls) (sym c.self.view_is) h in
    let state = ap (λ (t : State). t.is_tentative) c.self.view_is ∙ c.requires in
    stands_commit _ calls _ _ _ stood (speaks_commit calls h.speaks) state c.clear.ensures.labels c.clear-2.ensures.labels c.copy_from.ensures.labels
