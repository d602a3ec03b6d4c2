use Rattle.std.proofs.Common.{sym, subst}
use Rattle.kt_tables.specs.States.{State}
use Rattle.kt_tables.specs.Standing.{TablesStandFor}
use Rattle.kt_tables.proofs.Following.{speaks_tentative}
use Rattle.kt_tables.proofs.Keeping.{stands_tentative}
use Rattle.kt_tables.proofs.tables.Tables.on_tentative.Goals as goal

pub returns-clause-stands : goal.returns-clause-stands
returns-clause-stands c = λ calls h.
    let stood = subst (λ (t : State). TablesStandFor t calls) (sym c.self.view_is) h in
    stands_tentative _ calls _ _ _ _ stood (speaks_tentative calls h.speaks) c.take.ensures.other_labels c.take-2.ensures.other_labels c.take.ensures.labels c.take-2.ensures.labels
