use Rattle.std.proofs.Common.{◌<◌, sym, subst}
use Rattle.kt_tables.specs.Peers.{label_of}
use Rattle.kt_tables.specs.States.{State}
use Rattle.kt_tables.specs.Standing.{TablesStandFor}
use Rattle.kt_tables.proofs.Keeping.{stands_received}
use Rattle.kt_tables.proofs.tables.Tables.received.Goals as goal

pub returns-clause-stands : goal.returns-clause-stands
returns-clause-stands c = λ calls h s.
    let stood = subst (λ (t : State). TablesStandFor t calls) (sym c.self.view_is) h in
    let above = subst (λ (t : State). label_of t.last_rcvd c.args.from < c.args.label) (sym c.self.view_is) c.requires.rises.0 in
    stands_received _ calls c.args.from c.args.label _ stood s above c.put.ensures.labels
