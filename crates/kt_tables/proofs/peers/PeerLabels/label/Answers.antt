use Rattle.std.proofs.Common.{sym, ◌∙◌, ap, subst}
use Rattle.kt_tables.specs.Peers.{LabelTable, label_of, find_label, IsTable}
use Rattle.kt_tables.proofs.Pairs.{Pairs}
use Rattle.kt_tables.proofs.peers.PeerLabels.label.Goals as goal

pub returns : goal.returns
unfolding label_of
returns c =
    let items = c.deref.ensures.value in
    let table : IsTable 0 c.self.inside.peers c.deref.result.now = subst (λ (ps : Pairs). IsTable 0 c.self.inside.peers ps) (sym items) c.self.invariant.0 in
    c.label_from_back.ensures c.self.inside.peers (c.as_far_as.ensures.table c.self.inside.peers table)
    ∙ (c.as_far_as.ensures.label c.self.inside.peers table
    ∙ ap (λ (ps : Pairs). find_label ps c.args.peer) (items ∙ ap (λ (t : LabelTable). t.pairs) c.self.view_is))
