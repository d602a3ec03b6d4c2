use Rattle.std.proofs.Common.{◌↔◌, ◌≤◌, ◌≡◌, ℕ, ap, sym, subst, ◌∙◌}
use Rattle.std.specs.Prelude.{IsTrue}
use Rattle.kt_tables.specs.Peers.{LabelTable, label_of, find_label, IsTable}
use Rattle.kt_tables.proofs.Pairs.{Pairs}
use Rattle.kt_tables.proofs.peers.PeerLabels.are_at_most.Goals as goal

pub returns : goal.returns
unfolding label_of
returns c =
    let same : c.deref.result.now ≡ c.args.self.now.pairs = c.deref.ensures.value ∙ ap (λ (t : LabelTable). t.pairs) c.self.view_is in
    let table : IsTable 0 c.args.self.now.peers c.args.self.now.pairs = subst (λ (t : LabelTable). IsTable 0 t.peers t.pairs) c.self.view_is c.self.invariant.0 in
    let there : IsTable 0 c.args.self.now.peers c.deref.result.now = subst (λ (ps : Pairs). IsTable 0 c.args.self.now.peers ps) (sym same) table in
    subst (λ (ps : Pairs). IsTrue c.are_at_most.result ↔ ((q : ℕ) → find_label ps q ≤ c.args.most)) same (c.are_at_most.ensures _ there)
