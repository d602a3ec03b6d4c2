use Rattle.std.proofs.Common.{◌≡◌, ◌∙◌, ap, subst, length, get_or, ◌<◌, ◌≤◌}
use Rattle.kt_tables.specs.Peers.{LabelTable, label_of, IsTable}
use Rattle.kt_tables.proofs.Pairs.{Pairs}
use Rattle.kt_tables.proofs.Cohorts.{gathers_none, gathers_more, gathers_all, gathers_below}
use Rattle.kt_tables.proofs.peers.PeerLabels.peers.Goals as goal

pub loop-pair-init : goal.loop-pair-init
loop-pair-init c = gathers_none c.args.self.now.pairs c.empty-peers.result c.empty-peers.ensures

pub loop-pair-preserved : goal.loop-pair-preserved
loop-pair-preserved c =
    let ps = c.args.self.now.pairs in
    let i = c.loop-pair.pair-index in
    let x = c.pair-item.result in
    let same : c.deref-pair-items.result.now ≡ ps = c.deref-pair-items.ensures.value ∙ ap (λ (t : LabelTable). t.pairs) c.self.view_is in
    let within : i < length ps = subst (λ (l : Pairs). i < length l) same c.loop-pair-test.true in
    let item : x ≡ get_or ps i x = subst (λ (l : Pairs). x ≡ get_or l i x) same c.pair-item.is in
    gathers_more ps i c.loop-pair.peers _ x c.loop-pair.invariant within item c.with-peers.ensures.added c.with-peers.ensures.others

pub returns-clause-peers : goal.returns-clause-peers
unfolding label_of
returns-clause-peers c =
    let ps = c.args.self.now.pairs in
    let i = c.loop-pair.pair-index in
    let same : c.deref-pair-items.result.now ≡ ps = c.deref-pair-items.ensures.value ∙ ap (λ (t : LabelTable). t.pairs) c.self.view_is in
    let most : i ≤ length ps = subst (λ (l : Pairs). i ≤ length l) same c.loop-pair.auto.pair-index-end in
    let past : length ps ≤ i = subst (λ (l : Pairs). length l ≤ i) same c.loop-pair-test.false in
    let table : IsTable 0 c.args.self.now.peers ps = subst (λ (t : LabelTable). IsTable 0 t.peers t.pairs) c.self.view_is c.self.invariant.0 in
    gathers_all _ ps i c.loop-pair.peers table c.loop-pair.invariant most past

pub returns-clause-within : goal.returns-clause-within
returns-clause-within c =
    let ps = c.args.self.now.pairs in
    let i = c.loop-pair.pair-index in
    let same : c.deref-pair-items.result.now ≡ ps = c.deref-pair-items.ensures.value ∙ ap (λ (t : LabelTable). t.pairs) c.self.view_is in
    let most : i ≤ length ps = subst (λ (l : Pairs). i ≤ length l) same c.loop-pair.auto.pair-index-end in
    let table : IsTable 0 c.args.self.now.peers ps = subst (λ (t : LabelTable). IsTable 0 t.peers t.pairs) c.self.view_is c.self.invariant.0 in
    gathers_below _ ps i c.loop-pair.peers table c.loop-pair.invariant most
