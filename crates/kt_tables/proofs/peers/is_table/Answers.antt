use Rattle.std.proofs.Common.{◌≤◌, ◌<◌, arith, rules}
use Rattle.kt_tables.specs.Peers.{IsTable}
use Rattle.kt_tables.proofs.TableTests.{rest_none, rest_more, rest_not, rest_all}
use Rattle.kt_tables.proofs.peers.is_table.Goals as goal
use Rattle.kt_tables.proofs.peers.is_table.Goals.{then-peer-low-via-then-peer-low, then-peer-low-via-else-peer-low+then-peer-peers, then-peer-low-via-else-peer-low+else-peer-peers+then-get-eq0}

pub loop-pair-init : goal.loop-pair-init
loop-pair-init c = rest_none _ _

pub returns-then-peer-low : goal.returns-then-peer-low
returns-then-peer-low c =
    let x = c.pair-item.result in
    let peer = c.index-peer.ensures.value in
    let not : x.0 < c.args.peers → c.loop-pair.low ≤ x.0 → 0 < x.1 → ⊥ = elim c.then-peer-low.branch [
      | then-peer-low-via-then-peer-low w ↦ λ b a l. omega (arith, peer, w.if-peer-low.true)
      | then-peer-low-via-else-peer-low+then-peer-peers w ↦ λ b a l. omega (arith, peer, w.if-peer-peers.true)
      | then-peer-low-via-else-peer-low+else-peer-peers+then-get-eq0 w ↦ λ b a l. omega (arith, w.get.ensures.value, w.if-get-eq0.true)
    ] in
    let refused : IsTable 0 c.args.peers c.args.pairs.now → ⊥ =
    rest_not _ _ _ _ x c.loop-pair.invariant c.loop-pair-test.true c.pair-item.is (λ a b l. not b a l) in
    (λ t. search rules, λ t. absurd (refused t))

pub loop-pair-preserved : goal.loop-pair-preserved
loop-pair-preserved c =
    let x = c.pair-item.result in
    let peer = c.index-peer.ensures.value in
    rw peer (rest_more _ _ _ _ x c.loop-pair.invariant c.loop-pair-test.true c.pair-item.is
    (omega (arith, peer, c.if-peer-low.false))
    (omega (arith, peer, c.if-peer-peers.false))
    (omega (arith, c.get.ensures.value, c.if-get-eq0.false)))

pub returns : goal.returns
returns c = let t = rest_all _ _ _ _ c.loop-pair.invariant c.loop-pair-test.false in (λ h. t, λ h. search rules)
