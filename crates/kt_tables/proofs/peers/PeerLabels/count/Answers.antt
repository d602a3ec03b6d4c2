use Rattle.std.proofs.Common.{sym, ◌∙◌, arith, length, ◌≡◌}
use Rattle.kt_tables.specs.Peers.{label_of}
use Rattle.kt_tables.proofs.Cohorts.{count_is}
use Rattle.kt_tables.proofs.peers.PeerLabels.count.Goals as goal

pub returns : goal.returns
unfolding label_of
returns c =
    let long : c.len.result ≡ length c.self.inside.pairs.items = omega (arith, c.len.ensures, c.self.inside.pairs.ok.0) in
    rw (← c.self.view_is) (long ∙ sym (count_is _ _ _ c.self.invariant.0))
