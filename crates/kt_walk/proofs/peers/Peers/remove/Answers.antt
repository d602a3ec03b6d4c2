use Rattle.std.proofs.Common.{ap, ◌∙◌}
use Rattle.kt_walk.specs.Peers.{is_in}
use Rattle.kt_walk.proofs.PeersFacts.{removed, removed_others}
use Rattle.kt_walk.proofs.peers.Peers.remove.Goals as goal

pub returns-clause-removed : goal.returns-clause-removed
returns-clause-removed c = removed c.self.inside.senders c.args.place c.self.invariant c.requires

pub returns-clause-others : goal.returns-clause-others
returns-clause-others c = λ i other. removed_others c.self.inside.senders c.args.place i c.self.invariant c.requires other ∙ ap (λ (l : _). is_in l i) c.self.view_is
