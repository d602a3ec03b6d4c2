use Rattle.kt_walk.proofs.PeersFacts.{none_in}
use Rattle.kt_walk.proofs.peers.Peers.new.Goals as goal

pub returns : goal.returns
returns c = none_in
