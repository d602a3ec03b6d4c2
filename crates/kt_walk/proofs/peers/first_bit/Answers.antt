use Rattle.kt_walk.proofs.PeersFacts.{none_moved, first_moved}
use Rattle.kt_walk.proofs.peers.first_bit.Goals as goal

pub returns-then-rest-eq0-clause-none : goal.returns-then-rest-eq0-clause-none
returns-then-rest-eq0-clause-none c = λ k from low. none_moved c.args.bits c.args.start k c.if-rest-eq0.true from

pub returns-clause-found : goal.returns-clause-found
returns-clause-found c = first_moved c.args.bits c.args.start c.if-rest-eq0.false c.ranges.bits.fits
