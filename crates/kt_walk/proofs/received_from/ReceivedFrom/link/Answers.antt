use Rattle.kt_walk.proofs.LinkFacts.{found_past}
use Rattle.kt_walk.proofs.received_from.ReceivedFrom.link.Goals as goal

pub returns : goal.returns
returns c = rw (← c.self.view_is) (found_past _ c.args.sent c.args.received _ (rw (c.as_slice.ensures) at c.first_past.ensures.orphan) (rw (c.as_slice.ensures) at c.first_past.ensures.least))
