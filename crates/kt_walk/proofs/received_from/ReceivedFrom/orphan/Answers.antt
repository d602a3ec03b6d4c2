use Rattle.std.specs.List.{slice_index}
use Rattle.kt_walk.proofs.ReceivedFacts.{some_orphan, least_orphan}
use Rattle.kt_walk.proofs.received_from.ReceivedFrom.orphan.Goals as goal

pub returns-clause-orphan : goal.returns-clause-orphan
returns-clause-orphan c = rw (c.earlier.ensures, ← c.self.view_is)
    (some_orphan _ (slice_index c.args.cut.now) _ _ (rw (c.as_slice.ensures, c.length-sent.ensures, c.length-received.ensures) at c.first_past.ensures.orphan)
    (rw (c.deref.ensures.value, c.length-received.ensures) at c.first_undone.ensures.orphan))

pub returns-clause-least : goal.returns-clause-least
returns-clause-least c = rw (c.earlier.ensures, ← c.self.view_is)
    (λ s m last_permanent t o. least_orphan _ (slice_index c.args.cut.now) _ _ s m (rw (c.as_slice.ensures, c.length-sent.ensures, c.length-received.ensures) at c.first_past.ensures.least)
    (rw (c.deref.ensures.value, c.length-received.ensures) at c.first_undone.ensures.least) last_permanent t o)
