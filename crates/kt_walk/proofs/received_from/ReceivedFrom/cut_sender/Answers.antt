use Rattle.std.proofs.Common.{refl}
use Rattle.kt_walk.proofs.ReceivedFacts.{sender_cut}
use Rattle.kt_walk.proofs.ItemPlaces.{take_rest}
use Rattle.kt_meaning.proofs.Lists.{get_take}
use Rattle.kt_walk.proofs.received_from.ReceivedFrom.cut_sender.Goals as goal

pub returns-clause-received_from : goal.returns-clause-received_from
returns-clause-received_from c = rw (← c.self.view_is) (λ rs ss i j r l t.
    sender_cut _ _ rs ss i j c.args.place c.count_sent_before-kept.result r l (rw c.as_slice-arrivals.ensures at c.count_sent_before-kept.ensures.parts) refl refl c.truncate.ensures
    (rw (take_rest c.count_sent_before-kept.result c.as_slice-arrivals.result.now, c.as_slice-arrivals.ensures) at c.undo_all.ensures.items) t)

pub returns-clause-left : goal.returns-clause-left
returns-clause-left c = rw (c.truncate.ensures, ← c.self.view_is) (λ k a e. (get_take c.count_sent_before-kept.result c.self.inside.arrivals k a e).0)
