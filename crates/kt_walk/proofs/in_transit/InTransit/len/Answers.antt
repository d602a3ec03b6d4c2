use Rattle.std.proofs.Common.{arith, refl, sym, ◌∙◌}
use Rattle.kt_walk.proofs.PickFacts.{picked_count, picked_within, shown_count}
use Rattle.kt_walk.proofs.in_transit.InTransit.len.Goals as goal

pub returns-else-is_empty-clause-length : goal.returns-else-is_empty-clause-length
returns-else-is_empty-clause-length c =
    let some = c.if-is_empty.ensures.some refl in
    let marked = c.self.invariant some in
    rw (← c.self.view_is) (c.total.ensures ∙ sym (shown_count c.self.inside.marks.marks c.self.inside.slots.messages some marked))

pub returns-else-is_empty-clause-room : goal.returns-else-is_empty-clause-room
returns-else-is_empty-clause-room c =
    let some = c.if-is_empty.ensures.some refl in
    let marked = c.self.invariant some in
    rw (← c.self.view_is) (omega (arith, c.total.ensures, picked_count c.self.inside.marks.marks c.self.inside.slots.messages marked.past, picked_within c.self.inside.marks.marks c.self.inside.slots.messages, c.len-slots.ensures.length, c.len-slots.ensures.room))
