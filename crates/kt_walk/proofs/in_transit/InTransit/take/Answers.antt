use Rattle.std.proofs.Common.{false, length, length-set, set, List, arith, refl, sym, ap, ◌∙◌}
use Rattle.std.specs.List.{remove}
use Rattle.kt_walk.specs.declared.in_transit.Sent.{Sent}
use Rattle.kt_walk.specs.Marks.{Marking, shown, pick}
use Rattle.kt_walk.proofs.PickFacts.{shown_picked, shown_count, taken, set_within}
use Rattle.kt_walk.proofs.in_transit.InTransit.take.Goals as goal

pub place_of-slot-requires : goal.place_of-slot-requires
place_of-slot-requires c =
    let marks = c.begin_marks.new.marks.marks in
    let xs = c.self.inside.slots.messages in
    let some = c.if-is_empty.ensures.some refl in
    let few = rw (← c.self.view_is) at c.requires in
    omega (arith, few, ap (λ (l : List Sent). length l) c.begin_marks.ensures.shown, shown_count marks xs some (c.begin_marks.ensures.marked some))

pub returns-else-is_empty-clause-ok : goal.returns-else-is_empty-clause-ok
returns-else-is_empty-clause-ok c =
    let marks = c.begin_marks.new.marks.marks in
    let xs = c.self.inside.slots.messages in
    let slot = c.place_of-slot.result in
    let some = c.if-is_empty.ensures.some refl in
    let marked = c.begin_marks.ensures.marked some in
    let within = set_within marks (length xs) slot marked.past c.place_of-slot.ensures.set in
    let messages = ap (λ (v : Marking). shown v.marks xs) c.put.ensures
    ∙ shown_picked (set marks slot false) xs (omega (arith, some, length-set marks slot false))
    ∙ taken marks xs slot c.place_of-slot.ensures.set within
    ∙ ap (remove (pick marks xs)) c.place_of-slot.ensures.before
    ∙ ap (λ (l : List Sent). remove l c.args.index) (sym (shown_picked marks xs some) ∙ c.begin_marks.ensures.shown) in
    rw (← c.self.view_is) (λ t. record { messages = messages t; room = c.self.inside.slots.room })
