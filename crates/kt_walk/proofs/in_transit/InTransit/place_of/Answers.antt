use Rattle.std.proofs.Common.{arith, refl, sym, subst}
use Rattle.kt_walk.specs.TransitList.{Belongs}
use Rattle.kt_walk.specs.Marks.{pick}
use Rattle.kt_walk.proofs.PickFacts.{ones_within, shown_count, shown_picked, belongs_picked}
use Rattle.kt_walk.proofs.in_transit.InTransit.place_of.Goals as goal

pub returns-else-is_empty-clause-within : goal.returns-else-is_empty-clause-within
returns-else-is_empty-clause-within c =
    let some = c.if-is_empty.ensures.some refl in
    let marked = c.self.invariant some in
    rw (← c.self.view_is) (omega (arith, c.count_before.ensures, ones_within c.place_of-slot.result c.self.inside.marks.marks, shown_count c.self.inside.marks.marks c.self.inside.slots.messages some marked))

pub returns-else-is_empty-clause-belongs : goal.returns-else-is_empty-clause-belongs
returns-else-is_empty-clause-belongs c =
    let some = c.if-is_empty.ensures.some refl in
    let marked = c.self.invariant some in
    let belongs = belongs_picked c.self.inside.marks.marks c.self.inside.slots.messages c.args.msg c.place_of-slot.result marked.past (c.place_of-slot.ensures.belongs marked.rising) in
    rw (← c.self.view_is)
    (λ _. subst (λ l. Belongs c.args.msg l c.count_before.result) (sym (shown_picked c.self.inside.marks.marks c.self.inside.slots.messages some))
    (subst (λ n. Belongs c.args.msg (pick c.self.inside.marks.marks c.self.inside.slots.messages) n) (sym c.count_before.ensures) belongs))
