use Rattle.std.proofs.Common.{rules, of_calls, ◌≡◌, ◌+◌, ◌++◌, List, length, refl, sym, subst}
use Rattle.kt_walk.specs.declared.in_transit.Sent.{Sent}
use Rattle.kt_walk.specs.TransitList.{Belongs}
use Rattle.kt_walk.specs.Marks.{AreRisingMessages}
use Rattle.kt_walk.proofs.TransitFacts.{rising_left, rising_right, belongs_before, belongs_after}
use Rattle.kt_walk.proofs.gap_buffer.GapBuffer.place_of.Goals as goal

pub returns-then-begins_below-clause-belongs : goal.returns-then-begins_below-clause-belongs
returns-then-begins_below-clause-belongs c =
    let passed = c.self.inside.passed.items in
    let next = c.self.inside.next.items in
    let first = c.if-begins_below.ensures.below refl in
    let place : length c.self.inside.passed.items + c.count_next_below.result ≡ c.len.result + c.count_next_below.result = search (rules, of_calls) in
    rw (← c.self.view_is)
    (λ in_order. subst (λ i. Belongs c.args.msg (passed ++ next) i) place
    (belongs_after passed next c.args.msg c.count_next_below.result first.0 in_order first.1 first.2 (c.count_next_below.ensures.belongs (rising_right passed next in_order))))

pub returns-else-begins_below-clause-belongs : goal.returns-else-begins_below-clause-belongs
returns-else-begins_below-clause-belongs c =
    let passed = c.self.inside.passed.items in
    let next = c.self.inside.next.items in
    let same : c.deref.result.now ≡ c.self.inside.passed.items = search (rules, of_calls) in
    rw (← c.self.view_is)
    (λ in_order. belongs_before passed next c.args.msg c.count_below.result in_order (c.if-begins_below.ensures.not_below refl)
    (subst (λ (xs : List Sent). Belongs c.args.msg xs c.count_below.result) same (c.count_below.ensures.belongs (subst AreRisingMessages (sym same) (rising_left passed next in_order)))))
