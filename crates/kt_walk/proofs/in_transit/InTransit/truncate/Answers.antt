use Rattle.std.proofs.Common.{◌≡◌, ◌<◌, take, length, arith, refl, sym, ap, ◌∙◌, take_all}
use Rattle.kt_walk.specs.TransitList.{TransitList}
use Rattle.kt_walk.specs.Marks.{shown, pick}
use Rattle.kt_walk.proofs.PickFacts.{shown_picked, shown_count, cut, set_within}
use Rattle.kt_walk.proofs.in_transit.InTransit.truncate.Goals as goal

pub cut_marks-requires : goal.cut_marks-requires
cut_marks-requires c =
    let some = c.if-is_empty.ensures.some refl in
    let marked = c.self.invariant some in
    record {
      order = omega (arith, set_within c.self.inside.marks.marks (length c.self.inside.slots.messages) c.place_of-slot.result marked.past c.place_of-slot.ensures.set, c.len.ensures.length);
      within = omega (arith, marked.within, c.len.ensures.length);
    }

pub returns-then-count-total : goal.returns-then-count-total
returns-then-count-total c =
    let some = c.if-is_empty.ensures.some refl in
    let marked = c.self.invariant some in
    let truncated = c.truncate-then-count-total.ensures in
    let some_left : 0 < length c.cut_marks.new.marks.marks = omega (arith, some, c.cut_marks.ensures.len) in
    let messages = ap (λ (v : TransitList). shown c.cut_marks.new.marks.marks v.messages) truncated
    ∙ shown_picked c.cut_marks.new.marks.marks (take c.place_of-slot.result c.self.inside.slots.messages) some_left
    ∙ cut c.self.inside.marks.marks c.cut_marks.new.marks.marks c.self.inside.slots.messages c.place_of-slot.result c.cut_marks.ensures.kept c.cut_marks.ensures.len
    ∙ ap (λ n. take n (pick c.self.inside.marks.marks c.self.inside.slots.messages)) c.place_of-slot.ensures.before
    ∙ ap (take c.args.count) (sym (shown_picked c.self.inside.marks.marks c.self.inside.slots.messages some)) in
    let room = ap (λ (v : TransitList). v.room) truncated in
    rw (← c.self.view_is) (λ t. record { messages = messages t; room = room t })

pub returns-else-count-total : goal.returns-else-count-total
returns-else-count-total c =
    let some = c.if-is_empty.ensures.some refl in
    let marked = c.self.invariant some in
    let all : take c.args.count (shown c.self.inside.marks.marks c.self.inside.slots.messages) ≡ shown c.self.inside.marks.marks c.self.inside.slots.messages = take_all c.args.count (shown c.self.inside.marks.marks c.self.inside.slots.messages) (omega (arith, c.if-count-total.false, c.total.ensures, shown_count c.self.inside.marks.marks c.self.inside.slots.messages some marked)) in
    rw (← c.self.view_is) (λ t. record { messages = sym all t; room = c.self.inside.slots.room })
