use Rattle.std.proofs.Common.{◌∙◌, ◌<◌, length, arith}
use Rattle.kt_walk.proofs.PickFacts.{shown_picked, all_marked}
use Rattle.kt_walk.proofs.in_transit.mark_slots.Goals as goal

pub returns-in_ok-begin-clause-shown : goal.returns-in_ok-begin-clause-shown
returns-in_ok-begin-clause-shown c =
    let marks = c.mark_all.new.marks.marks in
    let some : 0 < length c.mark_all.new.marks.marks = omega (arith, c.mark_all.ensures.len, c.in_ok-begin.ensures.wanted) in
    shown_picked marks c.args.slots.now.messages some ∙ all_marked marks c.args.slots.now.messages (λ k l. c.mark_all.ensures.set k (omega (arith, l, c.len-count.ensures.length)))
