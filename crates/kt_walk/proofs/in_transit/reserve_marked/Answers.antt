use Rattle.std.proofs.Common.{List, length, arith, sym, ap}
use Rattle.kt_walk.specs.declared.in_transit.Sent.{Sent}
use Rattle.kt_walk.proofs.PickFacts.{of_ok, picked_count, picked_within}
use Rattle.kt_walk.proofs.in_transit.reserve_marked.Goals as goal

pub overflow_sub-taken : goal.overflow_sub-taken
overflow_sub-taken c = omega (arith, c.total.ensures, c.len.ensures.length, picked_count c.args.marks.now.marks c.args.slots.now.messages c.requires.marked.past, picked_within c.args.marks.now.marks c.args.slots.now.messages)

pub returns-clause-enough : goal.returns-clause-enough
returns-clause-enough c = λ _.
    let count = picked_count c.args.marks.now.marks c.args.slots.now.messages c.requires.marked.past in
    let few = picked_within c.args.marks.now.marks c.args.slots.now.messages in
    let same = ap (λ (l : List Sent). length l) c.reserve.ensures.messages in
    let room = of_ok c.reserve.result c.reserve.ensures.ok (sym c.if-is_err.ensures.value) in
    omega (arith, count, few, same, room, c.total.ensures, c.len.ensures.length, c.saturating_sub.ensures, c.max-missing.ensures)
