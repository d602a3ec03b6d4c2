use Rattle.std.proofs.Common.{arith}
use Rattle.kt_walk.proofs.PickFacts.{picked_count, picked_within}
use Rattle.kt_walk.proofs.in_transit.is_crowded.Goals as goal

pub overflow_sub-len : goal.overflow_sub-len
overflow_sub-len c = omega (arith, c.total-held.ensures, c.len.ensures.length, picked_count c.args.marks.now.marks c.args.slots.now.messages c.requires.marked.past, picked_within c.args.marks.now.marks c.args.slots.now.messages)
