use Rattle.std.proofs.Common.{arith, sym, ap, ◌∙◌}
use Rattle.std.specs.List.{slice_get}
use Rattle.kt_walk.specs.Marks.{pick}
use Rattle.kt_walk.proofs.PickFacts.{get_picked, picked_count, get_past}
use Rattle.kt_walk.proofs.in_transit.get_marked.Goals as goal

pub returns-then-index-total : goal.returns-then-index-total
returns-then-index-total c =
    c.get.ensures
    ∙ sym (get_picked c.args.marks.now.marks c.args.slots.now.messages c.place_of.result c.place_of.ensures.set)
    ∙ ap (slice_get (pick c.args.marks.now.marks c.args.slots.now.messages)) c.place_of.ensures.before

pub returns-else-index-total : goal.returns-else-index-total
returns-else-index-total c = sym (get_past (pick c.args.marks.now.marks c.args.slots.now.messages) c.args.index (omega (arith, c.if-index-total.false, c.total.ensures, picked_count c.args.marks.now.marks c.args.slots.now.messages c.requires.marked.past)))
