use Rattle.std.proofs.Common.{arith, sym, ◌∙◌, ◌<◌, length}
use Rattle.std.proofs.lemmas.List.{get_or_read}
use Rattle.kt_walk.proofs.TreeFacts.{marks_count, all_marked}
use Rattle.kt_walk.proofs.counts.Counts.total.Goals as goal

pub returns : goal.returns
returns c =
    let t = c.self.inside.nodes.items in
    let h = c.self.invariant.leaves in
    let some = rw (← c.self.view_is) at c.requires in
    let width : 0 < c.self.inside.width = omega (arith, some, marks_count c.self.inside.nodes.items c.self.inside.width c.self.inside.base h) in
    let within : 1 < length t = omega (arith, width, h.length) in
    rw (← c.self.view_is) (get_or_read t 1 c.index.result.now within c.index.ensures 0 ∙ sym (all_marked c.self.inside.nodes.items c.self.inside.width c.self.inside.base c.self.invariant width))
