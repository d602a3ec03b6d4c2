use Rattle.std.proofs.Common.{◌+◌, arith, refl, sym, ◌∙◌}
use Rattle.std.proofs.lemmas.List.{get_or_read}
use Rattle.kt_walk.proofs.TreeFacts.{in_tree, mark_at, read_mark}
use Rattle.kt_walk.proofs.counts.Counts.get.Goals as goal

pub overflow_add-self-inside-2 : goal.overflow_add-self-inside-2
overflow_add-self-inside-2 c = omega (arith, (in_tree c.self.inside.nodes.items c.self.inside.width c.self.inside.base c.args.place c.self.invariant.leaves (rw (← c.self.view_is) at c.requires)).3)

pub index-requires : goal.index-requires
index-requires c = omega (arith, (in_tree c.self.inside.nodes.items c.self.inside.width c.self.inside.base c.args.place c.self.invariant.leaves (rw (← c.self.view_is) at c.requires)).2)

pub returns : goal.returns
returns c =
    let t = c.self.inside.nodes.items in
    let leaf = c.self.inside.width + c.self.inside.base + c.args.place in
    let read = get_or_read t leaf c.index.result.now (in_tree c.self.inside.nodes.items c.self.inside.width c.self.inside.base c.args.place c.self.invariant.leaves (rw (← c.self.view_is) at c.requires)).2 c.index.ensures 0 in
    rw (← c.self.view_is) (read_mark c.index.result.now _ (read ∙ sym (mark_at c.self.inside.nodes.items c.self.inside.width c.self.inside.base c.args.place leaf c.self.invariant.leaves refl)))
