use Rattle.std.proofs.Common.{◌≡◌, ◌+◌, ◌*◌, ◌/◌, ◌<◌, ℕ, length, drop, arith, refl, ap, ◌∙◌}
use Rattle.std.proofs.lemmas.List.{get_or_read, drop-set-lt}
use Rattle.kt_walk.specs.Marks.{marks_of}
use Rattle.kt_walk.proofs.TreeFacts.{in_tree, of_byte, leaf_put, sum_put, put_at_leaf, parent_of}
use Rattle.kt_walk.proofs.counts.Counts.put.Goals as goal

pub overflow_add-node-2 : goal.overflow_add-node-2
overflow_add-node-2 c = omega (arith, (in_tree c.self.inside.nodes.items c.self.inside.width c.self.inside.base c.args.place c.self.invariant.leaves (rw (← c.self.view_is) at c.requires)).3)

pub index_mut-requires : goal.index_mut-requires
index_mut-requires c = omega (arith, (in_tree c.self.inside.nodes.items c.self.inside.width c.self.inside.base c.args.place c.self.invariant.leaves (rw (← c.self.view_is) at c.requires)).2)

pub loop-node-init : goal.loop-node-init
loop-node-init c =
    let there = in_tree c.self.inside.nodes.items c.self.inside.width c.self.inside.base c.args.place c.self.invariant.leaves (rw (← c.self.view_is) at c.requires) in
    let leaf = c.self.inside.width + c.self.inside.base + c.args.place in
    let put = leaf_put c.self.inside.nodes.items c.self.inside.width c.self.inside.base leaf c.from.result c.self.invariant (omega arith) there.1 (of_byte c.args.mark c.from.result c.from.ensures).1 in
    record {
      leaves = put.0;
      almost = put.1;
      width = refl;
      base = refl;
      same = refl;
      some = omega (arith, there.0);
      within = there.1;
    }

pub overflow_add-index : goal.overflow_add-index
overflow_add-index c =
    let inv = c.loop-node.invariant in
    let t = c.loop-node.self-inside.nodes.items in
    let width = c.loop-node.self-inside.width in
    let half = c.loop-node.node / 2 in
    let low : half < width = omega (arith, inv.within) in
    let first : 2 * half < length t = omega (arith, low, inv.leaves.length) in
    let second : 2 * half + 1 < length t = omega (arith, low, inv.leaves.length) in
    let left = get_or_read t (2 * half) c.index.result.now first c.index.ensures 0 in
    let right = get_or_read t (2 * half + 1) c.index-in-loop-node.result.now second c.index-in-loop-node.ensures 0 in
    let put = sum_put t width c.loop-node.self-inside.base c.loop-node.node half (c.index.result.now + c.index-in-loop-node.result.now) inv.leaves inv.almost (omega (arith, c.loop-node-test.true)) low (parent_of c.loop-node.node) (omega (arith, left, right)) in
    omega (arith, put.2, inv.leaves.small)

pub loop-node-preserved : goal.loop-node-preserved
loop-node-preserved c =
    let inv = c.loop-node.invariant in
    let t = c.loop-node.self-inside.nodes.items in
    let width = c.loop-node.self-inside.width in
    let half = c.loop-node.node / 2 in
    let low : half < width = omega (arith, inv.within) in
    let first : 2 * half < length t = omega (arith, low, inv.leaves.length) in
    let second : 2 * half + 1 < length t = omega (arith, low, inv.leaves.length) in
    let left = get_or_read t (2 * half) c.index.result.now first c.index.ensures 0 in
    let right = get_or_read t (2 * half + 1) c.index-in-loop-node.result.now second c.index-in-loop-node.ensures 0 in
    let put = sum_put t width c.loop-node.self-inside.base c.loop-node.node half (c.index.result.now + c.index-in-loop-node.result.now) inv.leaves inv.almost (omega (arith, c.loop-node-test.true)) low (parent_of c.loop-node.node) (omega (arith, left, right)) in
    record {
      leaves = put.0;
      almost = put.1;
      width = inv.width;
      base = inv.base;
      same = drop-set-lt c.self.inside.width t half (c.index.result.now + c.index-in-loop-node.result.now) (omega (arith, low, inv.width)) ∙ inv.same;
      some = omega (arith, c.loop-node-test.true);
      within = omega (arith, low);
    }

pub returns : goal.returns
returns c =
    let inv = c.loop-node.invariant in
    let s = c.loop-node.self-inside.nodes.items in
    let first : c.loop-node.self-inside.width + c.loop-node.self-inside.base ≡ c.self.inside.width + c.self.inside.base = omega (arith, inv.width, inv.base) in
    let marks = ap (λ (n : ℕ). marks_of (drop n s)) first
    ∙ put_at_leaf c.self.inside.nodes.items s c.self.inside.width c.self.inside.base c.args.place c.from.result c.args.mark (of_byte c.args.mark c.from.result c.from.ensures).0 inv.same in
    rw (← c.self.view_is) (λ t. record { marks = marks t; before = inv.base t })
