use Rattle.std.proofs.Common.{◌+◌, ◌-◌, ◌/◌, ◌<◌, length, drop, arith, refl}
use Rattle.std.proofs.lemmas.List.{get_or_read}
use Rattle.kt_walk.specs.Marks.{marks_of}
use Rattle.kt_walk.proofs.TreeFacts.{in_tree, marked_before, step_up, upto_more}
use Rattle.kt_walk.proofs.PickFacts.{ones_of_place}
use Rattle.kt_walk.proofs.counts.Counts.count_before.Goals as goal
use Rattle.kt_walk.proofs.counts.Counts.count_before.Goals.{then-node-eq1, else-node-eq1}

pub overflow_add-node-2 : goal.overflow_add-node-2
overflow_add-node-2 c = omega (arith, (in_tree c.self.inside.nodes.items c.self.inside.width c.self.inside.base c.args.place c.self.invariant.leaves (rw (← c.self.view_is) at c.requires)).3)

pub loop-first-init : goal.loop-first-init
loop-first-init c =
    let h = c.self.invariant.leaves in
    let there = in_tree c.self.inside.nodes.items c.self.inside.width c.self.inside.base c.args.place c.self.invariant.leaves (rw (← c.self.view_is) at c.requires) in
    let before = marked_before c.self.inside.nodes.items c.self.inside.width c.self.inside.base c.args.place (c.self.inside.width + c.self.inside.base + c.args.place) h refl in
    record {
      power = h.power there.0;
      within = omega arith;
      low = omega arith;
      high = there.1;
      counted = omega (arith, before);
    }

pub overflow_add-count : goal.overflow_add-count
overflow_add-count c =
    let h = c.self.invariant.leaves in
    let inv = c.loop-first.invariant in
    let t = c.self.inside.nodes.items in
    let step = step_up t c.self.inside.width c.loop-first.first c.loop-first.node c.self.invariant.sums inv.power c.loop-first-test.true inv.high inv.within in
    let inside : c.loop-first.node - 1 < length t = omega (arith, inv.high, inv.within, h.length, c.loop-first-test.true) in
    let read = get_or_read t (c.loop-first.node - 1) c.index.result.now inside c.index.ensures 0 in
    let more = upto_more t (c.loop-first.first / 2) (c.loop-first.node / 2 - c.loop-first.first / 2) (c.loop-first.node / 2) (omega (arith, step.1)) in
    let few = ones_of_place c.args.place (marks_of (drop (c.self.inside.width + c.self.inside.base) t)) in
    omega (arith, inv.counted, more, few, read, step.3 c.if-node-eq1.true, c.ranges.place)

pub loop-first-preserved : goal.loop-first-preserved
loop-first-preserved c =
    let h = c.self.invariant.leaves in
    let inv = c.loop-first.invariant in
    let step = step_up c.self.inside.nodes.items c.self.inside.width c.loop-first.first c.loop-first.node c.self.invariant.sums inv.power c.loop-first-test.true inv.high inv.within in
    record {
      power = step.0;
      within = omega (arith, inv.within);
      low = step.1;
      high = step.2;
      counted = elim c.if-node-eq1.branch [
        | then-node-eq1 w ↦
            let inside : c.loop-first.node - 1 < length c.self.inside.nodes.items = omega (arith, inv.high, inv.within, h.length, c.loop-first-test.true) in
            let read = get_or_read c.self.inside.nodes.items (c.loop-first.node - 1) w.index.result.now inside w.index.ensures 0 in
            omega (arith, w.count-is, read, step.3 w.if-node-eq1.true, inv.counted)
        | else-node-eq1 w ↦ omega (arith, w.count-is, step.4 w.if-node-eq1.false, inv.counted)
      ];
    }
