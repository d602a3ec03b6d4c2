use Rattle.std.proofs.Common.{◌≡◌, ◌+◌, ◌-◌, ◌*◌, ◌<◌, ℕ, length, get_or, arith, sym, ap, ◌∙◌, subst}
use Rattle.std.proofs.lemmas.List.{get_or_read}
use Rattle.kt_walk.proofs.TreeFacts.{all_marked, marks_count, marked_before, mark_at, at_top, step_down, at_leaf, is_set, some_width, IsLevel}
use Rattle.kt_walk.proofs.counts.Counts.place_of.Goals as goal

pub loop-node-init : goal.loop-node-init
loop-node-init c =
    let h = c.self.invariant.leaves in
    let few = rw (← c.self.view_is) at c.requires in
    let some = some_width c.self.inside.nodes.items c.self.inside.width c.self.inside.base c.args.index h few in
    at_top c.self.inside.nodes.items c.self.inside.width c.args.index (h.power some) (omega (arith, few, all_marked c.self.inside.nodes.items c.self.inside.width c.self.inside.base c.self.invariant some))

pub loop-node-preserved-then-left-rest : goal.loop-node-preserved-then-left-rest
loop-node-preserved-then-left-rest c =
    let t = c.self.inside.nodes.items in
    let h = c.self.invariant.leaves in
    let inside : c.loop-node.node * 2 < length t = omega (arith, h.length, c.loop-node-test.true) in
    let read = get_or_read t (c.loop-node.node * 2) c.index.result.now inside c.index.ensures 0 in
    let place : 2 * c.loop-node.node ≡ c.loop-node.node * 2 = omega arith in
    let left : get_or t (2 * c.loop-node.node) 0 ≡ c.index.result.now = ap (λ (i : ℕ). get_or t i 0) place ∙ sym read in
    let step = step_down t c.self.inside.width c.args.index c.loop-node.node c.loop-node.rest c.self.invariant.sums c.loop-node.invariant c.loop-node-test.true in
    subst (λ (i : ℕ). IsLevel t c.self.inside.width c.args.index (i + 1) (c.loop-node.rest - c.index.result.now)) place (step.1 (c.loop-node.rest - c.index.result.now) (omega (arith, left, c.if-left-rest.true)))

pub loop-node-preserved : goal.loop-node-preserved
loop-node-preserved c =
    let t = c.self.inside.nodes.items in
    let h = c.self.invariant.leaves in
    let inside : c.loop-node.node * 2 < length t = omega (arith, h.length, c.loop-node-test.true) in
    let read = get_or_read t (c.loop-node.node * 2) c.index.result.now inside c.index.ensures 0 in
    let place : 2 * c.loop-node.node ≡ c.loop-node.node * 2 = omega arith in
    let left : get_or t (2 * c.loop-node.node) 0 ≡ c.index.result.now = ap (λ (i : ℕ). get_or t i 0) place ∙ sym read in
    let step = step_down t c.self.inside.width c.args.index c.loop-node.node c.loop-node.rest c.self.invariant.sums c.loop-node.invariant c.loop-node-test.true in
    subst (λ (i : ℕ). IsLevel t c.self.inside.width c.args.index i c.loop-node.rest) place (step.0 (omega (arith, left, c.if-left-rest.false)))

pub returns-clause-within : goal.returns-clause-within
returns-clause-within c =
    let h = c.self.invariant.leaves in
    let leaf = at_leaf c.self.inside.nodes.items c.self.inside.width c.self.inside.base c.args.index c.loop-node.node c.loop-node.rest h c.loop-node.invariant c.loop-node-test.false in
    rw (← c.self.view_is) (omega (arith, marks_count c.self.inside.nodes.items c.self.inside.width c.self.inside.base h, leaf.0, leaf.1))

pub returns-clause-set : goal.returns-clause-set
returns-clause-set c =
    let h = c.self.invariant.leaves in
    let leaf = at_leaf c.self.inside.nodes.items c.self.inside.width c.self.inside.base c.args.index c.loop-node.node c.loop-node.rest h c.loop-node.invariant c.loop-node-test.false in
    let place = c.loop-node.node - c.self.inside.width - c.self.inside.base in
    rw (← c.self.view_is) (is_set _ (mark_at c.self.inside.nodes.items c.self.inside.width c.self.inside.base place c.loop-node.node h (omega (arith, leaf.0)) ∙ leaf.2))

pub returns-clause-before : goal.returns-clause-before
returns-clause-before c =
    let h = c.self.invariant.leaves in
    let leaf = at_leaf c.self.inside.nodes.items c.self.inside.width c.self.inside.base c.args.index c.loop-node.node c.loop-node.rest h c.loop-node.invariant c.loop-node-test.false in
    let place = c.loop-node.node - c.self.inside.width - c.self.inside.base in
    rw (← c.self.view_is) (omega (arith, marked_before c.self.inside.nodes.items c.self.inside.width c.self.inside.base place c.loop-node.node h (omega (arith, leaf.0)), leaf.3))
