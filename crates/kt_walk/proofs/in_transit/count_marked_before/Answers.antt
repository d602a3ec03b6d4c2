use Rattle.std.proofs.Common.{◌+◌, ◌-◌, ◌/◌, ◌<◌, length, arith, refl, ◌∙◌}
use Rattle.std.proofs.lemmas.Option.{slice_get_within}
use Rattle.kt_walk.specs.Marks.{pick}
use Rattle.kt_walk.proofs.PickFacts.{picked_count, all_before, all_after}
use Rattle.kt_walk.proofs.in_transit.count_marked_before.Goals as goal

pub loop-low-init : goal.loop-low-init
loop-low-init c = record {
  order = omega arith;
  within = omega (arith, c.total-high.ensures);
  before = λ o k a l e. absurd (omega (arith, l));
  not_before = λ o k a l e. absurd (omega (arith, l, slice_get_within (pick c.args.marks.now.marks c.args.slots.now.messages) k a e, picked_count c.args.marks.now.marks c.args.slots.now.messages c.requires.marked.past, c.total-high.ensures));
}

pub loop-low-preserved-then-is_sent_before : goal.loop-low-preserved-then-is_sent_before
loop-low-preserved-then-is_sent_before c =
    let inv = c.loop-low.invariant in
    let middle = c.loop-low.low + (c.loop-low.high - c.loop-low.low) / 2 in
    let low : c.loop-low.low + (c.loop-low.high - c.loop-low.low) / 2 < length (pick c.args.marks.now.marks c.args.slots.now.messages) = omega (arith, c.loop-low-test.true, inv.within, picked_count c.args.marks.now.marks c.args.slots.now.messages c.requires.marked.past) in
    record {
      order = omega (arith, c.loop-low-test.true);
      within = inv.within;
      before = λ o k a l e. all_before (pick c.args.marks.now.marks c.args.slots.now.messages) middle c.args.place (λ b at. c.if-is_sent_before.ensures.before refl b (c.get_marked.ensures ∙ at)) low o k a l e;
      not_before = inv.not_before;
    }

pub loop-low-preserved : goal.loop-low-preserved
loop-low-preserved c =
    let inv = c.loop-low.invariant in
    let middle = c.loop-low.low + (c.loop-low.high - c.loop-low.low) / 2 in
    let low : c.loop-low.low + (c.loop-low.high - c.loop-low.low) / 2 < length (pick c.args.marks.now.marks c.args.slots.now.messages) = omega (arith, c.loop-low-test.true, inv.within, picked_count c.args.marks.now.marks c.args.slots.now.messages c.requires.marked.past) in
    record {
      order = omega arith;
      within = omega (arith, inv.within, c.loop-low-test.true);
      before = inv.before;
      not_before = λ o k a l e. all_after (pick c.args.marks.now.marks c.args.slots.now.messages) middle c.args.place (λ b at. c.if-is_sent_before.ensures.not_before refl b (c.get_marked.ensures ∙ at)) low o k a l e;
    }
