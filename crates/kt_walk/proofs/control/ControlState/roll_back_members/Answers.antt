use Rattle.std.proofs.Common.{◌≡◌, ℕ, ◌+◌, List, refl, subst, arith}
use Rattle.kt_spacetime.specs.declared.deeds.Deed.{Deed}
use Rattle.kt_walk.specs.PartsOf.{ShowsProcessStates}
use Rattle.kt_walk.specs.Stages.{with_live, undone_below, undone_at}
use Rattle.kt_walk.proofs.ControlLoops.{keeps_rest, keeps_rest_twice, same_live, undone_none, undone_next, within_below}
use Rattle.kt_walk.proofs.control.ControlState.roll_back_members.Goals as goal

pub loop-number-init : goal.loop-number-init
loop-number-init c = record {
  low = omega arith;
  rest = keeps_rest c.args.self.now;
  undone = λ s h within. same_live _ s s.live (undone_below 0 c.args.instance.now s.permanent s.live) (undone_none c.args.instance.now s.permanent s.live) h;
}

pub loop-number-preserved : goal.loop-number-preserved
loop-number-preserved c = record {
  low = omega (arith, c.loop-number-test.true);
  rest = keeps_rest_twice c.args.self.now c.loop-number.self c.roll_back_if.new.self c.loop-number.invariant.rest c.roll_back_if.ensures.rest;
  undone = λ s h within.
      let n : ℕ = c.loop-number.number in
      let f : ℕ → List Deed = undone_below n c.args.instance.now s.permanent s.live in
      same_live _ s (undone_at n c.args.instance.now s.permanent f) (undone_below (n + 1) c.args.instance.now s.permanent s.live) (undone_next n (n + 1) c.args.instance.now s.permanent s.live refl)
      (c.roll_back_if.ensures.undone (with_live s f) (c.loop-number.invariant.undone s h within) (within_below n c.args.instance.now s within n));
}

pub returns-clause-undone : goal.returns-clause-undone
returns-clause-undone c = λ s h within.
    let all : c.loop-number.number ≡ 64 = omega (arith, c.loop-number.invariant.low, c.loop-number-test.false) in
    subst (λ (n : ℕ). ShowsProcessStates c.loop-number.self.process_states.items (with_live s (undone_below n c.args.instance.now s.permanent s.live))) all (c.loop-number.invariant.undone s h within)
