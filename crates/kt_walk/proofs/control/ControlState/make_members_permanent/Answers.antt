use Rattle.std.proofs.Common.{◌≡◌, ℕ, ◌+◌, refl, subst, arith}
use Rattle.kt_walk.specs.PartsOf.{ShowsProcessStates}
use Rattle.kt_walk.specs.Stages.{with_permanent, permanent_below, permanent_at}
use Rattle.kt_walk.proofs.ControlLoops.{keeps_rest, keeps_rest_twice, same_permanent, permanent_none, permanent_next, within_next}
use Rattle.kt_walk.proofs.control.ControlState.make_members_permanent.Goals as goal

pub loop-number-init : goal.loop-number-init
loop-number-init c = record {
  low = omega arith;
  rest = keeps_rest c.args.self.now;
  last_permanent = λ s h w. same_permanent _ s s.permanent (permanent_below 0 c.args.instance.now s.permanent) (permanent_none c.args.instance.now s.permanent) h;
}

pub loop-number-preserved : goal.loop-number-preserved
loop-number-preserved c = record {
  low = omega (arith, c.loop-number-test.true);
  rest = keeps_rest_twice c.args.self.now c.loop-number.self c.make_permanent_if.new.self c.loop-number.invariant.rest c.make_permanent_if.ensures.rest;
  last_permanent = λ s h w.
      let n : ℕ = c.loop-number.number in
      let f : ℕ → ℕ = permanent_below n c.args.instance.now s.permanent in
      same_permanent _ s (permanent_at n c.args.instance.now f) (permanent_below (n + 1) c.args.instance.now s.permanent) (permanent_next n (n + 1) c.args.instance.now s.permanent refl)
      (c.make_permanent_if.ensures.last_permanent (with_permanent s f) (c.loop-number.invariant.last_permanent s h w) (within_next n c.args.instance.now s w));
}

pub returns-clause-last_permanent : goal.returns-clause-last_permanent
returns-clause-last_permanent c = λ s h w.
    let all : c.loop-number.number ≡ 64 = omega (arith, c.loop-number.invariant.low, c.loop-number-test.false) in
    subst (λ (n : ℕ). ShowsProcessStates c.loop-number.self.process_states.items (with_permanent s (permanent_below n c.args.instance.now s.permanent))) all (c.loop-number.invariant.last_permanent s h w)
