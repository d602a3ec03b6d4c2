use Rattle.std.proofs.Common.{◌≡◌, ◌∙◌, arith, sym, ap, ◌++◌, ℕ, List, take}
use Rattle.kt_text.proofs.CappedFacts.{front_more, front_over}
use Rattle.kt_text.proofs.capped.Capped.take_in.Goals as goal

pub loop-taken-preserved : goal.loop-taken-preserved
loop-taken-preserved g c =
    let kept = c.loop-taken.invariant in
    record {
      within = omega (arith, c.loop-taken-test.true);
      front = λ rest. rw (c.go_on.ensures.width, c.go_on.ensures.spot, c.go_on.ensures.room)
          (kept.front rest ∙ front_more c.loop-taken.self.width c.loop-taken.self.spot c.loop-taken.self.room c.loop-taken.taken c.args.bytes.now rest c.if-self-gt0.true c.loop-taken-test.true);
      some = λ none. absurd (omega (arith, none));
      width = c.go_on.ensures.width ∙ kept.width;
      over = c.go_on.ensures.over ∙ kept.over;
      source = c.go_on.ensures.source ∙ kept.source;
    }

pub returns-else-self-gt0-clause-front : goal.returns-else-self-gt0-clause-front
returns-else-self-gt0-clause-front g c = λ rest.
    let kept = c.loop-taken.invariant in
    let over : c.loop-taken.self.room ≡ 0 = omega (arith, c.if-self-gt0.false) in
    kept.front rest ∙ ap (λ (t : List ℕ). take c.loop-taken.taken c.args.bytes.now ++ t) (front_over _ _ _ _ over ∙ sym (front_over _ _ _ _ over))
