use Rattle.std.proofs.Common.{◌≡◌, false, sym, ◌∙◌, arith, below_more}
use Rattle.kt_base.specs.Sets.{has}
use Rattle.kt_fifo.specs.Channels.{spare_of}
use Rattle.kt_fifo.proofs.Wiring.{grows_at, others_at}
use Rattle.kt_fifo.proofs.channels.Channels.reserve.Goals as goal
use Rattle.kt_fifo.proofs.channels.Channels.reserve.Goals.{then-has+in_ok-reserve_many, else-has}

pub returns-in_err-reserve_many-clause-grows : goal.returns-in_err-reserve_many-clause-grows
returns-in_err-reserve_many-clause-grows c = λ p q.
    omega (arith, c.loop-number.invariant.grows p q, grows_at (spare_of c.loop-number.self) (spare_of c.reserve_many.new.self) _ _ c.reserve_many.ensures.spare c.reserve_many.ensures.grows p q)

pub returns-in_err-reserve_many-clause-others : goal.returns-in_err-reserve_many-clause-others
returns-in_err-reserve_many-clause-others c = λ p q n.
    let target = sym c.has.ensures ∙ c.if-has.true in
    others_at (spare_of c.loop-number.self) (spare_of c.reserve_many.new.self) _ _ c.reserve_many.ensures.spare p q (λ a b. n (a, rw b target)) ∙ c.loop-number.invariant.others p q n

pub loop-number-preserved : goal.loop-number-preserved
loop-number-preserved c =
    let here : c.unwrap-to.result ≡ c.loop-number.number = rw c.unwrap-to.ensures at c.new.ensures.value in
    elim c.if-has.branch [
      | then-has+in_ok-reserve_many w ↦
          let target = sym c.has.ensures ∙ w.if-has.true in
          let more = grows_at (spare_of c.loop-number.self) (spare_of w.reserve_many.new.self) _ _ w.reserve_many.ensures.spare w.reserve_many.ensures.grows in
          let kept = others_at (spare_of c.loop-number.self) (spare_of w.reserve_many.new.self) _ _ w.reserve_many.ensures.spare in
          rw w.self-is (record {
            processes = w.reserve_many.ensures.processes ∙ c.loop-number.invariant.processes;
            lists = w.reserve_many.ensures.lists ∙ c.loop-number.invariant.lists;
            grows = λ p q. omega (arith, c.loop-number.invariant.grows p q, more p q);
            others = λ p q n. kept p q (λ a b. n (a, rw b target)) ∙ c.loop-number.invariant.others p q n;
            done = below_more _ _ (λ to below member. omega (arith, c.loop-number.invariant.done to below member, more c.args.from to))
                (λ member. rw (← here) (w.in_ok-reserve_many.ensures.ok));
          })
      | else-has w ↦
          let not_target : has c.args.targets c.unwrap-to.result ≡ false = sym c.has.ensures ∙ w.if-has.false in
          rw w.self-is (record {
            processes = c.loop-number.invariant.processes;
            lists = c.loop-number.invariant.lists;
            grows = c.loop-number.invariant.grows;
            others = c.loop-number.invariant.others;
            done = below_more _ _ c.loop-number.invariant.done (λ member. absurd (cc (not_target, here, member)));
          })
    ]
