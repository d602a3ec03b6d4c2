use Rattle.std.proofs.Common.{◌≡◌, ℕ, true, [], arith, sym, ap, subst, ◌∙◌, inl, inr, below_more}
use Rattle.std.proofs.lemmas.Bool.{cases_lt}
use Rattle.kt_fifo.specs.Channels.{channel}
use Rattle.kt_fifo.specs.Queues.{has_parcel}
use Rattle.kt_system.specs.Systems.{Whole}
use Rattle.kt_system.specs.Takes.{WithSome, is_held}
use Rattle.kt_system.proofs.Takes.{held_for, not_held, not_held_if_ready, past_end}
use Rattle.kt_system.proofs.system.System.held_taker.Goals as goal
use Rattle.kt_system.proofs.system.System.held_taker.Goals.{else-has-via-then-has+else-not-is_ready, else-has-via-else-has}

pub returns-then-not-is_ready-clause-first : goal.returns-then-not-is_ready-clause-first
returns-then-not-is_ready-clause-first c =
    let some = c.receivers-receivers.ensures.some c.nth-at.result (sym c.has.ensures ∙ c.if-has.true) in
    let there = subst (λ (w : Whole). has_parcel (channel w.held some.0 c.nth-at.result) ≡ true) c.self.view_is some.1 in (
      (some.0, held_for c.args.self.now c.nth-at.result some.0 (sym c.is_ready.ensures.ready ∙ c.if-not-is_ready.true) there),
      λ n l. c.loop-number.invariant n (let e = c.nth-at.ensures in omega arith),
    )

pub loop-number-preserved : goal.loop-number-preserved
loop-number-preserved c =
    let here : ¬ WithSome (is_held c.args.self.now) c.nth-at.result = elim c.else-has.branch [
      | else-has-via-then-has+else-not-is_ready w ↦ not_held_if_ready c.args.self.now c.nth-at.result (sym w.is_ready.ensures.ready ∙ w.if-not-is_ready.false)
      | else-has-via-else-has w ↦ not_held c.args.self.now c.nth-at.result
          (λ from. subst (λ (v : Whole). channel v.held from c.nth-at.result ≡ []) c.self.view_is (c.receivers-receivers.ensures.none from c.nth-at.result (sym c.has.ensures ∙ w.if-has.false)))
    ] in
    below_more (λ (p : ℕ). ¬ WithSome (is_held c.args.self.now) p) _ c.loop-number.invariant (subst (λ (p : ℕ). ¬ WithSome (is_held c.args.self.now) p) c.nth-at.ensures here)

pub returns-clause-first : goal.returns-clause-first
returns-clause-first c = λ n. elim (cases_lt n c.loop-number.number) [
  | inl l ↦ c.loop-number.invariant n l
  | inr l ↦ not_held c.args.self.now n (λ from. subst (λ (w : Whole). channel w.held from n ≡ []) c.self.view_is (past_end c.self.inside.held from n
      (let held = c.self.invariant.held in let size = ap (λ (w : Whole). w.size) c.self.view_is in let all = c.processes-number-end.ensures.processes in omega arith)))
]
