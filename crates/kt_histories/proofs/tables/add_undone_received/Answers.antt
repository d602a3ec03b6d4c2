use Rattle.std.proofs.Common.{inl, inr, ap, sym, ◌∙◌, take, is_some}
use Rattle.std.specs.List.{Contains}
use Rattle.std.proofs.lemmas.List.{take_all}
use Rattle.kt_histories.proofs.MessageTables.{contains_more}
use Rattle.kt_histories.proofs.tables.add_undone_received.Goals as goal

pub loop-msg-preserved : goal.loop-msg-preserved
loop-msg-preserved c = record {
  kept = λ m h. c.in_ok-push_if.ensures.kept m (c.loop-msg.invariant.kept m h);
  buried = λ p i m q v h r e d. elim (contains_more _ _ _ m c.loop-msg-test.true c.msg-item.is h) [
    | inl old ↦ c.in_ok-push_if.ensures.kept m (c.loop-msg.invariant.buried p i m q v old r e d)
    | inr same ↦
        let there = c.received_place.ensures.there p i q v (rw (sym same) at r) e (rw (sym same) at d) in
        rw (sym same) (c.in_ok-push_if.ensures.wanted (c.is_some-is_received.ensures ∙ ap is_some there))
  ];
}

pub returns-clause-buried : goal.returns-clause-buried
returns-clause-buried c = λ p i m q v h.
    let all : Contains (take c.loop-msg.msg-index c.numbers-msg-items.result.now) m = rw (take_all _ _ c.loop-msg-test.false, c.numbers-msg-items.ensures) h in
    c.loop-msg.invariant.buried p i m q v all
