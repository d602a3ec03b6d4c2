use Rattle.std.proofs.Common.{ℕ, if◌then◌else◌, Some, None, inl, inr, sym, subst, take}
use Rattle.std.specs.List.{Contains, slice_index}
use Rattle.std.proofs.lemmas.List.{take_all}
use Rattle.kt_rules.specs.Orphans.{IsOrphanBetween, IsAtMost}
use Rattle.kt_histories.proofs.MessageTables.{contains_more}
use Rattle.kt_rules.proofs.OrphanFacts.{some_earlier, at_most_first, at_most_second}
use Rattle.kt_histories.proofs.OrphanFacts.{IsOrphanShown, some_if, at_most_if}
use Rattle.kt_histories.proofs.replay.Replay.first_dead.Goals as goal

pub loop-msg-preserved : goal.loop-msg-preserved
loop-msg-preserved c = rw (c.earlier-least.ensures, c.if_wanted.ensures) (record {
  orphan = some_earlier (IsOrphanShown c.args.self.now (slice_index c.args.cut.now)) _ _ c.loop-msg.invariant.orphan (some_if (IsOrphanShown c.args.self.now (slice_index c.args.cut.now)) c.is_orphan.result c.msg-item.result (λ e s h. (c.is_orphan.ensures s h).0 e));
  least = λ s p q msg x h o. elim (contains_more _ _ _ msg c.loop-msg-test.true c.msg-item.is x) [
    | inl old ↦ at_most_first _ _ msg (c.loop-msg.invariant.least s p q msg old h o)
    | inr same ↦
        let here : IsOrphanBetween s (slice_index c.args.cut.now) p q c.msg-item.result = subst (λ (m : ℕ). IsOrphanBetween s (slice_index c.args.cut.now) p q m) (sym same) o in
        at_most_second _ _ msg (subst (λ (m : ℕ). IsAtMost (if c.is_orphan.result then Some c.msg-item.result else None) m) same (at_most_if c.is_orphan.result c.msg-item.result ((c.is_orphan.ensures s h).1 (p, q, here))))
  ];
})

pub returns-clause-least : goal.returns-clause-least
returns-clause-least c = λ s p q msg h x.
    let all : Contains (take c.loop-msg.msg-index c.numbers-msg-items.result.now) msg = rw (take_all _ _ c.loop-msg-test.false, c.numbers-msg-items.ensures) x in
    c.loop-msg.invariant.least s p q msg all h
