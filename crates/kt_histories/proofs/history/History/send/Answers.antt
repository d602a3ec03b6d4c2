use Rattle.kt_histories.proofs.SortedFacts.{sorted_send}
use Rattle.kt_histories.proofs.history.History.send.Goals as goal

pub invariant_of-self-2 : goal.invariant_of-self-2
invariant_of-self-2 c =
    rw (
      c.push_reserved-2.ensures.items,
      c.reserve.ensures.items,
      c.push_reserved.ensures.items,
      c.reserve-2.ensures.items,
      c.len-count.ensures,
      c.in_ok-push.ensures.ok,
    ) (sorted_send _ _ _ _ _ _ c.self.invariant)
