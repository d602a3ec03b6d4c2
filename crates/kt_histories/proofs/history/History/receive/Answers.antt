use Rattle.std.proofs.Common.{sym}
use Rattle.std.proofs.lemmas.Option.{slice_get_read}
use Rattle.kt_histories.proofs.SortedFacts.{sorted_receive}
use Rattle.kt_histories.proofs.history.History.receive.Goals as goal

pub invariant_of-self-2 : goal.invariant_of-self-2
invariant_of-self-2 c =
    let inv = c.self.invariant in
    let at = slice_get_read c.self.inside.received.items 64 c.get.result c.index_mut.result.now (sym inv.senders) c.get.ensures.in_range c.index_mut.ensures.value in
    rw (
      c.push_reserved-2.ensures.items,
      c.reserve.ensures.items,
      c.push_reserved.ensures.items,
      c.reserve-2.ensures.items,
      c.len-count.ensures,
      c.in_ok-push.ensures.ok,
      ← c.get.ensures.value,
    ) (sorted_receive _ _ _ _ _ _ _ c.get.ensures.in_range at inv)
