use Rattle.std.proofs.Common.{sym, ◌∙◌}
use Rattle.kt_histories.proofs.SortedFacts.{sent_past}
use Rattle.kt_histories.proofs.history.History.first_sent_past.Goals as goal

pub returns : goal.returns
returns c =
    let count = rw c.deref.ensures.value at (sym c.number_at.ensures ∙ c.in_ok-count.was) in
    rw (← c.self.view_is) (c.get.ensures ∙ sent_past _ _ _ _ _ _ c.self.invariant count)
