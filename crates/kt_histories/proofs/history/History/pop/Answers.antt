use Rattle.std.proofs.Common.{sym, ◌∙◌, ap, arith, ◌++◌, ◌∷◌, []}
use Rattle.std.proofs.lemmas.Option.{slice_get_read}
use Rattle.kt_spacetime.specs.declared.deeds.Deed.{Deed}
use Rattle.kt_histories.proofs.SortedFacts.{sorted_without_send, sorted_without_receive, none_last}
use Rattle.kt_histories.proofs.history.History.pop.Goals as goal

pub invariant_of-self-in-Sent : goal.invariant_of-self-in-Sent
invariant_of-self-in-Sent c =
    let whole = c.in_ok-deed.ensures.items ∙ ap (λ (d : Deed). c.pop.new.self.items ++ d ∷ []) c.in-Sent.is in
    sorted_without_send _ _ _ _ _ _ _ _ _ _ _ c.self.invariant whole c.pop-2.ensures.items (none_last _ _ _ (omega (arith, c.self.inside.sends_before.ok.0)) c.pop-2.ensures.value) c.pop-in-Sent.ensures.last c.pop-in-Sent.ensures.none

pub invariant_of-self-in-Received : goal.invariant_of-self-in-Received
invariant_of-self-in-Received c =
    let inv = c.self.invariant in
    let whole = c.in_ok-deed.ensures.items ∙ ap (λ (d : Deed). c.pop.new.self.items ++ d ∷ []) c.in-Received.is in
    let at = slice_get_read c.self.inside.received.items 64 c.get.result c.index_mut.result.now (sym inv.senders) c.get.ensures.in_range c.index_mut.ensures.value in
    rw c.get.ensures.value (sorted_without_receive _ _ _ _ _ _ _ _ _ _ _ (omega (arith, c.get.ensures.value, c.get.ensures.in_range)) inv whole c.pop-2.ensures.items (none_last _ _ _ (omega (arith, c.self.inside.sends_before.ok.0)) c.pop-2.ensures.value) _ (rw (c.get.ensures.value) at at) c.pop-in-Received.ensures.last c.pop-in-Received.ensures.none)
