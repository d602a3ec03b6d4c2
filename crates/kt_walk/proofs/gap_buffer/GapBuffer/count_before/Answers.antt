use Rattle.std.proofs.Common.{rules, of_calls, arith, ◌≡◌, ◌+◌, ◌++◌, ℕ, List, length, sym, subst}
use Rattle.kt_walk.specs.declared.in_transit.Sent.{Sent}
use Rattle.kt_walk.specs.TransitList.{IsBySend, AreSentBefore}
use Rattle.kt_walk.proofs.TransitFacts.{in_order_left, in_order_right, before_right}
use Rattle.kt_walk.proofs.gap_buffer.GapBuffer.count_before.Goals as goal

pub returns-else-passed-len : goal.returns-else-passed-len
returns-else-passed-len c =
    let passed = c.self.inside.passed.items in
    let next = c.self.inside.next.items in
    let same : c.deref.result.now ≡ c.self.inside.passed.items = search (rules, of_calls) in
    let all : c.count_sent_before-passed.result ≡ length c.self.inside.passed.items = search (rules, of_calls, arith) in
    let first = subst (λ (xs : List Sent). IsBySend xs → AreSentBefore c.args.place xs c.count_sent_before-passed.result) same c.count_sent_before-passed.ensures.before in
    rw (← c.self.view_is)
    (λ in_order. subst (λ (n : ℕ). AreSentBefore c.args.place (passed ++ next) (n + c.count_next_sent_before.result)) (sym all)
    (before_right passed next c.args.place c.count_next_sent_before.result (subst (λ (n : ℕ). AreSentBefore c.args.place passed n) all (first (in_order_left passed next in_order))) (c.count_next_sent_before.ensures.before (in_order_right passed next in_order))))
