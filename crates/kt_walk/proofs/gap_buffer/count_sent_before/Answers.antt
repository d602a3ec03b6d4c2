use Rattle.std.proofs.Common.{rules, of_calls, nat_lt}
use Rattle.std.proofs.lemmas.Fn.{always_returns_same}
use Rattle.kt_walk.specs.declared.in_transit.Sent.{Sent}
use Rattle.kt_walk.proofs.TransitFacts.{sent_before_at, parted_by_place}
use Rattle.kt_walk.proofs.gap_buffer.count_sent_before.Goals as goal

pub returns-clause-before : goal.returns-clause-before
returns-clause-before c = λ in_order.
    sent_before_at c.args.messages.now c.args.place c.partition_point.result
    (c.partition_point.ensures.partitioned (λ (a : Sent). nat_lt a.place c.args.place) (always_returns_same _ _ _ (λ a r f k. search (rules, of_calls))) (parted_by_place c.args.messages.now c.args.place in_order))
