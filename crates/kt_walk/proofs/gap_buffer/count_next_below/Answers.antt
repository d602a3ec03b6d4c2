use Rattle.std.proofs.Common.{rules, of_calls, nat_lt}
use Rattle.std.proofs.lemmas.Fn.{always_returns_same}
use Rattle.kt_walk.specs.declared.in_transit.Sent.{Sent}
use Rattle.kt_walk.proofs.TransitFacts.{belongs_at, parted_by}
use Rattle.kt_walk.proofs.gap_buffer.count_next_below.Goals as goal

pub returns-clause-belongs : goal.returns-clause-belongs
returns-clause-belongs c = λ in_order.
    belongs_at c.args.messages.now.items c.args.msg c.partition_point.result (search (rules, of_calls))
    (c.partition_point.ensures.partitioned (λ (a : Sent). nat_lt a.msg c.args.msg) (always_returns_same _ _ _ (λ a r f k. search (rules, of_calls))) (parted_by c.args.messages.now.items c.args.msg in_order))
