use Rattle.std.proofs.Common.{rules, of_calls, nat_lt}
use Rattle.std.proofs.lemmas.Fn.{always_returns_same}
use Rattle.kt_walk.specs.declared.queue.Arrival.{Arrival}
use Rattle.kt_walk.specs.TraceEntries.{number_of}
use Rattle.kt_walk.proofs.ItemPlaces.{parts_at, parted_by}
use Rattle.kt_walk.proofs.lookup.count_below.Goals as goal

pub returns-clause-parts : goal.returns-clause-parts
returns-clause-parts c = λ rising.
    let parted = parted_by number_of c.args.arrivals.now c.args.msg (λ i j a b l e f. (rising.each i j a b l e f).msg) in
    parts_at number_of c.args.arrivals.now c.args.msg c.partition_point.result (c.partition_point.ensures.partitioned (λ (a : Arrival). nat_lt a.msg c.args.msg) (always_returns_same _ _ _ (λ a r f k. search (rules, of_calls))) parted)
