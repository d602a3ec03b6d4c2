use Rattle.std.proofs.Common.{rules, of_calls, nat_lt}
use Rattle.std.proofs.lemmas.Fn.{always_returns_same}
use Rattle.kt_walk.specs.declared.received_from.Undone.{Undone}
use Rattle.kt_walk.specs.Arrivals.{undone_at}
use Rattle.kt_walk.proofs.ItemPlaces.{parts_at, parted_by}
use Rattle.kt_walk.proofs.received_from.count_undone_before.Goals as goal

pub returns-clause-parts : goal.returns-clause-parts
returns-clause-parts c = λ in_turn.
    let parted = parted_by undone_at c.args.undone.now c.args.place (λ i j a b l e f. (in_turn.each i j a b l e f).received) in
    parts_at undone_at c.args.undone.now c.args.place c.partition_point.result (c.partition_point.ensures.partitioned (λ (a : Undone). nat_lt a.received c.args.place) (always_returns_same _ _ _ (λ a r f k. search (rules, of_calls))) parted)
