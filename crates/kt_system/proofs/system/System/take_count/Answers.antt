use Rattle.std.proofs.Common.{◌≡◌, ◌≤◌, ℕ, false, arith, subst, sym, ◌∙◌}
use Rattle.kt_base.specs.Sets.{has}
use Rattle.kt_fifo.specs.Counts.{count_first, waits}
use Rattle.kt_system.specs.Systems.{Whole}
use Rattle.kt_system.specs.Reads.{can_take}
use Rattle.kt_system.proofs.Places.{counted_alone, counted_all, first_few, from_none}
use Rattle.kt_system.proofs.system.System.take_count.Goals as goal

pub returns-then-is_none : goal.returns-then-is_none
returns-then-is_none c =
    let w = c.args.self.now in
    let size : w.channels.processes ≡ w.size = subst (λ (v : Whole). v.channels.processes ≡ v.size) c.self.view_is c.self.invariant.channels in
    let few : w.size ≤ 64 = subst (λ (v : Whole). v.size ≤ 64) c.self.view_is c.self.invariant.few in
    let none = from_none c.first.result ((q : ℕ) → has c.held_senders.result q ≡ false) c.if-is_none.ensures c.first.ensures.none in
    let are = counted_alone w c.args.at c.sender_count.result size (λ q. sym (c.held_senders.ensures.held q) ∙ none q)
    (subst (λ (v : Whole). c.sender_count.result ≡ count_first (waits v.channels c.args.at) v.channels.processes) c.self.view_is c.sender_count.ensures) in
    let most = first_few (can_take w c.args.at) w.size in
    record { count = are; few = omega (arith, are, most, few) }

pub returns : goal.returns
returns c =
    let w = c.args.self.now in
    let few : w.size ≤ 64 = subst (λ (v : Whole). v.size ≤ 64) c.self.view_is c.self.invariant.few in
    let are = counted_all w c.args.at c.all_senders.result few c.all_senders.ensures.takes c.all_senders.ensures.within in
    let count = c.count.ensures in
    let most = first_few (can_take w c.args.at) w.size in
    record { count = count ∙ are; few = omega (arith, count, are, most, few) }
