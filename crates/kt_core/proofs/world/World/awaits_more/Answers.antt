use Rattle.std.proofs.Common.{◌≡◌, ◌≤◌, ◌∙◌, ℕ, Bool, arith, sym, ap, subst}
use Rattle.std.specs.Prelude.{nat_lt}
use Rattle.kt_base.specs.Sets.{has, count_of}
use Rattle.kt_process.specs.ProcessStates.{part_of_side}
use Rattle.kt_system.specs.Reads.{awaited_of, can_take}
use Rattle.kt_system.specs.Systems.{state_of}
use Rattle.kt_core.specs.Worlds.{World}
use Rattle.kt_system.proofs.Places.{counted_all}
use Rattle.kt_core.proofs.world.World.awaits_more.Goals as goal

-- sets with the same members have as many
same_count : ((a b : ℕ) → ((q : ℕ) → has a q ≡ has b q) → a ≡ b) → (takes : ℕ → Bool) (set senders count awaited awaits : ℕ)
    → count ≡ count_of set → awaited ≡ awaits → ((q : ℕ) → has set q ≡ takes q) → ((q : ℕ) → has senders q ≡ takes q)
    → nat_lt count awaited ≡ nat_lt (count_of senders) awaits
same_count law takes set senders count awaited awaits counted waits found same =
    ap (λ (n : ℕ). nat_lt n awaited) counted
    ∙ (ap (λ (n : ℕ). nat_lt (count_of set) n) waits
    ∙ ap (λ (s : ℕ). nat_lt (count_of s) awaits) (law set senders (λ q. found q ∙ sym (same q))))

pub returns-then-awaited-gt0 : goal.returns-then-awaited-gt0
returns-then-awaited-gt0 c =
    let w = c.self.inside.system in
    let set = c.all_senders-senders.result in
    let found = c.all_senders-senders.ensures in
    let few : w.size ≤ 64 = (let a = c.processes-processes.ensures.few in let b = c.processes-processes.ensures.processes in omega (arith, a, b)) in
    let counted : c.take_count.result ≡ count_of set = c.take_count.ensures.count ∙ sym (counted_all w c.args.p set few found.takes found.within) in
    subst (λ (w : World). (senders : ℕ) → ((from : ℕ) → has senders from ≡ can_take w.system c.args.p from)
    → nat_lt c.take_count.result c.awaited-awaited.result ≡ nat_lt (count_of senders) (awaited_of (part_of_side (state_of w.system c.args.p).side)))
    c.self.view_is
    (λ senders same. same_count c.same_members.ensures (can_take w c.args.p) set senders
    c.take_count.result c.awaited-awaited.result (awaited_of (part_of_side (state_of w c.args.p).side))
    counted c.awaited-awaited.ensures found.takes same)
