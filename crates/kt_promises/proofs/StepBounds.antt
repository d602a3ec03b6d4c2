-- The number of a run's steps is bounded by its commands and its rows.
use Rattle.std.proofs.Common.{◌≡◌, ◌≢◌, ℕ, zero, suc, ◌+◌, ◌≤◌, ◌<◌, Bool, true, false, List, [], ◌∷◌, length, refl, arith, sym, ap, subst, ◌∙◌, drop, Some, None, inl, inr}
use Rattle.std.specs.Prelude.{◌==◌, ◌&&◌, nat_lt, if◌then◌else◌, ◌*◌, ◌-◌, Option}
use Rattle.std.proofs.lemmas.Bool.{cases_eq}
use Rattle.std.proofs.lemmas.Bool.Decides.{nat_tests}
use Rattle.kt_protocol.specs.LateSteps.{late_step}
use Rattle.kt_protocol.specs.OnceClosed.{once_closed}
use Rattle.kt_protocol.proofs.Bounds.{asks_bounded, replies_bounded, decisions_bounded}
use Rattle.kt_protocol.proofs.Updates.{is_same, is_other}
use Rattle.kt_protocol.specs.States.{State, opening, can_take}
use Rattle.kt_protocol.specs.States as machine
use Rattle.kt_plan.specs.declared.commands.Command.{Command}
use Rattle.kt_plan.specs.Limits.{IsPlan, Planned}
use Rattle.kt_meaning.specs.Follows.{commands_of}
use Rattle.kt_promises.proofs.MachineProgress.{MachineProgress, machine_commands_left, machine_next_command, machine_start, machine_with_phases_open}
use Rattle.kt_plan.specs.declared.steps.Step.TheVariants.{Do, Take}
use Rattle.kt_plan.specs.declared.steps.Give.{Give}
use Rattle.kt_plan.specs.declared.steps.Step.{Step}
use Rattle.kt_promises.proofs.MachineSteps.{machine_after_command, after_machine_step, machine_enabled, machine_may_do}
use Rattle.kt_promises.specs.Steps.{protocol_step}
use Rattle.kt_promises.proofs.MachineWork.{machine_count_left, machine_parcels_in_transit, machine_put_so_far, machine_work_left}
use Rattle.kt_promises.specs.Work.{most_steps_of_run}
use Rattle.kt_promises.specs.Tallies.{total_below}
use Rattle.kt_promises.proofs.InPhases.{own_ordered}
use Rattle.kt_promises.proofs.MachinePhasesOpen.{Opened, opened_is}
use Rattle.kt_promises.proofs.RunFacts.{RunFacts, facts_at_start, facts_after, bare_command, bare_take, opened_command, opened_take, after_front, left_next}
use Rattle.kt_promises.proofs.StateFacts.{StateFacts, state_facts}
use Rattle.kt_promises.proofs.StepRows.{turn_of}
use Rattle.kt_promises.proofs.Totals.{total_same, total_add, total_less, total_spike_le, spike}
use Rattle.kt_promises.proofs.Accounts.{Accounted}
use Rattle.kt_promises.proofs.AccountedSteps.{take_accounted, job_accounted}
use Rattle.kt_promises.proofs.PhaseOrder.{never_both}

pub nothing : (n : ℕ) → total_below n (λ p. 0) ≡ 0
unfolding total_below
nothing zero = refl
nothing (suc n) = let i = nothing n in omega (arith, i)

-- the commands of the processes are commands
each_of : (n : ℕ) (l : List Command) → total_below n (λ p. length (commands_of p l)) ≤ length l
each_of n [] = let e = nothing n in omega (arith, e)
each_of n (c ∷ cs) =
    let i = each_of n cs in
    let a = total_same n (λ p. length (commands_of p (c ∷ cs))) (λ p. length (commands_of p cs) + spike c.by 1 p) one in
    let b = total_add n (λ p. length (commands_of p cs)) (spike c.by 1) in
    let d = total_spike_le n c.by 1 in
    omega (arith, i, a, b, d)
  where
    one : (p : ℕ) → length (if c.by == p then c ∷ commands_of p cs else commands_of p cs) ≡ length (commands_of p cs) + (if p == c.by then 1 else 0)
    one p = elim (cases_eq p c.by) [
      | inl e ↦ (let x : (c.by == p) ≡ true = rw e (is_same c.by) in let y : (p == c.by) ≡ true = rw e (is_same c.by) in rw (x, y) (omega arith))
      | inr d ↦ (let x = is_other c.by p (λ z. d (sym z)) in let y = is_other p c.by d in rw (x, y) (omega arith))
    ]

-- what one step does to commands, parcels and instances
pub record Falls (plan : Planned) (g g' : MachineProgress) : Type 0 where
  pub begun : g'.state.instances + machine_count_left plan g' ≤ g.state.instances + machine_count_left plan g
  pub steps : machine_count_left plan g' + machine_parcels_in_transit (length plan.names) g'.state.channel + machine_put_so_far (length plan.commands + 1) g.state + 1 ≤ machine_count_left plan g + machine_parcels_in_transit (length plan.names) g.state.channel + machine_put_so_far (length plan.commands + 1) g'.state

-- phases change none of these
falls_opened : (plan : Planned) (g g' g'' : MachineProgress) → Opened plan g' g'' → Falls plan g g' → Falls plan g g''
falls_opened plan g g' g'' s f = record {
  begun = (let a = f.begun in let c = left_is in let i = ap (λ (t : State). t.instances) s.state in omega (arith, a, c, i));
  steps = (let a = f.steps in let c = left_is in let i = ap (λ (t : State). machine_parcels_in_transit (length plan.names) t.channel) s.state in let j = ap (λ (t : State). machine_put_so_far (length plan.commands + 1) t) s.state in omega (arith, a, c, i, j));
}
  where
    left_is : machine_count_left plan g'' ≡ machine_count_left plan g'
    left_is = ap (λ (d : ℕ → ℕ). total_below (length plan.names) (λ p. length (drop (d p) (commands_of p plan.commands)))) s.done

pub less_left : (plan : Planned) (g : MachineProgress) (p : ℕ) (give : Give) (c : Command) → p < length plan.names → machine_next_command plan g p ≡ Some c → machine_count_left plan g ≡ machine_count_left plan (bare_command g p give c) + 1
less_left plan g p give c l e = total_less (length plan.names) p (λ v. length (machine_commands_left plan g v)) (λ v. length (machine_commands_left plan (bare_command g p give c) v)) l here others
  where
    x : (cs : List Command) × (machine_commands_left plan g p ≡ c ∷ cs)
    x = after_front plan g p c e

    here : length (machine_commands_left plan g p) ≡ length (drop (if p == p then g.done p + 1 else g.done p) (commands_of p plan.commands)) + 1
    here = let s = is_same p in let a = x.1 in let b = left_next plan g p c x.0 x.1 in rw (s, a, b) (omega arith)

    others : (v : ℕ) → v ≢ p → length (machine_commands_left plan g v) ≡ length (drop (if v == p then g.done p + 1 else g.done v) (commands_of v plan.commands))
    others v d = let s = is_other v p d in rw s refl

pub falls : (plan : Planned) (g : MachineProgress) (x : Step) (give : Give) → RunFacts plan g → g.state.instances + machine_count_left plan g ≤ length plan.commands → machine_enabled plan g x ≡ true → Falls plan g (after_machine_step plan g x give)
falls plan g (Do p) give k h b = go (machine_next_command plan g p) refl b
  where
    go : (o : Option Command) → machine_next_command plan g p ≡ o → (nat_lt p (length plan.names) && machine_may_do g p o) ≡ true → Falls plan g (machine_after_command plan g p give o)
    go None e f = absurd (never_both (nat_lt p (length plan.names)) f)
    go (Some c) e f = falls_opened plan g (bare_command g p give c) (machine_with_phases_open plan (bare_command g p give c)) (opened_command plan g p give c k e) bare
      where
        low : p < length plan.names
        low = subst (λ (n : ℕ). p < n) (state_facts plan g k).processes (turn_of plan g p c k e f).low

        less : machine_count_left plan g ≡ machine_count_left plan (bare_command g p give c) + 1
        less = less_left plan g p give c low e

        even : Accounted (length plan.names) (length plan.commands + 1) 0 1 g.state (late_step g.state (protocol_step p c.job give))
        even = job_accounted (length plan.names) (length plan.commands + 1) g.state p c.job give (state_facts plan g k).processes (let y = less in omega (arith, h, y))

        bare : Falls plan g (bare_command g p give c)
        bare = record { begun = (let y = less in let z = even.instances in omega (arith, y, z)); steps = (let y = less in let z = even.room in omega (arith, y, z)) }
falls plan g (Take p q) give k h b = falls_opened plan g (bare_take g p q give) (machine_with_phases_open plan (bare_take g p q give)) (opened_take plan g p q give k) bare
  where
    tests : (p q n : ℕ) (c : Bool) → ((nat_lt p n && nat_lt q n) && c) ≡ true → (p < n) × (q < n) × (c ≡ true)
    tests p q n c e = grind (arith, nat_tests, e)

    t : (p < length plan.names) × (q < length plan.names) × (can_take g.state p q ≡ true)
    t = tests p q (length plan.names) (can_take g.state p q) b

    even : Accounted (length plan.names) (length plan.commands + 1) 1 0 g.state (late_step g.state (machine.Take p q give.able))
    even = take_accounted (length plan.names) (length plan.commands + 1) g.state p q give.able (state_facts plan g k) t.0 t.1 (omega (arith, h)) t.2

    bare : Falls plan g (bare_take g p q give)
    bare = record { begun = (let z = even.instances in omega (arith, z)); steps = (let z = even.room in omega (arith, z)) }

-- after m steps
pub record Few (plan : Planned) (m : ℕ) (g : MachineProgress) : Type 0 where
  pub run_facts : RunFacts plan g
  pub begun : g.state.instances + machine_count_left plan g ≤ length plan.commands
  pub steps : m + machine_count_left plan g + machine_parcels_in_transit (length plan.names) g.state.channel ≤ length plan.commands + machine_put_so_far (length plan.commands + 1) g.state

pub few_after : (plan : Planned) (m : ℕ) (g : MachineProgress) (x : Step) (give : Give) → Few plan m g → machine_enabled plan g x ≡ true → Few plan (suc m) (after_machine_step plan g x give)
few_after plan m g x give f e = let d = falls plan g x give f.run_facts f.begun e in record {
  run_facts = facts_after plan g x give f.run_facts;
  begun = (let a = d.begun in let b = f.begun in omega (arith, a, b));
  steps = (let a = d.steps in let b = f.steps in omega (arith, a, b));
}

-- at first
pub opened_start : (plan : Planned) → IsPlan plan → Opened plan (record { state = opening (length plan.names); done = λ p. 0; phase = 0 }) (machine_start plan)
opened_start plan i = opened_is plan (record { state = opening (length plan.names); done = λ p. 0; phase = 0 }) (λ p. own_ordered plan p i)

pub count_at_start : (plan : Planned) → IsPlan plan → machine_count_left plan (machine_start plan) ≤ length plan.commands
count_at_start plan i = let a = each_of (length plan.names) plan.commands in let b = ap (λ (d : ℕ → ℕ). total_below (length plan.names) (λ p. length (drop (d p) (commands_of p plan.commands)))) (opened_start plan i).done in omega (arith, a, b)

pub none_in_transit_at_start : (plan : Planned) → IsPlan plan → machine_parcels_in_transit (length plan.names) (machine_start plan).state.channel ≡ 0
none_in_transit_at_start plan i = ap (λ (t : State). machine_parcels_in_transit (length plan.names) t.channel) (opened_start plan i).state ∙ (total_same (length plan.names) (λ p. total_below (length plan.names) (λ q. 0)) (λ p. 0) (λ p. nothing (length plan.names)) ∙ nothing (length plan.names))

pub few_at_start : (plan : Planned) → IsPlan plan → Few plan 0 (machine_start plan)
few_at_start plan i = record {
  run_facts = facts_at_start plan i;
  begun = (let a = count_at_start plan i in let b = ap (λ (t : State). t.instances) (opened_start plan i).state in omega (arith, a, b));
  steps = (let a = count_at_start plan i in let b = none_in_transit_at_start plan i in omega (arith, a, b));
}

-- what is put is bounded
total_most : (k y : ℕ) (f : ℕ → ℕ) → ((v : ℕ) → f v ≤ y) → total_below k f ≤ k * y
unfolding total_below
total_most zero y f h = omega arith
total_most (suc k) y f h = let i = total_most k y f h in let e = h k in omega (arith, i, e)

pub put_most : (n k : ℕ) (s : State) → StateFacts n s → machine_put_so_far k s ≤ length s.log + k * (3 * (n * (n - 1)))
put_most n k s r =
    let a = total_add k s.replies s.decisions in
    let b = total_add k s.asks (λ v. s.replies v + s.decisions v) in
    let c = total_most k (3 * (n * (n - 1))) (λ v. s.asks v + (s.replies v + s.decisions v)) one in
    omega (arith, a, b, c)
  where
    one : (v : ℕ) → s.asks v + (s.replies v + s.decisions v) ≤ 3 * (n * (n - 1))
    one v =
        let x = subst (λ (b : ℕ). s.asks v ≤ b * (b - 1)) r.processes (asks_bounded (once_closed s) r.after_step.always.counted v) in
        let y = replies_bounded (once_closed s) r.after_step.always.counted v in
        let z = decisions_bounded (once_closed s) r.after_step.always.counted v in
        omega (arith, x, y, z)

pub few_steps : (plan : Planned) (m : ℕ) (g : MachineProgress) → Few plan m g → m ≤ most_steps_of_run plan (length g.state.log)
few_steps plan m g f =
    let p = put_most (length plan.names) (length plan.commands + 1) g.state (state_facts plan g f.run_facts) in
    let s = f.steps in
    omega (arith, p, s)

pub work_falls : (plan : Planned) (rows m : ℕ) (g : MachineProgress) (x : Step) (give : Give) → Few plan m g → machine_enabled plan g x ≡ true → length (after_machine_step plan g x give).state.log ≤ rows → machine_work_left rows plan (after_machine_step plan g x give) < machine_work_left rows plan g
work_falls plan rows m g x give f b l =
    let k = facts_after plan g x give f.run_facts in
    let p = put_most (length plan.names) (length plan.commands + 1) (after_machine_step plan g x give).state (state_facts plan (after_machine_step plan g x give) k) in
    let s = (falls plan g x give f.run_facts f.begun b).steps in
    omega (arith, l, p, s)
