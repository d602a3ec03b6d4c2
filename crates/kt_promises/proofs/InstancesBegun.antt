-- No more instances begin than there are commands for, and each puts few parcels.
use Rattle.std.proofs.Common.{◌≡◌, ℕ, ◌+◌, ◌≤◌, ◌<◌, Bool, true, false, List, [], ◌∷◌, length, refl, arith, sym, ap, subst, ◌∙◌, drop, Some, None, inl, inr, suc}
use Rattle.std.specs.Prelude.{◌==◌, ◌&&◌, not, nat_lt, if◌then◌else◌, ◌*◌, ◌-◌, Option, pos}
use Rattle.std.proofs.lemmas.Bool.{cases_eq}
use Rattle.kt_protocol.specs.LateSteps.{late_step}
use Rattle.kt_protocol.specs.OnceClosed.{once_closed}
use Rattle.kt_protocol.proofs.Bounds.{asks_bounded, replies_bounded, decisions_bounded}
use Rattle.kt_protocol.proofs.Choices.{at_if}
use Rattle.kt_protocol.proofs.Sums.{total_none, total_same}
use Rattle.kt_protocol.proofs.Updates.{is_same, is_other}
use Rattle.kt_protocol.specs.States.{State}
use Rattle.kt_plan.specs.declared.commands.Command.{Command}
use Rattle.kt_plan.specs.Limits.{IsPlan, Planned}
use Rattle.kt_plan.specs.declared.commands.Job.{Job}
use Rattle.kt_meaning.specs.Follows.{commands_of}
use Rattle.kt_promises.proofs.MachineProgress.{MachineProgress, machine_commands_left, machine_next_command, machine_start, machine_with_phases_open}
use Rattle.kt_plan.specs.declared.steps.Step.TheVariants.{Do, Take}
use Rattle.kt_plan.specs.declared.steps.Give.{Give}
use Rattle.kt_plan.specs.declared.steps.Step.{Step}
use Rattle.kt_promises.proofs.MachineSteps.{machine_after_command, after_machine_step, machine_enabled, machine_may_do}
use Rattle.kt_promises.specs.Steps.{protocol_step}
use Rattle.kt_promises.specs.Work.{begins_instance, count_begins}
use Rattle.kt_promises.proofs.MachineWork.{machine_count_left}
use Rattle.kt_promises.specs.Tallies.{total_below}
use Rattle.kt_plan.specs.declared.commands.Job.TheVariants as job
use Rattle.kt_promises.proofs.PhaseOrder.{Ordered}
use Rattle.kt_promises.proofs.MachinePhasesOpen.{Opened}
use Rattle.kt_promises.proofs.RunFacts.{RunFacts, facts_at_start, facts_after, bare_command, bare_take, opened_command, opened_take, after_front, left_next}
use Rattle.kt_promises.proofs.StateFacts.{StateFacts, state_facts}
use Rattle.kt_promises.proofs.StepRows.{turn_of}
use Rattle.kt_promises.proofs.Totals as totals
use Rattle.kt_promises.proofs.Totals.{spike, bit}
use Rattle.kt_promises.proofs.AccountedSteps.{job_accounted}
use Rattle.kt_promises.proofs.StepBounds.{falls, less_left, nothing, opened_start, count_at_start, Few, few_at_start, few_after}

pub begins_left : Planned → MachineProgress → ℕ
begins_left plan g = total_below (length plan.names) (λ p. count_begins (machine_commands_left plan g p))

each_begins : (n : ℕ) (l : List Command) → total_below n (λ p. count_begins (commands_of p l)) ≤ count_begins l
each_begins n [] = let e = nothing n in omega (arith, e)
each_begins n (c ∷ cs) =
    let i = each_begins n cs in
    let a = totals.total_same n (λ p. count_begins (commands_of p (c ∷ cs))) (λ p. count_begins (commands_of p cs) + spike c.by (bit (begins_instance c.job)) p) one in
    let b = totals.total_add n (λ p. count_begins (commands_of p cs)) (spike c.by (bit (begins_instance c.job))) in
    let d = totals.total_spike_le n c.by (bit (begins_instance c.job)) in
    omega (arith, i, a, b, d)
  where
    one : (p : ℕ) → count_begins (if c.by == p then c ∷ commands_of p cs else commands_of p cs) ≡ count_begins (commands_of p cs) + (if p == c.by then bit (begins_instance c.job) else 0)
    one p = elim (cases_eq p c.by) [
      | inl e ↦ (let x : (c.by == p) ≡ true = rw e (is_same c.by) in let y : (p == c.by) ≡ true = rw e (is_same c.by) in rw (x, y) (omega arith))
      | inr d ↦ (let x = is_other c.by p (λ z. d (sym z)) in let y = is_other p c.by d in rw (x, y) (omega arith))
    ]

-- a step begins an instance only for a command that may
job_begins : (n k : ℕ) (s : State) (p : ℕ) (j : Job) (give : Give) → s.processes ≡ n → s.instances + 1 < k → (late_step s (protocol_step p j give)).instances ≤ s.instances + bit (begins_instance j)
job_begins n k s p (job.Send q body) give b h = at_if (λ (t : State). t.instances ≤ s.instances + 0) ((nat_lt p s.processes && nat_lt q s.processes) && (s.so_far.open_in p == 0 && not (q == p))) _ _
    (λ _. at_if (λ (t : State). t.instances ≤ s.instances + 0) (s.up p) _ _ (λ _. omega arith) (λ _. omega arith)) (λ _. omega arith)
job_begins n k s p job.Checkpoint give b h = (job_accounted n k s p job.Checkpoint give b h).instances
job_begins n k s p job.Rollback give b h = (job_accounted n k s p job.Rollback give b h).instances
job_begins n k s p job.Fail give b h = at_if (λ (t : State). t.instances ≤ s.instances + 0) (s.up p) _ _ (λ _. omega arith) (λ _. omega arith)

pub record Begun (plan : Planned) (g : MachineProgress) : Type 0 where
  pub run_facts : RunFacts plan g
  pub few : g.state.instances + machine_count_left plan g ≤ length plan.commands
  pub begun : g.state.instances + begins_left plan g ≤ count_begins plan.commands

begun_opened : (plan : Planned) (g g' : MachineProgress) → Opened plan g g' → g.state.instances + begins_left plan g ≤ count_begins plan.commands → g'.state.instances + begins_left plan g' ≤ count_begins plan.commands
unfolding begins_left
begun_opened plan g g' s h = let a = ap (λ (d : ℕ → ℕ). total_below (length plan.names) (λ p. count_begins (drop (d p) (commands_of p plan.commands)))) s.done in let b = ap (λ (t : State). t.instances) s.state in omega (arith, h, a, b)

less_begins : (plan : Planned) (g : MachineProgress) (p : ℕ) (give : Give) (c : Command) → p < length plan.names → machine_next_command plan g p ≡ Some c → begins_left plan g ≡ begins_left plan (bare_command g p give c) + bit (begins_instance c.job)
unfolding begins_left
less_begins plan g p give c l e =
    totals.total_same (length plan.names) (λ v. count_begins (machine_commands_left plan g v)) (λ v. count_begins (machine_commands_left plan (bare_command g p give c) v) + spike p (bit (begins_instance c.job)) v) one ∙
    (totals.total_add (length plan.names) (λ v. count_begins (machine_commands_left plan (bare_command g p give c) v)) (spike p (bit (begins_instance c.job))) ∙ ap (λ (y : ℕ). total_below (length plan.names) (λ v. count_begins (machine_commands_left plan (bare_command g p give c) v)) + y) (totals.total_spike (length plan.names) p (bit (begins_instance c.job)) l))
  where
    x : (cs : List Command) × (machine_commands_left plan g p ≡ c ∷ cs)
    x = after_front plan g p c e

    here : count_begins (machine_commands_left plan g p) ≡ count_begins (drop (g.done p + 1) (commands_of p plan.commands)) + bit (begins_instance c.job)
    here = let a = x.1 in let b = left_next plan g p c x.0 x.1 in rw (a, b) (omega arith)

    one : (v : ℕ) → count_begins (machine_commands_left plan g v) ≡ count_begins (drop (if v == p then g.done p + 1 else g.done v) (commands_of v plan.commands)) + (if v == p then bit (begins_instance c.job) else 0)
    one v = elim (cases_eq v p) [
      | inl i ↦ (let s = is_same p in rw (i, s) here)
      | inr d ↦ (let s = is_other v p d in rw s (omega arith))
    ]

begun_after : (plan : Planned) (g : MachineProgress) (x : Step) (give : Give) → Begun plan g → machine_enabled plan g x ≡ true → Begun plan (after_machine_step plan g x give)
unfolding begins_left
begun_after plan g x give b e = record { run_facts = facts_after plan g x give b.run_facts; few = (let f = (falls plan g x give b.run_facts b.few e).begun in let h = b.few in omega (arith, f, h)); begun = go x e }
  where
    go : (x : Step) → machine_enabled plan g x ≡ true → (after_machine_step plan g x give).state.instances + begins_left plan (after_machine_step plan g x give) ≤ count_begins plan.commands
    go (Do p) e = at (machine_next_command plan g p) refl e
      where
        at : (o : Option Command) → machine_next_command plan g p ≡ o → (nat_lt p (length plan.names) && machine_may_do g p o) ≡ true → (machine_after_command plan g p give o).state.instances + begins_left plan (machine_after_command plan g p give o) ≤ count_begins plan.commands
        at None n f = b.begun
        at (Some c) n f =
            let t = turn_of plan g p c b.run_facts n f in
            let low = subst (λ (n : ℕ). p < n) (state_facts plan g b.run_facts).processes t.low in
            let y = less_begins plan g p give c low n in
            let i = job_begins (length plan.names) (g.state.instances + 2) g.state p c.job give (state_facts plan g b.run_facts).processes (omega arith) in
            let h = b.begun in
            begun_opened plan (bare_command g p give c) (machine_with_phases_open plan (bare_command g p give c)) (opened_command plan g p give c b.run_facts n) (omega (arith, y, i, h))
    go (Take p q) e =
        let f = (falls plan g (Take p q) give b.run_facts b.few e).begun in
        let s = opened_take plan g p q give b.run_facts in
        let l = ap (λ (d : ℕ → ℕ). total_below (length plan.names) (λ p. length (drop (d p) (commands_of p plan.commands)))) s.done in
        let i = ap (λ (t : State). t.instances) s.state in
        let h = b.begun in
        begun_opened plan (bare_take g p q give) (machine_with_phases_open plan (bare_take g p q give)) s (omega (arith, f, l, i, h))

begun_at_start : (plan : Planned) → IsPlan plan → Begun plan (machine_start plan)
unfolding begins_left
begun_at_start plan i = record {
  run_facts = facts_at_start plan i;
  few = (let a = count_at_start plan i in let b = ap (λ (t : State). t.instances) (opened_start plan i).state in omega (arith, a, b));
  begun = (let a = each_begins (length plan.names) plan.commands in let b = ap (λ (d : ℕ → ℕ). total_below (length plan.names) (λ p. count_begins (drop (d p) (commands_of p plan.commands)))) (opened_start plan i).done in let c = ap (λ (t : State). t.instances) (opened_start plan i).state in omega (arith, a, b, c));
}

-- the machine's state behind a run of m steps
pub record Behind (plan : Planned) (m : ℕ) (g : MachineProgress) : Type 0 where
  pub few : Few plan m g
  pub begun : Begun plan g

pub behind_start : (plan : Planned) → IsPlan plan → Behind plan 0 (machine_start plan)
behind_start plan i = record { few = few_at_start plan i; begun = begun_at_start plan i }

pub behind_after : (plan : Planned) (m : ℕ) (g : MachineProgress) (x : Step) (give : Give) → Behind plan m g → machine_enabled plan g x ≡ true → Behind plan (suc m) (after_machine_step plan g x give)
behind_after plan m g x give b e = record { few = few_after plan m g x give b.few e; begun = begun_after plan g x give b.begun e }

-- so many steps lead here
pub record IsReachedByMachine (plan : Planned) (g : MachineProgress) : Type 0 where
  pub count : ℕ
  pub behind : Behind plan count g

pub run_facts : (plan : Planned) (g : MachineProgress) → IsReachedByMachine plan g → RunFacts plan g
run_facts plan g r = r.behind.few.run_facts

pub few_instances : (plan : Planned) (g : MachineProgress) → IsReachedByMachine plan g → g.state.instances ≤ count_begins plan.commands
few_instances plan g r = let b = r.behind.begun.begun in omega (arith, b)

-- as long as a command is left, fewer instances have begun than there are commands
pub fewer_begun : (plan : Planned) (g : MachineProgress) (p : ℕ) (c : Command) → IsReachedByMachine plan g → machine_next_command plan g p ≡ Some c → g.state.instances < length plan.commands
fewer_begun plan g p c r e =
    let k = r.behind.begun in
    let b = k.few in
    let x = after_front plan g p c e in
    let l = (subst (λ (cs : List Command). Ordered (length plan.names) p g.phase cs) x.1 (k.run_facts.ahead p)).0 in
    let f = less_left plan g p (record { able = false; body = pos 0 }) c l e in
    omega (arith, b, f)

-- the parcels of an instance
module _ (n : ℕ) (s : State) (r : StateFacts n s) where
  pub asks_most : (k : ℕ) → s.asks k ≤ n * (n - 1)
  asks_most k = subst (λ (b : ℕ). s.asks k ≤ b * (b - 1)) r.processes (asks_bounded (once_closed s) r.after_step.always.counted k)

  pub replies_most : (k : ℕ) → s.replies k ≤ s.asks k
  replies_most k = replies_bounded (once_closed s) r.after_step.always.counted k

  pub decisions_most : (k : ℕ) → s.decisions k ≤ s.asks k
  decisions_most k = decisions_bounded (once_closed s) r.after_step.always.counted k

  pub none_unbegun : (k : ℕ) → s.instances < k → s.asks k ≡ 0
  none_unbegun k h = r.after_step.always.counted.asks_is k ∙ (total_same s.processes s.processes (s.asked k) (λ u v. false) unasked ∙ total_none s.processes s.processes)
    where
      unasked : (u v : ℕ) → s.asked k u v ≡ false
      unasked u v = go (s.asked k u v) refl
        where
          go : (b : Bool) → s.asked k u v ≡ b → b ≡ false
          go false e = refl
          go true e = absurd (let j = (r.after_step.always.counted.asked_low k u v e).0 in let l = (r.invariant.positions.joined_instance k u j).1 in omega (arith, l, h))
