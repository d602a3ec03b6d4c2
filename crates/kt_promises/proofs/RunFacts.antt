-- What is known of every run of a plan.
use Rattle.std.proofs.Common.{length, ◌≡◌, ℕ, suc, ◌+◌, ◌≤◌, ◌<◌, Bool, true, false, List, [], ◌∷◌, ◌++◌, refl, arith, sym, ap, subst, ◌∙◌, drop, Some, None}
use Rattle.std.specs.Prelude.{◌==◌, if◌then◌else◌, Option, slice_get}
use Rattle.std.proofs.lemmas.Bool.Decides.{nat_tests}
use Rattle.kt_meaning.specs.Past.{at_one}
use Rattle.kt_protocol.specs.LateSteps.{late_step, late_run}
use Rattle.kt_protocol.specs.States.{State, opening}
use Rattle.kt_protocol.specs.States as machine
use Rattle.kt_plan.specs.declared.commands.Command.{Command}
use Rattle.kt_plan.specs.Limits.{IsPlan, Planned}
use Rattle.kt_meaning.specs.Follows.{commands_of}
use Rattle.kt_promises.proofs.MachineProgress.{MachineProgress, machine_commands_left, machine_next_command, machine_opens_next, machine_start, machine_with_phases_open}
use Rattle.kt_plan.specs.declared.steps.Step.TheVariants.{Do, Take}
use Rattle.kt_plan.specs.declared.steps.Give.{Give}
use Rattle.kt_plan.specs.declared.steps.Step.{Step}
use Rattle.kt_promises.proofs.MachineSteps.{machine_after_command, after_machine_step}
use Rattle.kt_promises.specs.Steps.{protocol_step}
use Rattle.kt_promises.proofs.InPhases.{own_ordered}
use Rattle.kt_promises.proofs.PhaseOrder.{Ordered, lower, drop_next}
use Rattle.kt_promises.proofs.MachinePhasesOpen.{IsAhead, Opened, opened_is}

-- the late step, and what is done, before phases open
abbrev pub bare_command : MachineProgress → ℕ → Give → Command → MachineProgress
bare_command g p give c = record g { state = late_step g.state (protocol_step p c.job give); done = at_one p (g.done p + 1) g.done }

abbrev pub bare_take : MachineProgress → ℕ → ℕ → Give → MachineProgress
bare_take g p q give = record g { state = late_step g.state (machine.Take p q give.able) }

pub record RunFacts (plan : Planned) (g : MachineProgress) : Type 0 where
  pub steps : List machine.ProtocolStep
  pub state_is : g.state ≡ late_run (opening (length plan.names)) steps
  pub ahead : IsAhead plan g
  pub shut : machine_opens_next plan g ≡ false

-- one more step
pub run_more : (s : State) (xs : List machine.ProtocolStep) (x : machine.ProtocolStep) → late_run s (xs ++ x ∷ []) ≡ late_step (late_run s xs) x
run_more s [] x = refl
run_more s (y ∷ ys) x = run_more (late_step s y) ys x

-- one command less
pub after_front : (plan : Planned) (g : MachineProgress) (p : ℕ) (c : Command) → machine_next_command plan g p ≡ Some c → (cs : List Command) × (machine_commands_left plan g p ≡ c ∷ cs)
after_front plan g p c e = go (machine_commands_left plan g p) e
  where
    go : (l : List Command) → slice_get l 0 ≡ Some c → (cs : List Command) × (l ≡ c ∷ cs)
    go [] e = absurd (cc (e))
    go (x ∷ xs) e = (xs, (let y : x ≡ c = cc (e) in rw y refl))

pub left_next : (plan : Planned) (g : MachineProgress) (p : ℕ) (c : Command) (cs : List Command) → machine_commands_left plan g p ≡ c ∷ cs → drop (g.done p + 1) (commands_of p plan.commands) ≡ cs
left_next plan g p c cs e = let x : g.done p + 1 ≡ suc (g.done p) = omega arith in rw x (drop_next (g.done p) (commands_of p plan.commands) c cs e)

ahead_command : (plan : Planned) (g : MachineProgress) (p : ℕ) (give : Give) (c : Command) → machine_next_command plan g p ≡ Some c → IsAhead plan g → IsAhead plan (bare_command g p give c)
ahead_command plan g p give c e a u = go (u == p) refl
  where
    x : (cs : List Command) × (machine_commands_left plan g p ≡ c ∷ cs)
    x = after_front plan g p c e

    rest : Ordered (length plan.names) p g.phase x.0
    rest = let o : Ordered (length plan.names) p g.phase (c ∷ x.0) = subst (λ (l : List Command). Ordered (length plan.names) p g.phase l) x.1 (a p) in lower (length plan.names) p c.phase g.phase x.0 o.2 o.3

    go : (b : Bool) → (u == p) ≡ b → Ordered (length plan.names) u g.phase (drop (if b then g.done p + 1 else g.done u) (commands_of u plan.commands))
    go true i = let y : u ≡ p = grind (arith, nat_tests, i) in rw y (subst (λ (l : List Command). Ordered (length plan.names) p g.phase l) (sym (left_next plan g p c x.0 x.1)) rest)
    go false i = a u

facts_by : (plan : Planned) (g g' g'' : MachineProgress) (x : machine.ProtocolStep) → RunFacts plan g → g'.state ≡ late_step g.state x → Opened plan g' g'' → RunFacts plan g''
facts_by plan g g' g'' x k e s = record {
  steps = k.steps ++ x ∷ [];
  state_is = s.state ∙ (e ∙ (ap (λ (t : State). late_step t x) k.state_is ∙ sym (run_more (opening (length plan.names)) k.steps x)));
  ahead = s.ahead;
  shut = s.shut;
}

pub facts_at_start : (plan : Planned) → IsPlan plan → RunFacts plan (machine_start plan)
facts_at_start plan i = let s = opened_is plan (record { state = opening (length plan.names); done = λ p. 0; phase = 0 }) (λ p. own_ordered plan p i) in
    record { steps = []; state_is = s.state; ahead = s.ahead; shut = s.shut }

-- what a step makes, before phases open
pub opened_command : (plan : Planned) (g : MachineProgress) (p : ℕ) (give : Give) (c : Command) → RunFacts plan g → machine_next_command plan g p ≡ Some c → Opened plan (bare_command g p give c) (machine_with_phases_open plan (bare_command g p give c))
opened_command plan g p give c k e = opened_is plan (bare_command g p give c) (ahead_command plan g p give c e k.ahead)

pub opened_take : (plan : Planned) (g : MachineProgress) (p q : ℕ) (give : Give) → RunFacts plan g → Opened plan (bare_take g p q give) (machine_with_phases_open plan (bare_take g p q give))
opened_take plan g p q give k = opened_is plan (bare_take g p q give) k.ahead

pub facts_after : (plan : Planned) (g : MachineProgress) (x : Step) (give : Give) → RunFacts plan g → RunFacts plan (after_machine_step plan g x give)
facts_after plan g (Do p) give k = go (machine_next_command plan g p) refl
  where
    go : (o : Option Command) → machine_next_command plan g p ≡ o → RunFacts plan (machine_after_command plan g p give o)
    go None e = k
    go (Some c) e = facts_by plan g (bare_command g p give c) (machine_with_phases_open plan (bare_command g p give c)) (protocol_step p c.job give) k refl (opened_command plan g p give c k e)
facts_after plan g (Take p q) give k = facts_by plan g (bare_take g p q give) (machine_with_phases_open plan (bare_take g p q give)) (machine.Take p q give.able) k refl (opened_take plan g p q give k)

pub next_ahead : (plan : Planned) (g : MachineProgress) (p : ℕ) (c : Command) → RunFacts plan g → machine_next_command plan g p ≡ Some c → g.phase ≤ c.phase
next_ahead plan g p c k e = let x = after_front plan g p c e in (subst (λ (l : List Command). Ordered (length plan.names) p g.phase l) x.1 (k.ahead p)).2

pub next_there : (plan : Planned) (g : MachineProgress) (p : ℕ) (c : Command) → RunFacts plan g → machine_next_command plan g p ≡ Some c → p < length plan.names
next_there plan g p c k e = let x = after_front plan g p c e in (subst (λ (l : List Command). Ordered (length plan.names) p g.phase l) x.1 (k.ahead p)).0
