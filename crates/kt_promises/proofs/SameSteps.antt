-- What may be done and what it makes is the same by what code has.
use Rattle.std.proofs.Common.{arith, ◌≡◌, ◌<◌, ℕ, zero, suc, ◌+◌, ◌-◌, Bool, true, false, cond, [], refl, sym, ap, subst, ◌∙◌, Some, None}
use Rattle.std.specs.Prelude.{◌==◌, ◌&&◌, ◌||◌, not, nat_lt, max, if◌then◌else◌, Option, unwrap_or, find, length, slice_get, is_some}
use Rattle.std.specs.List.{range_with_len}
use Rattle.std.proofs.lemmas.Bool.Decides.{nat_tests}
use Rattle.kt_meaning.specs.Past.{at_one}
use Rattle.kt_protocol.specs.States.{State, opening}
use Rattle.kt_protocol.specs.Deciding.{none_of}
use Rattle.kt_protocol.specs.States as machine
use Rattle.kt_protocol.specs.LateSteps.{late_step}
use Rattle.kt_machine.specs.Seen.{Seen, seen}
use Rattle.kt_machine.specs.Transition as seen_transition
use Rattle.kt_machine.proofs.Runs.{seen_after_run, seen_step}
use Rattle.kt_plan.specs.declared.commands.Command.{Command}
use Rattle.kt_plan.specs.Limits.{Planned}
use Rattle.kt_promises.specs.Plans.{last_phase}
use Rattle.kt_promises.proofs.MachineProgress.{MachineProgress, machine_after_opening, machine_commands_left, machine_is_phase_done, machine_is_quiet, machine_next_command, machine_opens_next, machine_start, machine_with_phases_open, world_of}
use Rattle.kt_plan.specs.declared.steps.Step.{Step}
use Rattle.kt_plan.specs.declared.steps.Step.TheVariants.{Do, Take}
use Rattle.kt_plan.specs.declared.steps.Give.{Give}
use Rattle.kt_promises.specs.Steps.{protocol_step, may_do, can_take_from, enabled, is_at_rest, after_command, progress_after}
use Rattle.kt_promises.proofs.MachineSteps.{machine_after_command, after_machine_step, machine_enabled, machine_is_at_rest, machine_may_do}
use Rattle.kt_promises.proofs.RunFacts.{RunFacts, bare_command, bare_take, opened_command, opened_take}
use Rattle.kt_promises.specs.Progress.{Progress, is_phase_done, is_quiet, opens_next, with_phases_open, progress_at_start}
use Rattle.kt_promises.proofs.SameTallies.{ready_same, channel_any, held_any}

pub can_same : (first : ℕ) (s : State) (p q : ℕ) → can_take_from (seen first s) p q ≡ machine.can_take s p q
can_same first s p q = λ i. channel_any first s q p i || not (ready_same first s p i) && held_any first s q p i

pub quiet_same : (n first : ℕ) (s : State) → is_quiet n (seen first s) ≡ machine_is_quiet n s
quiet_same n first s = λ i. none_of n (λ p. not (s.so_far.open_in p == 0) || not (none_of n (λ q. channel_any first s q p i || held_any first s q p i)))

pub opens_same : (plan : Planned) (first : ℕ) (g : MachineProgress) → opens_next plan (world_of first g) ≡ machine_opens_next plan g
opens_same plan first g = ap (λ (b : Bool). machine_is_phase_done plan g && (b && nat_lt g.phase (last_phase plan.commands))) (quiet_same (length plan.names) first g.state)

-- once all is quiet, the first phase is open of which something is left, of k from the open one on
abbrev pub opened_among : ℕ → Planned → Progress → Progress
opened_among k plan w =
    if is_quiet (length plan.names) w.now
    then record w { phase = unwrap_or (find (λ j. not (is_phase_done plan w j)) (range_with_len w.phase k)) (max w.phase (last_phase plan.commands)) }
    else w

-- the last one stays open
stays_last : (first : ℕ) (q : Bool) (g : MachineProgress) (y : ℕ) → y ≡ g.phase → world_of first g ≡ (if q then record (world_of first g) { phase = y } else world_of first g)
stays_last first true g y e = ap (λ (z : ℕ). record (world_of first g) { phase = z }) (sym e)
stays_last first false g y e = refl

-- one phase opens, or none
one_more : (first : ℕ) (q q' d b : Bool) (far near : MachineProgress) (w late : Progress) (to : Option ℕ) (x m m' : ℕ) → q ≡ q' → b ≡ true → m' ≡ m
    → world_of first far ≡ (if q' then record w { phase = unwrap_or to m' } else late) → world_of first near ≡ w → world_of first near ≡ record w { phase = x }
    → world_of first (if d && (q && b) then far else near) ≡ (if q' then record w { phase = unwrap_or (cond (not d) (Some x) to) m } else w)
one_more first true true true true far near w late to x m m' e b n f g h = f ∙ ap (λ (y : ℕ). record w { phase = unwrap_or to y }) n
one_more first true true true false far near w late to x m m' e b n f g h = absurd (cc (b))
one_more first true true false b far near w late to x m m' e l n f g h = h
one_more first false false true b far near w late to x m m' e l n f g h = g
one_more first false false false b far near w late to x m m' e l n f g h = g
one_more first true false d b far near w late to x m m' e l n f g h = absurd (cc (e))
one_more first false true d b far near w late to x m m' e l n f g h = absurd (cc (e))

opening_same : (k : ℕ) (plan : Planned) (first : ℕ) (g : MachineProgress) → k ≡ last_phase plan.commands - g.phase → world_of first (machine_after_opening k plan g) ≡ opened_among k plan (world_of first g)
opening_same zero plan first g e = stays_last first (is_quiet (length plan.names) (seen first g.state)) g (max g.phase (last_phase plan.commands)) (omega (arith, e))
opening_same (suc k) plan first g e =
    let last = last_phase plan.commands in
    let next : MachineProgress = record g { phase = g.phase + 1 } in
    let later : g.phase < last = omega (arith, e) in
    let greatest : max (g.phase + 1) last ≡ max g.phase last = omega (arith, later) in
    let rest : k ≡ last - (g.phase + 1) = omega (arith, e) in
    one_more first (machine_is_quiet (length plan.names) g.state) (is_quiet (length plan.names) (seen first g.state)) (machine_is_phase_done plan g) (nat_lt g.phase last)
    (machine_after_opening k plan next) g (world_of first g) (world_of first next) (find (λ j. not (is_phase_done plan (world_of first g) j)) (range_with_len (g.phase + 1) k)) g.phase
    (max g.phase last) (max (g.phase + 1) last) (sym (quiet_same (length plan.names) first g.state)) (below g.phase last later) greatest (opening_same k plan first next rest) refl refl
  where
    below : (a b : ℕ) → a < b → nat_lt a b ≡ true
    below a b l = grind (arith, nat_tests, l)

pub opened_phases_same : (plan : Planned) (first : ℕ) (g : MachineProgress) → world_of first (machine_with_phases_open plan g) ≡ with_phases_open plan (world_of first g)
opened_phases_same plan first g = opening_same (last_phase plan.commands - g.phase) plan first g refl

pub start_same : (plan : Planned) (first : ℕ) → world_of first (machine_start plan) ≡ progress_at_start plan first
start_same plan first = opened_phases_same plan first (record { state = opening (length plan.names); done = λ p. 0; phase = 0 })
    ∙ ap (λ (v : Seen). with_phases_open plan (record { now = v; done = λ p. 0; phase = 0 })) (seen_after_run (length plan.names) first [])

pub enabled_same : (plan : Planned) (first : ℕ) (g : MachineProgress) (x : Step) → enabled plan (world_of first g) x ≡ machine_enabled plan g x
enabled_same plan first g (Do p) = go (machine_next_command plan g p)
  where
    go : (o : Option Command) → (nat_lt p (length plan.names) && may_do (world_of first g) p o) ≡ (nat_lt p (length plan.names) && machine_may_do g p o)
    go None = refl
    go (Some c) = refl
enabled_same plan first g (Take p q) = ap (λ (b : Bool). (nat_lt p (length plan.names) && nat_lt q (length plan.names)) && b) (can_same first g.state p q)

pub rest_same : (plan : Planned) (first : ℕ) (g : MachineProgress) → is_at_rest plan (world_of first g) ≡ machine_is_at_rest plan g
rest_same plan first g = ap (λ (b : Bool). none_of (length plan.names) (λ p. is_some (slice_get (machine_commands_left plan g p) 0)) && b) (quiet_same (length plan.names) first g.state)

-- one step
step_same : (plan : Planned) (first : ℕ) (g : MachineProgress) (x : machine.ProtocolStep) → RunFacts plan g → seen first (late_step g.state x) ≡ seen_transition.transition (seen first g.state) x
step_same plan first g x k = subst (λ (s : State). seen first (late_step s x) ≡ seen_transition.transition (seen first s) x) (sym k.state_is) (seen_step (length plan.names) first k.steps x)

-- before phases open
bare_same : (plan : Planned) (first : ℕ) (g : MachineProgress) (y : machine.ProtocolStep) (d : ℕ → ℕ) → RunFacts plan g →
    world_of first (record g { state = late_step g.state y; done = d }) ≡ record (world_of first g) { now = seen_transition.transition (seen first g.state) y; done = d }
bare_same plan first g y d k = ap (λ (v : Seen). record (world_of first g) { now = v; done = d }) (step_same plan first g y k)

pub after_same : (plan : Planned) (first : ℕ) (g : MachineProgress) (x : Step) (give : Give) → RunFacts plan g → world_of first (after_machine_step plan g x give) ≡ progress_after plan (world_of first g) x give
after_same plan first g (Do p) give k = go (machine_next_command plan g p)
  where
    go : (o : Option Command) → world_of first (machine_after_command plan g p give o) ≡ after_command plan (world_of first g) p give o
    go None = refl
    go (Some c) = opened_phases_same plan first (bare_command g p give c)
        ∙ ap (with_phases_open plan) (bare_same plan first g (protocol_step p c.job give) (at_one p (g.done p + 1) g.done) k)
after_same plan first g (Take p q) give k = opened_phases_same plan first (bare_take g p q give)
    ∙ ap (with_phases_open plan) (bare_same plan first g (machine.Take p q give.able) g.done k)
