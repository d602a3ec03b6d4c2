-- An enabled step stays enabled, and asks the same of its object, after any enabled step of another process.
use Rattle.std.specs.List.{list_any}
use Rattle.std.proofs.Common.{length, ◌≡◌, ◌≢◌, ℕ, zero, suc, ◌+◌, ◌-◌, ◌≤◌, ◌<◌, Bool, true, false, List, [], ◌∷◌, refl, arith, ap, ap₂, subst, ◌∙◌, drop, Some, None, inl, inr}
use Rattle.std.specs.Prelude.{◌==◌, ◌&&◌, ◌||◌, not, nat_lt, if◌then◌else◌, Option, slice_get, unwrap_or}
use Rattle.std.proofs.lemmas.Bool.{cases_eq}
use Rattle.std.proofs.lemmas.Bool.Decides.{nat_tests}
use Rattle.kt_base.specs.declared.words.Verb.TheVariants as verb
use Rattle.kt_base.specs.declared.words.Cause.TheVariants.{Busy, Down}
use Rattle.kt_protocol.specs.LateSteps.{late_step}
use Rattle.kt_protocol.specs.OnceClosed.{once_closed}
use Rattle.kt_protocol.proofs.Choices.{at_if}
use Rattle.kt_protocol.proofs.Replying.{ask_facts}
use Rattle.kt_protocol.proofs.StepFacts.{none_is}
use Rattle.kt_protocol.proofs.Updates.{is_other}
use Rattle.kt_protocol.specs.Joining.{must_take}
use Rattle.kt_protocol.specs.Parcels.{Parcel, App, Ask, Reply, Decide, has_parcel}
use Rattle.kt_protocol.specs.Replies.{unable_cause}
use Rattle.kt_protocol.specs.States.{State, is_ready, can_take}
use Rattle.kt_plan.specs.declared.steps.Look.TheVariants.{Idle, NeedsSave, Plain}
use Rattle.kt_plan.specs.declared.steps.Look.{Look}
use Rattle.kt_promises.proofs.MachineLooks.{machine_look, machine_look_of_command, machine_look_of_front, machine_look_of_step}
use Rattle.kt_promises.specs.Looks.{look_of_job}
use Rattle.kt_promises.specs.Steps.{process_of_step, protocol_step}
use Rattle.kt_plan.specs.declared.commands.Command.{Command}
use Rattle.kt_plan.specs.declared.commands.Job.{Job}
use Rattle.kt_plan.specs.Limits.{Planned}
use Rattle.kt_meaning.specs.Follows.{commands_of}
use Rattle.kt_promises.specs.Plans.{last_phase}
use Rattle.kt_promises.proofs.MachineProgress.{MachineProgress, machine_after_opening, machine_commands_left, machine_is_phase_done, machine_is_quiet, machine_next_command, machine_opens_next, machine_with_phases_open}
use Rattle.kt_plan.specs.declared.steps.Step.TheVariants.{Do, Take}
use Rattle.kt_plan.specs.declared.steps.Give.{Give}
use Rattle.kt_plan.specs.declared.steps.Step.{Step}
use Rattle.kt_promises.proofs.MachineSteps.{machine_after_command, after_machine_step, machine_enabled, machine_may_do}
use Rattle.kt_plan.specs.declared.commands.Job.TheVariants as job
use Rattle.kt_promises.proofs.MachinePhasesOpen.{Opened}
use Rattle.kt_promises.proofs.RunFacts.{RunFacts, bare_command, bare_take, opened_command, opened_take, after_front}
use Rattle.kt_promises.proofs.StateFacts.{StateFacts, state_facts}
use Rattle.kt_promises.proofs.StepRows.{IsTurn, turn_of}
use Rattle.kt_promises.proofs.OthersKeep.{KeepsOthers, Grown, still, sending_keeps_others, refusal_keeps_others, failing_keeps_others, beginning_keeps_others, take_keeps_others}
use Rattle.kt_promises.proofs.PhaseOrder.{never_both}

job_keeps_others : (s : State) (p : ℕ) (j : Job) (give : Give) → KeepsOthers p s (late_step s (protocol_step p j give))
job_keeps_others s p (job.Send q body) give = at_if (KeepsOthers p s) ((nat_lt p s.processes && nat_lt q s.processes) && (s.so_far.open_in p == 0 && not (q == p))) _ _
    (λ _. at_if (KeepsOthers p s) (s.up p) _ _ (λ _. sending_keeps_others p s q (unwrap_or body give.body)) (λ _. refusal_keeps_others p s verb.Send Down)) (λ _. still p s)
job_keeps_others s p job.Checkpoint give = at_if (KeepsOthers p s) (s.so_far.open_in p == 0) _ _
    (λ _. at_if (KeepsOthers p s) (give.able && s.up p) _ _ (λ _. beginning_keeps_others p s false) (λ _. refusal_keeps_others p s verb.Checkpoint (unable_cause (s.up p))))
    (λ _. refusal_keeps_others p s verb.Checkpoint (Busy (s.so_far.open_in p)))
job_keeps_others s p job.Rollback give = at_if (KeepsOthers p s) (s.so_far.open_in p == 0) _ _ (λ _. beginning_keeps_others p s true) (λ _. refusal_keeps_others p s verb.Rollback (Busy (s.so_far.open_in p)))
job_keeps_others s p job.Fail give = at_if (KeepsOthers p s) (s.up p) _ _ (λ _. failing_keeps_others p s) (λ _. refusal_keeps_others p s verb.Fail Down)

-- what an enabled step makes, before phases open
pub record Made (plan : Planned) (g g' : MachineProgress) (y : Step) : Type 0 where
  pub bare : MachineProgress
  pub settles : g' ≡ machine_with_phases_open plan bare
  pub opened : Opened plan bare g'
  pub phase : bare.phase ≡ g.phase
  pub done : (u : ℕ) → u ≢ process_of_step y → bare.done u ≡ g.done u
  pub frame : KeepsOthers (process_of_step y) g.state bare.state

pub made_is : (plan : Planned) (g : MachineProgress) (y : Step) (give : Give) → RunFacts plan g → machine_enabled plan g y ≡ true → Made plan g (after_machine_step plan g y give) y
made_is plan g (Do p) give k e = go (machine_next_command plan g p) refl e
  where
    go : (o : Option Command) → machine_next_command plan g p ≡ o → (nat_lt p (length plan.names) && machine_may_do g p o) ≡ true → Made plan g (machine_after_command plan g p give o) (Do p)
    go None n e = absurd (never_both (nat_lt p (length plan.names)) e)
    go (Some c) n e = record {
      bare = bare_command g p give c;
      settles = refl;
      opened = opened_command plan g p give c k n;
      phase = refl;
      done = λ u d. (let o = is_other u p d in rw o refl);
      frame = job_keeps_others g.state p c.job give;
    }
made_is plan g (Take p q) give k e = record {
  bare = bare_take g p q give;
  settles = refl;
  opened = opened_take plan g p q give k;
  phase = refl;
  done = λ u d. refl;
  frame = take_keeps_others p g.state q give.able;
}

-- no phase opens while a command of the open one is left
stays_open : (plan : Planned) (g : MachineProgress) → machine_opens_next plan g ≡ false → machine_with_phases_open plan g ≡ g
stays_open plan g e = go (last_phase plan.commands - g.phase)
  where
    pick : (b : Bool) (x : MachineProgress) → b ≡ false → (if b then x else g) ≡ g
    pick true x e = absurd (cc (e))
    pick false x e = refl

    go : (k : ℕ) → machine_after_opening k plan g ≡ g
    go zero = refl
    go (suc k) = pick (machine_opens_next plan g) (machine_after_opening k plan (record g { phase = g.phase + 1 })) e

not_done : (plan : Planned) (g : MachineProgress) (p : ℕ) → p < length plan.names → list_any (λ (x : Command). x.phase == g.phase) (machine_commands_left plan g p) ≡ true → machine_opens_next plan g ≡ false
not_done plan g p l h = go (machine_is_phase_done plan g) refl
  where
    go : (b : Bool) → machine_is_phase_done plan g ≡ b → (b && (machine_is_quiet (length plan.names) g.state && nat_lt g.phase (last_phase plan.commands))) ≡ false
    go true e = absurd (let x = none_is (length plan.names) (λ p. list_any (λ (x : Command). x.phase == g.phase) (machine_commands_left plan g p)) e p l in cc (x, h))
    go false e = refl

both : (a b : Bool) → a ≡ true → b ≡ true → (a && b) ≡ true
both a b e f = rw (e, f) refl

phase_has : (k x : ℕ) (b : Bool) → x ≡ k → (x == k || b) ≡ true
phase_has k x b e = grind (arith, nat_tests, e)

-- both claims
pub record Stays (plan : Planned) (g g' : MachineProgress) (x : Step) : Type 0 where
  pub on : machine_enabled plan g' x ≡ true
  pub seen : machine_look plan g' x ≡ machine_look plan g x

stays_by : (plan : Planned) (g g' : MachineProgress) (x : Step) → machine_enabled plan g x ≡ true → machine_enabled plan g' x ≡ true → machine_look_of_step plan g' x ≡ machine_look_of_step plan g x → Stays plan g g' x
stays_by plan g g' x e e' l = record { on = e'; seen = pick (machine_enabled plan g' x) (machine_enabled plan g x) (machine_look_of_step plan g' x) (machine_look_of_step plan g x) e' e l }
  where
    pick : (a b : Bool) (m n : Look) → a ≡ true → b ≡ true → m ≡ n → (if a then m else Idle) ≡ (if b then n else Idle)
    pick a b m n i j l = rw (i, j, l) refl

-- a command
do_stays : (plan : Planned) (g g' : MachineProgress) (y : Step) (p : ℕ) → p ≢ process_of_step y → RunFacts plan g → Made plan g g' y → machine_enabled plan g (Do p) ≡ true → Stays plan g g' (Do p)
do_stays plan g g' y p n k m e = go (machine_next_command plan g p) refl e
  where
    left_same : machine_commands_left plan m.bare p ≡ machine_commands_left plan g p
    left_same = ap (λ (d : ℕ). drop d (commands_of p plan.commands)) (m.done p n)

    test_same : (o : Option Command) → machine_may_do m.bare p o ≡ machine_may_do g p o
    test_same None = refl
    test_same (Some c) = let a = m.phase in let b = m.frame.open_in p n in rw (a, b) refl

    look_same : (o : Option Command) → machine_look_of_command m.bare p o ≡ machine_look_of_command g p o
    look_same None = refl
    look_same (Some c) = ap₂ (λ (o : ℕ) (u : Bool). look_of_job (o == 0) u c.job) (m.frame.open_in p n) (m.frame.up p n)

    go : (o : Option Command) → machine_next_command plan g p ≡ o → (nat_lt p (length plan.names) && machine_may_do g p o) ≡ true → Stays plan g g' (Do p)
    go None i f = absurd (never_both (nat_lt p (length plan.names)) f)
    go (Some c) i f = stays_by plan g g' (Do p) e on (ap (λ (h : MachineProgress). machine_look_of_step plan h (Do p)) g'_is ∙ (look_same (machine_next_command plan m.bare p) ∙ ap (λ (l : List Command). machine_look_of_command g p (slice_get l 0)) left_same))
      where
        t : IsTurn plan g p c
        t = turn_of plan g p c k i f

        in_phase : list_any (λ (x : Command). x.phase == m.bare.phase) (machine_commands_left plan m.bare p) ≡ true
        in_phase = ap₂ (λ (k : ℕ) (l : List Command). list_any (λ (x : Command). x.phase == k) l) m.phase left_same ∙ (ap (λ (l : List Command). list_any (λ (x : Command). x.phase == g.phase) l) (after_front plan g p c i).1 ∙ phase_has g.phase c.phase (list_any (λ (x : Command). x.phase == g.phase) (after_front plan g p c i).0) t.of_phase)

        g'_is : g' ≡ m.bare
        g'_is = m.settles ∙ stays_open plan m.bare (not_done plan m.bare p (subst (λ (n : ℕ). p < n) (state_facts plan g k).processes t.low) in_phase)

        on : machine_enabled plan g' (Do p) ≡ true
        on = ap (λ (h : MachineProgress). machine_enabled plan h (Do p)) g'_is ∙ (ap (λ (b : Bool). nat_lt p (length plan.names) && b) (test_same (machine_next_command plan m.bare p)) ∙ (ap (λ (l : List Command). nat_lt p (length plan.names) && machine_may_do g p (slice_get l 0)) left_same ∙ e))

-- a parcel
open_low : (n : ℕ) (s : State) (p : ℕ) → StateFacts n s → s.so_far.open_in p ≤ s.instances
open_low n s p r = elim (cases_eq (s.so_far.open_in p) 0) [
  | inl e ↦ omega (arith, e)
  | inr d ↦ (r.invariant.positions.joined_instance (s.so_far.open_in p) p (r.invariant.positions.open_joined (s.so_far.open_in p) p (omega (arith, d)) refl)).1
]

module _ (n r : ℕ) (s s' : State) (f : KeepsOthers r s s') (m : StateFacts n s) (p q : ℕ) (d : p ≢ r) where
  ready_same : is_ready s' p ≡ is_ready s p
  ready_same = ap₂ (λ (o : ℕ) (b : Bool). not (o == 0) && b) (f.open_in p d) (ap s'.so_far.is_rollback (f.open_in p d) ∙ f.is_rollback (s.so_far.open_in p) (open_low n s p m))

  any_more : (l l' : List Parcel) → Grown l l' → has_parcel l ≡ true → has_parcel l' ≡ true
  any_more [] l' g e = absurd (cc (e))
  any_more (x ∷ l) l' g e = let z = g.1 in rw z refl

  pub take_same : can_take s p q ≡ true → can_take s' p q ≡ true
  take_same e = go (has_parcel (s.channel q p)) refl e
    where
      or_true : (a b : Bool) → a ≡ true → (a || b) ≡ true
      or_true true b e = refl
      or_true false b e = absurd (cc (e))

      or_right : (a b : Bool) → b ≡ true → (a || b) ≡ true
      or_right true b e = refl
      or_right false b e = e

      go : (b : Bool) → has_parcel (s.channel q p) ≡ b → (b || not (is_ready s p) && has_parcel (s.held q p)) ≡ true → can_take s' p q ≡ true
      go true c e = or_true (has_parcel (s'.channel q p)) _ (any_more (s.channel q p) (s'.channel q p) (f.channel q p d) c)
      go false c e = or_right (has_parcel (s'.channel q p)) (not (is_ready s' p) && has_parcel (s'.held q p)) (ap₂ (λ (r : Bool) (l : List Parcel). not r && has_parcel l) ready_same (f.held q p d) ∙ e)

  front_same : (l l' : List Parcel) → s.channel q p ≡ l → Grown l l' → has_parcel l ≡ true → machine_look_of_front s' p q l' ≡ machine_look_of_front s p q l
  front_same [] l' c g e = absurd (cc (e))
  front_same (App x ∷ l) l' c g e = let z = g.1 in rw z refl
  front_same (Reply k w ∷ l) l' c g e = let z = g.1 in rw z refl
  front_same (Decide k w ∷ l) l' c g e = let z = g.1 in rw z refl
  front_same (Ask k x ∷ l) l' c g e = ap (machine_look_of_front s' p q) g.1 ∙ ask
    where
      low : k ≤ s.instances
      low = (ask_facts (once_closed s) q p k x l c m.invariant).4

      ask : (if (s'.so_far.open_in p == 0 && not (s'.so_far.is_rollback k)) && (must_take s' p q x && s'.up p) then NeedsSave else Plain) ≡ (if (s.so_far.open_in p == 0 && not (s.so_far.is_rollback k)) && (must_take s p q x && s.up p) then NeedsSave else Plain)
      ask = let a = f.open_in p d in let b = f.is_rollback k low in let o = f.first_sent p q d in let u = f.up p d in rw (a, b, o, u) refl

  pub look_same : can_take s p q ≡ true → (if not (is_ready s' p) && has_parcel (s'.held q p) then Plain else machine_look_of_front s' p q (s'.channel q p)) ≡ (if not (is_ready s p) && has_parcel (s.held q p) then Plain else machine_look_of_front s p q (s.channel q p))
  look_same e = ap (λ (b : Bool). if b then Plain else machine_look_of_front s' p q (s'.channel q p)) (ap₂ (λ (r : Bool) (l : List Parcel). not r && has_parcel l) ready_same (f.held q p d)) ∙ go (not (is_ready s p) && has_parcel (s.held q p)) (λ b. front_same (s.channel q p) (s'.channel q p) refl (f.channel q p d) b) e
    where
      go : (b : Bool) → (has_parcel (s.channel q p) ≡ true → machine_look_of_front s' p q (s'.channel q p) ≡ machine_look_of_front s p q (s.channel q p)) → (has_parcel (s.channel q p) || b) ≡ true → (if b then Plain else machine_look_of_front s' p q (s'.channel q p)) ≡ (if b then Plain else machine_look_of_front s p q (s.channel q p))
      go true h e = refl
      go false h e = h (left_of (has_parcel (s.channel q p)) e)
        where
          left_of : (a : Bool) → (a || false) ≡ true → a ≡ true
          left_of true e = refl
          left_of false e = absurd (cc (e))

take_stays : (plan : Planned) (g g' : MachineProgress) (y : Step) (p q : ℕ) → p ≢ process_of_step y → RunFacts plan g → Made plan g g' y → machine_enabled plan g (Take p q) ≡ true → Stays plan g g' (Take p q)
take_stays plan g g' y p q n k m e = stays_by plan g g' (Take p q) e on seen
  where
    tests : (a b : Bool) → (a && b) ≡ true → (a ≡ true) × (b ≡ true)
    tests true b e = (refl, e)
    tests false b e = absurd (cc (e))

    t : ((nat_lt p (length plan.names) && nat_lt q (length plan.names)) ≡ true) × (can_take g.state p q ≡ true)
    t = tests (nat_lt p (length plan.names) && nat_lt q (length plan.names)) (can_take g.state p q) e

    on : ((nat_lt p (length plan.names) && nat_lt q (length plan.names)) && can_take g'.state p q) ≡ true
    on = both (nat_lt p (length plan.names) && nat_lt q (length plan.names)) (can_take g'.state p q) t.0 (ap (λ (s : State). can_take s p q) m.opened.state ∙ take_same (length plan.names) (process_of_step y) g.state m.bare.state m.frame (state_facts plan g k) p q n t.1)

    seen : machine_look_of_step plan g' (Take p q) ≡ machine_look_of_step plan g (Take p q)
    seen = ap (λ (s : State). if not (is_ready s p) && has_parcel (s.held q p) then Plain else machine_look_of_front s p q (s.channel q p)) m.opened.state ∙ look_same (length plan.names) (process_of_step y) g.state m.bare.state m.frame (state_facts plan g k) p q n t.1

pub stays : (plan : Planned) (g : MachineProgress) (x y : Step) (give : Give) → RunFacts plan g → machine_enabled plan g x ≡ true → machine_enabled plan g y ≡ true → process_of_step x ≢ process_of_step y → Stays plan g (after_machine_step plan g y give) x
stays plan g (Do p) y give k e f n = do_stays plan g (after_machine_step plan g y give) y p n k (made_is plan g y give k f) e
stays plan g (Take p q) y give k e f n = take_stays plan g (after_machine_step plan g y give) y p q n k (made_is plan g y give k f) e
