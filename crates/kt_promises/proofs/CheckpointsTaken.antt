-- Where an object can be saved, a tentative checkpoint is taken exactly where the step asks whether it can.
use Rattle.std.proofs.Common.{length, ◌≡◌, inl, inr, ℕ, ℤ, ◌+◌, ◌<◌, Bool, true, false, List, [], ◌∷◌, ◌++◌, refl, arith, sym, ap, ◌∙◌, Some, None}
use Rattle.std.specs.Prelude.{◌==◌, ◌&&◌, not, nat_lt, if◌then◌else◌, Option}
use Rattle.std.proofs.lemmas.Bool.Decides.{nat_tests}
use Rattle.kt_spacetime.specs.declared.event.Event.{Event}
use Rattle.kt_spacetime.specs.declared.event.Event.TheVariants.{Received, Dropped, Took, Ready, Unwilling, Closed}
use Rattle.kt_base.specs.declared.words.Cause.TheVariants.{Busy, Down, NoSave}
use Rattle.kt_protocol.specs.LateSteps.{late_settling, late_ask, late_front, late_take, late_step}
use Rattle.kt_protocol.specs.OnceClosed.{once_closed}
use Rattle.kt_protocol.proofs.Choices.{at_if}
use Rattle.kt_protocol.proofs.Replying.{ask_facts}
use Rattle.kt_protocol.specs.Deciding.{after_decision}
use Rattle.kt_protocol.specs.Joining.{after_joining_checkpoint, after_joining_rollback, must_take, must_roll}
use Rattle.kt_protocol.specs.Messages.{after_arrival, after_holding}
use Rattle.kt_protocol.specs.Parcels.{Parcel, App, Ask, Reply, Decide, Lists, with_rest, has_parcel}
use Rattle.kt_protocol.specs.Replies.{after_noting, after_replying, after_reply, unable_cause}
use Rattle.kt_protocol.specs.States.{State, is_ready}
use Rattle.kt_protocol.specs.States as machine
use Rattle.kt_plan.specs.declared.steps.Look.TheVariants.{Idle, NeedsSave, Plain}
use Rattle.kt_plan.specs.declared.steps.Look.{Look}
use Rattle.kt_promises.proofs.MachineLooks.{machine_look, machine_look_of_command, machine_look_of_front, machine_look_of_step}
use Rattle.kt_promises.specs.Looks.{look_of_job, uses_able}
use Rattle.kt_plan.specs.declared.commands.Command.{Command}
use Rattle.kt_plan.specs.declared.commands.Job.{Job}
use Rattle.kt_plan.specs.Limits.{Planned}
use Rattle.kt_promises.proofs.MachineProgress.{MachineProgress, machine_next_command}
use Rattle.kt_promises.specs.Rows.{AreDecidingRows, AreRowsOfCommand, has_took_row}
use Rattle.kt_promises.proofs.MachineRows.{TakesCheckpointWhereAsked, machine_refusal_cause}
use Rattle.kt_plan.specs.declared.steps.Step.TheVariants.{Do, Take}
use Rattle.kt_plan.specs.declared.steps.Step.{Step}
use Rattle.kt_promises.proofs.MachineSteps.{machine_after_command, after_machine_step, machine_enabled, machine_may_do}
use Rattle.kt_plan.specs.declared.commands.Job.TheVariants as job
use Rattle.kt_promises.proofs.RunFacts.{RunFacts, opened_command, opened_take}
use Rattle.kt_promises.proofs.StateFacts.{StateFacts, state_facts}
use Rattle.kt_promises.proofs.RowsAdded.{Adds, stays, more, closing_log, settling_adds}
use Rattle.kt_promises.proofs.StepRows.{job_adds, turn_of}
use Rattle.kt_promises.proofs.PhaseOrder.{never_both}

abbrev NoneTook : List Event → Type 0
NoneTook rows = has_took_row rows ≡ false

abbrev TookIs : Look → List Event → Type 0
TookIs l rows = has_took_row rows ≡ uses_able l

ends_none : (p k : ℕ) (rows : List Event) → AreDecidingRows p k rows → has_took_row rows ≡ false
ends_none p k rows e = elim e [ inl x ↦ rw x refl | inr x ↦ (let y = x.1 in rw y refl) ]

-- commands
do_took : (s : State) (p k : ℕ) (j : Job) (z : ℤ) (rows : List Event) → AreRowsOfCommand k p j z (machine_refusal_cause s p true j) rows → TookIs (look_of_job (s.so_far.open_in p == 0) (s.up p) j) rows
do_took s p k (job.Send q None) z rows e = go (s.up p) e
  where
    go : (u : Bool) → AreRowsOfCommand k p (job.Send q None) z (if u then None else Some Down) rows → has_took_row rows ≡ uses_able (look_of_job (s.so_far.open_in p == 0) u (job.Send q None))
    go true e = rw e refl
    go false e = rw e refl
do_took s p k (job.Send q (Some b)) z rows e = go (s.up p) e
  where
    go : (u : Bool) → AreRowsOfCommand k p (job.Send q (Some b)) z (if u then None else Some Down) rows → has_took_row rows ≡ false
    go true e = rw e refl
    go false e = rw e refl
do_took s p k job.Checkpoint z rows e = go (s.so_far.open_in p == 0) (s.up p) e
  where
    go : (o u : Bool) → AreRowsOfCommand k p job.Checkpoint z (if o then (if true && u then None else Some (if u then NoSave else Down)) else Some (Busy (s.so_far.open_in p))) rows → has_took_row rows ≡ uses_able (if o && u then NeedsSave else Plain)
    go true true e = let x = e.2 in rw x refl
    go true false e = rw e refl
    go false u e = rw e refl
do_took s p k job.Rollback z rows e = go (s.so_far.open_in p == 0) e
  where
    go : (o : Bool) → AreRowsOfCommand k p job.Rollback z (if o then None else Some (Busy (s.so_far.open_in p))) rows → has_took_row rows ≡ false
    go true e = let x = e.2 in let y = ends_none p k e.0 e.1 in rw x y
    go false e = rw e refl
do_took s p k job.Fail z rows e = go (s.up p) e
  where
    go : (u : Bool) → AreRowsOfCommand k p job.Fail z (if u then None else Some Down) rows → has_took_row rows ≡ false
    go true e = rw e refl
    go false e = rw e refl

-- an ask
pick : (x z r m u v : Bool) (s s0 s1 s2 s3 s4 s5 s6 : State) → (x ≡ true → z ≡ false) → Adds NoneTook s s0 → Adds NoneTook s s1 → Adds NoneTook s s2 → Adds NoneTook s s3 → Adds NoneTook s s4 → Adds NoneTook s s5 → Adds (λ rows. has_took_row rows ≡ true) s s6 →
    Adds (TookIs (if (z && not r) && (m && u) then NeedsSave else Plain)) s (if x then s0 else if not z then s1 else if r then (if v then s2 else s3) else if not m then s4 else if not (true && u) then s5 else s6)
pick true true r m u v s s0 s1 s2 s3 s4 s5 s6 h a0 a1 a2 a3 a4 a5 a6 = absurd (let e = h refl in cc (e))
pick true false r m u v s s0 s1 s2 s3 s4 s5 s6 h a0 a1 a2 a3 a4 a5 a6 = a0
pick false false r m u v s s0 s1 s2 s3 s4 s5 s6 h a0 a1 a2 a3 a4 a5 a6 = a1
pick false true true m u true s s0 s1 s2 s3 s4 s5 s6 h a0 a1 a2 a3 a4 a5 a6 = a2
pick false true true m u false s s0 s1 s2 s3 s4 s5 s6 h a0 a1 a2 a3 a4 a5 a6 = a3
pick false true false false u v s s0 s1 s2 s3 s4 s5 s6 h a0 a1 a2 a3 a4 a5 a6 = a4
pick false true false true false v s s0 s1 s2 s3 s4 s5 s6 h a0 a1 a2 a3 a4 a5 a6 = a5
pick false true false true true v s s0 s1 s2 s3 s4 s5 s6 h a0 a1 a2 a3 a4 a5 a6 = a6

ask_took : (s : State) (p q k l : ℕ) (rest : List Parcel) → 0 < k → Adds (TookIs (machine_look_of_front s p q (Ask k l ∷ rest))) s (late_ask s p q true k l rest)
ask_took s p q k l rest pos = pick (s.so_far.open_in p == k) (s.so_far.open_in p == 0) (s.so_far.is_rollback k) (must_take s p q l) (s.up p) (must_roll s p q l) s _ _ _ _ _ _ _ (other (s.so_far.open_in p) k pos)
    (stays NoneTook s (after_replying (after_noting s p q k l) p q k true rest) refl refl)
    (record { rows = Unwilling p k (Busy (s.so_far.open_in p)) ∷ []; log = refl; fit = refl })
    (more (AreDecidingRows p k) NoneTook s (after_joining_rollback (after_noting s p q k l) (with_rest s.channel q p rest) p k false q (s.last_received p q)) (late_settling (after_joining_rollback (after_noting s p q k l) (with_rest s.channel q p rest) p k false q (s.last_received p q)) p k) (Ready p k ∷ []) refl (λ rows f. ends_none p k rows f) (settling_adds (after_joining_rollback (after_noting s p q k l) (with_rest s.channel q p rest) p k false q (s.last_received p q)) p k))
    (stays NoneTook s (after_replying s p q k true rest) refl refl)
    (stays NoneTook s (after_replying s p q k true rest) refl refl)
    (record { rows = Unwilling p k (unable_cause (s.up p)) ∷ []; log = refl; fit = refl })
    (more (AreDecidingRows p k) (λ rows. has_took_row rows ≡ true) s (after_joining_checkpoint s (with_rest s.channel q p rest) p k false q l) (late_settling (after_joining_checkpoint s (with_rest s.channel q p rest) p k false q l) p k) (Took p k ∷ []) refl (λ rows f. refl) (settling_adds (after_joining_checkpoint s (with_rest s.channel q p rest) p k false q l) p k))
  where
    other : (o k : ℕ) → 0 < k → (o == k) ≡ true → (o == 0) ≡ false
    other o k h e = grind (arith, nat_tests, h, e)

arrival_took : (s : State) (channel held : Lists) (p q m : ℕ) → Adds NoneTook s (after_arrival s channel held p q m)
arrival_took s channel held p q m = at_if (Adds NoneTook s) (s.up p) _ _ (λ _. record { rows = Received p q m ∷ []; log = refl; fit = refl }) (λ _. record { rows = Dropped p q m ∷ []; log = refl; fit = refl })

front_took : (n : ℕ) (s : State) (p q : ℕ) (l : List Parcel) → StateFacts n s → s.channel q p ≡ l → Adds (TookIs (machine_look_of_front s p q l)) s (late_front s p q true l)
front_took n s p q [] r e = stays NoneTook s s refl refl
front_took n s p q (App m ∷ rest) r e = at_if (Adds NoneTook s) (is_ready s p) _ _ (λ _. stays NoneTook s (after_holding s p q m rest) refl refl) (λ _. arrival_took s (with_rest s.channel q p rest) s.held p q m)
front_took n s p q (Ask k l ∷ rest) r e = ask_took s p q k l rest (ask_facts (once_closed s) q p k l rest e r.invariant).3
front_took n s p q (Reply k w ∷ rest) r e = let a = settling_adds (after_reply s p q k w rest) p k in record { rows = a.rows; log = a.log; fit = ends_none p k a.rows a.fit }
front_took n s p q (Decide k c ∷ rest) r e = at_if (Adds NoneTook s) (s.so_far.open_in p == k) _ _
    (λ _. record { rows = Closed p k ∷ []; log = closing_log (after_decision s p q rest) p k c; fit = refl })
    (λ _. stays NoneTook s (after_decision s p q rest) refl refl)

take_took : (n : ℕ) (s : State) (p q : ℕ) → StateFacts n s → Adds (TookIs (if not (is_ready s p) && has_parcel (s.held q p) then Plain else machine_look_of_front s p q (s.channel q p))) s (late_step s (machine.Take p q true))
take_took n s p q r = go (is_ready s p) (s.held q p)
  where
    go : (z : Bool) (l : List Parcel) → Adds (TookIs (if not z && has_parcel l then Plain else machine_look_of_front s p q (s.channel q p))) s (if z then late_front s p q true (s.channel q p) else late_take s p q true l)
    go true l = front_took n s p q (s.channel q p) r refl
    go false [] = front_took n s p q (s.channel q p) r refl
    go false (App m ∷ rest) = arrival_took s s.channel (with_rest s.held q p rest) p q m
    go false (Ask k l ∷ rest) = stays NoneTook s s refl refl
    go false (Reply k w ∷ rest) = stays NoneTook s s refl refl
    go false (Decide k c ∷ rest) = stays NoneTook s s refl refl

pub seen_on : (plan : Planned) (g : MachineProgress) (x : Step) → machine_enabled plan g x ≡ true → machine_look plan g x ≡ machine_look_of_step plan g x
seen_on plan g x e = go (machine_enabled plan g x) e
  where
    go : (b : Bool) → b ≡ true → (if b then machine_look_of_step plan g x else Idle) ≡ machine_look_of_step plan g x
    go true e = refl
    go false e = absurd (cc (e))

took : (plan : Planned) (g : MachineProgress) (x : Step) (body : ℤ) → RunFacts plan g → machine_enabled plan g x ≡ true → (rows : List Event) × ((after_machine_step plan g x (record { able = true; body = body })).state.log ≡ g.state.log ++ rows) × (has_took_row rows ≡ uses_able (machine_look_of_step plan g x))
took plan g (Do p) body k b = go (machine_next_command plan g p) refl b
  where
    go : (o : Option Command) → machine_next_command plan g p ≡ o → (nat_lt p (length plan.names) && machine_may_do g p o) ≡ true → (rows : List Event) × ((machine_after_command plan g p (record { able = true; body = body }) o).state.log ≡ g.state.log ++ rows) × (has_took_row rows ≡ uses_able (machine_look_of_command g p o))
    go None e f = absurd (never_both (nat_lt p (length plan.names)) f)
    go (Some c) e f =
        let t = turn_of plan g p c k e f in
        let a = job_adds g.state p c.job (record { able = true; body = body }) t.low t.fits t.may in
        let s = opened_command plan g p (record { able = true; body = body }) c k e in
        (a.rows, ap (λ (s : State). s.log) s.state ∙ a.log, do_took g.state p (g.state.instances + 1) c.job body a.rows a.fit)
took plan g (Take p q) body k b =
    let s = opened_take plan g p q (record { able = true; body = body }) k in
    let a = take_took (length plan.names) g.state p q (state_facts plan g k) in
    (a.rows, ap (λ (s : State). s.log) s.state ∙ a.log, a.fit)

pub takes_checkpoint_where_asked : (plan : Planned) (g : MachineProgress) (x : Step) (body : ℤ) → RunFacts plan g → machine_enabled plan g x ≡ true → TakesCheckpointWhereAsked plan g x (record { able = true; body = body })
takes_checkpoint_where_asked plan g x body k e = let t = took plan g x body k e in (t.0, t.1, t.2 ∙ ap uses_able (sym (seen_on plan g x e)))
