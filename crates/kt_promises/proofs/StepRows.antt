-- The rows that each enabled step of a plan adds.
use Rattle.std.proofs.Common.{◌≡◌, ◌≢◌, ℕ, ℤ, ◌+◌, ◌<◌, ◌≤◌, length, Bool, true, false, List, [], ◌∷◌, ◌++◌, refl, arith, sym, ap, subst, ◌∙◌, append_assoc, append-nil, Some, None}
use Rattle.std.specs.Prelude.{◌==◌, ◌&&◌, not, nat_lt, if◌then◌else◌, Option, unwrap_or}
use Rattle.std.proofs.lemmas.Bool.Decides.{nat_tests}
use Rattle.kt_spacetime.specs.declared.event.Event.{Event}
use Rattle.kt_spacetime.specs.declared.event.Event.TheVariants.{Sent, Began, Took, Ready, Failed, Refused}
use Rattle.kt_base.specs.declared.words.Kind.TheVariants as kind
use Rattle.kt_base.specs.declared.words.Cause.{Cause}
use Rattle.kt_base.specs.declared.words.Cause.TheVariants.{Busy, Down, NoSave}
use Rattle.kt_base.specs.declared.words.Verb.TheVariants as verb
use Rattle.kt_protocol.specs.LateSteps.{late_beginning, late_begin_command, late_front, late_take, late_step}
use Rattle.kt_protocol.proofs.Choices.{at_if}
use Rattle.kt_protocol.specs.Joining.{after_began, after_joining_checkpoint, after_joining_rollback}
use Rattle.kt_protocol.specs.Messages.{after_arrival, after_refusal, after_sending, after_failing}
use Rattle.kt_protocol.specs.Parcels.{Parcel, App, Ask, Reply, Decide, with_rest, has_parcel}
use Rattle.kt_protocol.specs.States.{State, is_ready}
use Rattle.kt_protocol.specs.Replies.{unable_cause}
use Rattle.kt_protocol.specs.States as machine
use Rattle.kt_plan.specs.declared.commands.Command.{Command}
use Rattle.kt_plan.specs.Limits.{IsJobOf, Planned}
use Rattle.kt_plan.specs.declared.commands.Job.{Job}
use Rattle.kt_promises.proofs.MachineProgress.{MachineProgress, machine_next_command}
use Rattle.kt_promises.specs.Rows.{AreDecidingRows, AreRowsOfCommand}
use Rattle.kt_promises.proofs.MachineRows.{AreMachineRowsOfDo, AreMachineRowsOfMessage, AreMachineRowsOfTake, machine_list_taken, machine_refusal_cause, AddsMachineRows}
use Rattle.kt_plan.specs.declared.steps.Step.TheVariants.{Do, Take}
use Rattle.kt_plan.specs.declared.steps.Give.{Give}
use Rattle.kt_plan.specs.declared.steps.Step.{Step}
use Rattle.kt_promises.proofs.MachineSteps.{machine_after_command, after_machine_step, machine_enabled, machine_may_do}
use Rattle.kt_promises.specs.Steps.{may_do_job, protocol_step}
use Rattle.kt_plan.specs.declared.commands.Job.TheVariants as job
use Rattle.kt_promises.proofs.PhaseOrder.{Ordered, never_both}
use Rattle.kt_promises.proofs.RunFacts.{RunFacts, opened_command, opened_take, after_front}
use Rattle.kt_promises.proofs.StateFacts.{state_facts}
use Rattle.kt_promises.proofs.RowsAdded.{Adds, few_ends, more, takes_of, arrival_adds, settling_adds}

pub take_adds : (s : State) (p q : ℕ) (able : Bool) → Adds (AreMachineRowsOfTake s (late_step s (machine.Take p q able)) p q (machine_list_taken s p q)) s (late_step s (machine.Take p q able))
take_adds s p q able = go (is_ready s p) refl (s.held q p) refl
  where
    go : (r : Bool) → is_ready s p ≡ r → (h : List Parcel) → s.held q p ≡ h → Adds (AreMachineRowsOfTake s (if r then late_front s p q able (s.channel q p) else late_take s p q able h) p q (if not r && has_parcel h then h else s.channel q p)) s (if r then late_front s p q able (s.channel q p) else late_take s p q able h)
    go true e h f = takes_of s p q able (s.channel q p) refl
    go false e [] f = takes_of s p q able (s.channel q p) refl
    go false e (App m ∷ rest) f = subst (λ (b : Bool). Adds (AreMachineRowsOfMessage s (after_arrival s s.channel (with_rest s.held q p rest) p q m) p q m b (s.up p)) s (after_arrival s s.channel (with_rest s.held q p rest) p q m)) (sym e)
        (arrival_adds s (after_arrival s s.channel (with_rest s.held q p rest) p q m) s.channel (with_rest s.held q p rest) p q m)
    go false e (Ask k l ∷ rest) f = record { rows = []; log = sym (append-nil s.log); fit = (refl, omega arith) }
    go false e (Reply k w ∷ rest) f = record { rows = []; log = sym (append-nil s.log); fit = (refl, omega arith) }
    go false e (Decide k c ∷ rest) f = record { rows = []; log = sym (append-nil s.log); fit = (refl, omega arith) }

-- a begun instance
abbrev Begun : ℕ → ℕ → Job → ℤ → List Event → Type 0
Begun k p j z rows = AreRowsOfCommand k p j z None rows

begin_adds : (s : State) (p : ℕ) (z : ℤ) → Adds (Begun (s.instances + 1) p job.Checkpoint z) s (late_beginning s p false)
begin_adds s p z = more (AreDecidingRows p (s.instances + 1)) (Begun (s.instances + 1) p job.Checkpoint z) s (after_joining_checkpoint (after_began s p false) s.channel p (s.instances + 1) true p 0) (late_beginning s p false) (Began p (s.instances + 1) kind.Checkpoint ∷ Took p (s.instances + 1) ∷ [])
    (append_assoc s.log (Began p (s.instances + 1) kind.Checkpoint ∷ []) (Took p (s.instances + 1) ∷ []))
    (λ rows f. (rows, f, refl)) (settling_adds (after_joining_checkpoint (after_began s p false) s.channel p (s.instances + 1) true p 0) p (s.instances + 1))

begin_rolls : (s : State) (p : ℕ) (z : ℤ) → Adds (Begun (s.instances + 1) p job.Rollback z) s (late_beginning s p true)
begin_rolls s p z = more (AreDecidingRows p (s.instances + 1)) (Begun (s.instances + 1) p job.Rollback z) s (after_joining_rollback (after_began s p true) s.channel p (s.instances + 1) true p 0) (late_beginning s p true) (Began p (s.instances + 1) kind.Rollback ∷ Ready p (s.instances + 1) ∷ [])
    (append_assoc s.log (Began p (s.instances + 1) kind.Rollback ∷ []) (Ready p (s.instances + 1) ∷ []))
    (λ rows f. (rows, f, refl)) (settling_adds (after_joining_rollback (after_began s p true) s.channel p (s.instances + 1) true p 0) p (s.instances + 1))

-- what a command adds, where its process may do it
abbrev Commanded : State → ℕ → Job → Give → State → Type 0
Commanded s p j give s' = Adds (AreRowsOfCommand (s.instances + 1) p j give.body (machine_refusal_cause s p give.able j)) s s'

pub job_adds : (s : State) (p : ℕ) (j : Job) (give : Give) → p < s.processes → IsJobOf s.processes p j → may_do_job (s.so_far.open_in p == 0) j ≡ true → Commanded s p j give (late_step s (protocol_step p j give))
job_adds s p (job.Send q body) give l i m = at_if (Commanded s p (job.Send q body) give) ((nat_lt p s.processes && nat_lt q s.processes) && (s.so_far.open_in p == 0 && not (q == p))) _ _ (λ _. go (s.up p)) (λ e. absurd (tests p q s.processes (s.so_far.open_in p) l i.0 i.1 m e))
  where
    tests : (p q n o : ℕ) → p < n → q < n → q ≢ p → (o == 0) ≡ true → ((nat_lt p n && nat_lt q n) && (o == 0 && not (q == p))) ≡ false → ⊥
    tests p q n o a b c d e = grind (arith, nat_tests, a, b, c, d, e)

    go : (b : Bool) → Adds (AreRowsOfCommand (s.instances + 1) p (job.Send q body) give.body (if b then None else Some Down)) s (if b then after_sending s p q (unwrap_or body give.body) else after_refusal s p verb.Send Down)
    go true = record { rows = Sent p q (unwrap_or body give.body) ∷ []; log = refl; fit = refl }
    go false = record { rows = Refused p verb.Send Down ∷ []; log = refl; fit = refl }
job_adds s p job.Checkpoint give l i m = go (s.so_far.open_in p == 0)
  where
    starts : (a u : Bool) → Adds (AreRowsOfCommand (s.instances + 1) p job.Checkpoint give.body (if a && u then None else Some (if u then NoSave else Down))) s (if a && u then late_beginning s p false else after_refusal s p verb.Checkpoint (unable_cause u))
    starts true true = begin_adds s p give.body
    starts true false = record { rows = Refused p verb.Checkpoint Down ∷ []; log = refl; fit = refl }
    starts false true = record { rows = Refused p verb.Checkpoint NoSave ∷ []; log = refl; fit = refl }
    starts false false = record { rows = Refused p verb.Checkpoint Down ∷ []; log = refl; fit = refl }

    go : (b : Bool) → Adds (AreRowsOfCommand (s.instances + 1) p job.Checkpoint give.body (if b then (if give.able && s.up p then None else Some (if s.up p then NoSave else Down)) else Some (Busy (s.so_far.open_in p)))) s (if b then late_begin_command s p false give.able else after_refusal s p verb.Checkpoint (Busy (s.so_far.open_in p)))
    go true = starts give.able (s.up p)
    go false = record { rows = Refused p verb.Checkpoint (Busy (s.so_far.open_in p)) ∷ []; log = refl; fit = refl }
job_adds s p job.Rollback give l i m = go (s.so_far.open_in p == 0)
  where
    go : (b : Bool) → Adds (AreRowsOfCommand (s.instances + 1) p job.Rollback give.body (if b then None else Some (Busy (s.so_far.open_in p)))) s (if b then late_beginning s p true else after_refusal s p verb.Rollback (Busy (s.so_far.open_in p)))
    go true = begin_rolls s p give.body
    go false = record { rows = Refused p verb.Rollback (Busy (s.so_far.open_in p)) ∷ []; log = refl; fit = refl }
job_adds s p job.Fail give l i m = go (s.up p)
  where
    go : (b : Bool) → Adds (AreRowsOfCommand (s.instances + 1) p job.Fail give.body (if b then None else Some Down)) s (if b then after_failing s p else after_refusal s p verb.Fail Down)
    go true = record { rows = Failed p ∷ []; log = refl; fit = refl }
    go false = record { rows = Refused p verb.Fail Down ∷ []; log = refl; fit = refl }

-- what an enabled command is
pub record IsTurn (plan : Planned) (g : MachineProgress) (p : ℕ) (c : Command) : Type 0 where
  pub next : machine_next_command plan g p ≡ Some c
  pub low : p < g.state.processes
  pub fits : IsJobOf g.state.processes p c.job
  pub of_phase : c.phase ≡ g.phase
  pub may : may_do_job (g.state.so_far.open_in p == 0) c.job ≡ true

pub turn_of : (plan : Planned) (g : MachineProgress) (p : ℕ) (c : Command) → RunFacts plan g → machine_next_command plan g p ≡ Some c → (nat_lt p (length plan.names) && machine_may_do g p (Some c)) ≡ true → IsTurn plan g p c
turn_of plan g p c k e b = let t = tests p (length plan.names) c.phase g.phase (may_do_job (g.state.so_far.open_in p == 0) c.job) b in record {
  next = e;
  low = subst (λ (n : ℕ). p < n) (sym (state_facts plan g k).processes) t.0;
  fits = subst (λ (n : ℕ). IsJobOf n p c.job) (sym (state_facts plan g k).processes) o.1;
  of_phase = t.1;
  may = t.2;
}
  where
    tests : (p n x y : ℕ) (b : Bool) → (nat_lt p n && (x == y && b)) ≡ true → (p < n) × (x ≡ y) × (b ≡ true)
    tests p n x y b e = grind (arith, nat_tests, e)

    o : Ordered (length plan.names) p g.phase (c ∷ (after_front plan g p c e).0)
    o = subst (λ (l : List Command). Ordered (length plan.names) p g.phase l) (after_front plan g p c e).1 (k.ahead p)

few_begun : (p k : ℕ) (x y : Event) (more rows : List Event) → AreDecidingRows p k more → rows ≡ x ∷ y ∷ more → length rows ≤ 4
few_begun p k x y more rows f e = let a = few_ends p k more f in rw e (omega (arith, a))

few_do : (k p : ℕ) (j : Job) (z : ℤ) (o : Option Cause) (rows : List Event) → AreRowsOfCommand k p j z o rows → length rows ≤ 4
few_do k p j z (Some c) rows e = rw e (omega arith)
few_do k p (job.Send q b) z None rows e = rw e (omega arith)
few_do k p job.Checkpoint z None rows e = few_begun p k _ _ e.0 rows e.1 e.2
few_do k p job.Rollback z None rows e = few_begun p k _ _ e.0 rows e.1 e.2
few_do k p job.Fail z None rows e = rw e (omega arith)

few_command : (s : State) (p : ℕ) (give : Give) (o : Option Command) (rows : List Event) → AreMachineRowsOfDo s p give o rows → length rows ≤ 4
few_command s p give None rows e = rw e (omega arith)
few_command s p give (Some c) rows e = few_do (s.instances + 1) p c.job give.body (machine_refusal_cause s p give.able c.job) rows e

few_message : (s s' : State) (p q m : ℕ) (r u : Bool) (rows : List Event) → AreMachineRowsOfMessage s s' p q m r u rows → length rows ≤ 4
few_message s s' p q m true u rows e = let x = e.0 in rw x (omega arith)
few_message s s' p q m false true rows e = rw e (omega arith)
few_message s s' p q m false false rows e = rw e (omega arith)

few_take : (s s' : State) (p q : ℕ) (l : List Parcel) (rows : List Event) → AreMachineRowsOfTake s s' p q l rows → length rows ≤ 4
few_take s s' p q [] rows e = rw e (omega arith)
few_take s s' p q (App m ∷ rest) rows e = few_message s s' p q m (is_ready s p) (s.up p) rows e
few_take s s' p q (Ask k l ∷ rest) rows e = let x = e.1 in omega (arith, x)
few_take s s' p q (Reply k w ∷ rest) rows e = let x = e.1 in omega (arith, x)
few_take s s' p q (Decide k c ∷ rest) rows e = let x = e.1 in omega (arith, x)

pub adds : (plan : Planned) (g : MachineProgress) (x : Step) (give : Give) → RunFacts plan g → machine_enabled plan g x ≡ true → AddsMachineRows plan g x give
adds plan g (Do p) give k b = record { rows = y.0; log = y.1; fit = y.2; few = few_command g.state p give (machine_next_command plan g p) y.0 y.2 }
  where
    go : (o : Option Command) → machine_next_command plan g p ≡ o → (nat_lt p (length plan.names) && machine_may_do g p o) ≡ true → (l : List Event) × ((machine_after_command plan g p give o).state.log ≡ g.state.log ++ l) × AreMachineRowsOfDo g.state p give o l
    go None e f = absurd (never_both (nat_lt p (length plan.names)) f)
    go (Some c) e f =
        let t = turn_of plan g p c k e f in
        let a = job_adds g.state p c.job give t.low t.fits t.may in
        let s = opened_command plan g p give c k e in
        (a.rows, ap (λ (s : State). s.log) s.state ∙ a.log, a.fit)

    y : (l : List Event) × ((after_machine_step plan g (Do p) give).state.log ≡ g.state.log ++ l) × AreMachineRowsOfDo g.state p give (machine_next_command plan g p) l
    y = go (machine_next_command plan g p) refl b
adds plan g (Take p q) give k b =
    let s = opened_take plan g p q give k in
    let a = take_adds g.state p q give.able in
    record { rows = a.rows; log = ap (λ (s : State). s.log) s.state ∙ a.log; fit = subst (λ (t : State). AreMachineRowsOfTake g.state t p q (machine_list_taken g.state p q) a.rows) (sym s.state) a.fit; few = few_take g.state (late_step g.state (machine.Take p q give.able)) p q (machine_list_taken g.state p q) a.rows a.fit }
