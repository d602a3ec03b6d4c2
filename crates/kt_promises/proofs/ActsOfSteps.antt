-- What an enabled step of a run makes of the protocol's state, the rows that it adds and their acts.
use Rattle.std.proofs.Common.{◌≡◌, ◌≢◌, ℕ, ◌≤◌, Bool, true, false, List, [], ◌∷◌, ◌++◌, length, drop, append_assoc, refl, arith, sym, ap, subst, ◌∙◌, Some, None}
use Rattle.std.proofs.Math.Seq.{drop-append_seam}
use Rattle.std.specs.Prelude.{◌+◌, ◌==◌, ◌&&◌, not, nat_lt, Option, is_some, if◌then◌else◌, slice_get, fold}
use Rattle.kt_spacetime.specs.Events.{process_of}
use Rattle.kt_spacetime.specs.declared.event.Event.{Event}
use Rattle.kt_spacetime.specs.declared.event.Event.TheVariants.{Closed}
use Rattle.kt_meaning.specs.Legal.{IsLegal}
use Rattle.kt_meaning.specs.Past.{past, is_rollback, is_committed}
use Rattle.kt_protocol.specs.States.{State, opening}
use Rattle.kt_protocol.specs.States as machine
use Rattle.kt_protocol.proofs.Invariant.{Invariant}
use Rattle.kt_protocol.proofs.Updates.{is_other, is_same}
use Rattle.kt_protocol.proofs.LawfulSteps.{lawful_after_run}
use Rattle.kt_protocol.specs.LateSteps.{late_step}
use Rattle.kt_protocol.specs.OnceClosed.{once_closed}
use Rattle.kt_protocol.specs.KeptInOrder.{is_in_checkpoint}
use Rattle.kt_machine.specs.Labelling.{labelling}
use Rattle.kt_machine.specs.Seen.{no_part, part_of}
use Rattle.kt_machine.specs.Done.{Done, done, done_start, done_after}
use Rattle.kt_machine.specs.Values.{Rules, Due, Act, due, first_due, does_all, can_all, acts_along, acts_at, closing, spares}
use Rattle.kt_machine.specs.Acts.{acts, acts_by, stepper as protocol_stepper}
use Rattle.kt_machine.proofs.RunActs.{invariant_late, legal_next, step_law, whole_log}
use Rattle.kt_machine.proofs.Spares.{step_can}
use Rattle.kt_machine.proofs.ActCases.{two}
use Rattle.kt_machine.proofs.StepRows.{has_object, has_tentative}
use Rattle.kt_machine.proofs.AbortedSteps.{abort_acts, abort_keeps}
use Rattle.kt_machine.proofs.AddedRows.{Adds, adds_step}
use Rattle.kt_promises.specs.Rows.{has_took_row}
use Rattle.kt_plan.specs.Limits.{Planned, IsPlan}
use Rattle.kt_plan.specs.declared.commands.Job.{Job}
use Rattle.kt_plan.specs.declared.commands.Command.{Command}
use Rattle.kt_promises.proofs.MachineProgress.{MachineProgress, machine_next_command, world_of}
use Rattle.kt_plan.specs.declared.steps.Step.{Step}
use Rattle.kt_plan.specs.declared.steps.Step.TheVariants.{Do, Take}
use Rattle.kt_plan.specs.declared.steps.Give.{Give}
use Rattle.kt_promises.specs.Steps.{protocol_step, process_of_step, enabled, progress_after}
use Rattle.kt_plan.specs.declared.commands.Job.TheVariants as job
use Rattle.kt_promises.proofs.MachineSteps.{machine_after_command, after_machine_step, machine_enabled, machine_may_do}
use Rattle.kt_promises.proofs.RunFacts.{RunFacts, opened_command, opened_take}
use Rattle.kt_promises.proofs.InstancesBegun.{run_facts}
use Rattle.kt_promises.specs.Progress.{Progress}
use Rattle.kt_promises.specs.Runs.{RunReaches}
use Rattle.kt_promises.specs.StepActs.{rows_added, acts_of_step, keeps_only_first}
use Rattle.kt_promises.proofs.KeepsFirst.{take_keeps, deed_keeps, none_kept, took_keeps, spares_more}
use Rattle.kt_promises.proofs.SameSteps.{enabled_same, after_same}
use Rattle.kt_promises.proofs.ReachedRuns.{carry, log_of}
use Rattle.kt_promises.proofs.PhaseOrder.{never_both}

-- the protocol's step behind it
pub record BehindStep (plan : Planned) (g : MachineProgress) (x : Step) (give : Give) : Type 0 where
  pub step : machine.ProtocolStep
  pub state : (after_machine_step plan g x give).state ≡ late_step g.state step
  pub by : protocol_stepper step ≡ process_of_step x
  pub keeps : keeps_only_first give.able (acts g.state step) ≡ true

protocol_step_by : (p : ℕ) (j : Job) (give : Give) → protocol_stepper (protocol_step p j give) ≡ p
protocol_step_by p (job.Send q body) give = refl
protocol_step_by p job.Checkpoint give = refl
protocol_step_by p job.Rollback give = refl
protocol_step_by p job.Fail give = refl

pub behind_step : (plan : Planned) (g : MachineProgress) (x : Step) (give : Give) → RunFacts plan g → machine_enabled plan g x ≡ true → BehindStep plan g x give
behind_step plan g (Do p) give k e = go (machine_next_command plan g p) refl e
  where
    go : (o : Option Command) → machine_next_command plan g p ≡ o → (nat_lt p (length plan.names) && machine_may_do g p o) ≡ true → BehindStep plan g (Do p) give
    go None n f = absurd (never_both (nat_lt p (length plan.names)) f)
    go (Some c) n f = record { step = protocol_step p c.job give; state = ap (λ (o : Option Command). (machine_after_command plan g p give o).state) n ∙ (opened_command plan g p give c k n).state; by = protocol_step_by p c.job give; keeps = deed_keeps g.state p c.job give }
behind_step plan g (Take p q) give k e = record { step = machine.Take p q give.able; state = (opened_take plan g p q give k).state; by = refl; keeps = take_keeps g.state p q give.able }

-- what is known of the step and its rows
pub record Telling (plan : Planned) (first : ℕ) (g : MachineProgress) (x : Step) (give : Give) : Type 0 where
  pub on : machine_enabled plan g x ≡ true
  pub step : machine.ProtocolStep
  pub state : (after_machine_step plan g x give).state ≡ late_step g.state step
  pub by : protocol_stepper step ≡ process_of_step x
  pub keeps : keeps_only_first give.able (acts g.state step) ≡ true
  pub same : world_of first (after_machine_step plan g x give) ≡ progress_after plan (world_of first g) x give
  pub grows : (after_machine_step plan g x give).state.log ≡ g.state.log ++ rows_added plan (world_of first g) x give
  pub invariant : Invariant (once_closed g.state)
  pub legal : IsLegal (late_step g.state step).log
  pub acts : (p : ℕ) → acts_of_step plan (world_of first g) x give p ≡ acts_by p g.state step
  pub whose : (i : ℕ) (row : Event) → slice_get (rows_added plan (world_of first g) x give) i ≡ Some row → process_of row ≡ process_of_step x

pub telling : (plan : Planned) (first : ℕ) (g : MachineProgress) (x : Step) (give : Give) → RunFacts plan g → machine_enabled plan g x ≡ true → Telling plan first g x give
telling plan first g x give k e = record {
  on = e;
  step = m.step;
  state = m.state;
  by = m.by;
  keeps = m.keeps;
  same = after_same plan first g x give k;
  grows = ap (λ (s : State). s.log) m.state ∙ (a.log ∙ ap (λ (l : List Event). g.state.log ++ l) (sym rows_are));
  invariant = g_good;
  legal = g_legal;
  acts = λ p. ap (acts_along p (done g.state.log)) rows_are ∙ a.acts g_legal p;
  whose = λ i row e. a.by i row (ap (λ (l : List Event). slice_get l i) (sym rows_are) ∙ e) ∙ m.by;
}
  where
    m : BehindStep plan g x give
    m = behind_step plan g x give k e

    g_good : Invariant (once_closed g.state)
    g_good = subst (λ (s : State). Invariant (once_closed s)) (sym k.state_is) (invariant_late (length plan.names) k.steps)

    g_legal : IsLegal (late_step g.state m.step).log
    g_legal = subst (λ (s : State). IsLegal (late_step s m.step).log) (sym k.state_is) (legal_next (length plan.names) k.steps m.step)

    a : Adds (protocol_stepper m.step) g.state (late_step g.state m.step) (acts g.state m.step)
    a = adds_step g.state m.step g_good

    rows_are : rows_added plan (world_of first g) x give ≡ a.rows
    rows_are = ap (λ (w : Progress). drop (length g.state.log) w.now.log) (sym (after_same plan first g x give k)) ∙ (ap (λ (s : State). drop (length g.state.log) s.log) m.state ∙ (ap (drop (length g.state.log)) a.log ∙ drop-append_seam g.state.log a.rows))

pub tells : (plan : Planned) (first : ℕ) (w : Progress) (x : Step) (give : Give) (P : Progress → Type 0) → IsPlan plan → RunReaches plan first w → enabled plan w x ≡ true →
    ((g : MachineProgress) → RunFacts plan g → Telling plan first g x give → P (world_of first g)) → P w
tells plan first w x give P i r e f = carry plan first w (λ v. enabled plan v x ≡ true → P v) i r (λ g s b. let k = run_facts plan g s in f g k (telling plan first g x give k (sym (enabled_same plan first g x) ∙ b))) e

-- the log grows
pub log_grows : (plan : Planned) (first : ℕ) (w : Progress) (x : Step) (give : Give) → IsPlan plan → RunReaches plan first w → enabled plan w x ≡ true → (progress_after plan w x give).now.log ≡ w.now.log ++ rows_added plan w x give
log_grows plan first w x give i r e = tells plan first w x give (λ v. (progress_after plan v x give).now.log ≡ v.now.log ++ rows_added plan v x give) i r e
    (λ g k t. ap (λ (v : Progress). v.now.log) (sym t.same) ∙ t.grows)

-- what is due
pub values_lead : {V : Type 0} (r : Rules V) (plan : Planned) (first : ℕ) (w : Progress) (x : Step) (give : Give) (p : ℕ) → IsPlan plan → RunReaches plan first w → enabled plan w x ≡ true →
    does_all r (due r (done w.now.log) p) (acts_of_step plan w x give p) ≡ due r (done (progress_after plan w x give).now.log) p
values_lead {V} r plan first w x give p i s e = tells plan first w x give (λ v. does_all r (due r (done v.now.log) p) (acts_of_step plan v x give p) ≡ due r (done (progress_after plan v x give).now.log) p) i s e
    (λ g k t. ap (does_all r (due r (done g.state.log) p)) (t.acts p) ∙ (step_law r g.state t.step p t.invariant t.legal
    ∙ (ap (λ (y : State). due r (done y.log) p) (sym t.state) ∙ ap (λ (v : Progress). due r (done v.now.log) p) t.same)))

pub values_can : {V : Type 0} (r : Rules V) (plan : Planned) (first : ℕ) (w : Progress) (x : Step) (give : Give) (p : ℕ) → IsPlan plan → RunReaches plan first w → enabled plan w x ≡ true →
    can_all r (due r (done w.now.log) p) (acts_of_step plan w x give p) ≡ true
values_can {V} r plan first w x give p i s e = tells plan first w x give (λ v. can_all r (due r (done v.now.log) p) (acts_of_step plan v x give p) ≡ true) i s e
    (λ g k t. ap (can_all r (due r (done g.state.log) p)) (t.acts p) ∙ subst (λ (y : State). can_all r (due r (done y.log) p) (acts_by p y t.step) ≡ true) (sym k.state_is) (step_can r (length plan.names) k.steps t.step p))

pub others_idle : (plan : Planned) (first : ℕ) (w : Progress) (x : Step) (give : Give) (p : ℕ) → IsPlan plan → RunReaches plan first w → enabled plan w x ≡ true → p ≢ process_of_step x → acts_of_step plan w x give p ≡ []
others_idle plan first w x give p i s e n = tells plan first w x give (λ v. acts_of_step plan v x give p ≡ []) i s e
    (λ g k t. t.acts p ∙ ap (λ (b : Bool). if b then acts g.state t.step else []) (is_other p (protocol_stepper t.step) (λ y. n (y ∙ t.by))))

pub few_acts : (plan : Planned) (first : ℕ) (w : Progress) (x : Step) (give : Give) (p : ℕ) → IsPlan plan → RunReaches plan first w → enabled plan w x ≡ true → length (acts_of_step plan w x give p) ≤ 2
few_acts plan first w x give p i s e = tells plan first w x give (λ v. length (acts_of_step plan v x give p) ≤ 2) i s e
    (λ g k t. subst (λ (l : List Act). length l ≤ 2) (sym (t.acts p)) (both (p == protocol_stepper t.step) (acts g.state t.step) (two g.state t.step)))
  where
    both : (b : Bool) (l : List Act) → length l ≤ 2 → length (if b then l else []) ≤ 2
    both true l h = h
    both false l h = omega arith

-- an abort changes no object and no permanent state
pub abort_tells : (plan : Planned) (first : ℕ) (w : Progress) (x : Step) (give : Give) (i p k : ℕ) → IsPlan plan → RunReaches plan first w → enabled plan w x ≡ true →
    slice_get (progress_after plan w x give).now.log i ≡ Some (Closed p k) → length w.now.log ≤ i → is_committed (past (progress_after plan w x give).now.log) k ≡ false →
    acts_of_step plan w x give (process_of_step x) ≡ closing (is_rollback (past (progress_after plan w x give).now.log) k) false
abort_tells plan first w x give i p k a b e = tells plan first w x give (λ v. slice_get (progress_after plan v x give).now.log i ≡ Some (Closed p k) → length v.now.log ≤ i → is_committed (past (progress_after plan v x give).now.log) k ≡ false →
    acts_of_step plan v x give (process_of_step x) ≡ closing (is_rollback (past (progress_after plan v x give).now.log) k) false) a b e
    (λ g h t. subst (λ (log : List Event). slice_get log i ≡ Some (Closed p k) → length g.state.log ≤ i → is_committed (past log) k ≡ false → acts_of_step plan (world_of first g) x give (process_of_step x) ≡ closing (is_rollback (past log) k) false)
    (ap (λ (s : State). s.log) (sym t.state) ∙ ap (λ (v : Progress). v.now.log) t.same)
    (λ y l c. t.acts (process_of_step x) ∙ (ap (λ (z : Bool). if z then acts g.state t.step else []) (here (process_of_step x) (protocol_stepper t.step) (sym t.by)) ∙ abort_acts g.state t.step t.invariant t.legal i p k y l c)))
  where
    here : (m n : ℕ) → m ≡ n → (m == n) ≡ true
    here m n e = rw e (is_same n)

pub abort_stays : {V : Type 0} (r : Rules V) (plan : Planned) (first : ℕ) (w : Progress) (x : Step) (give : Give) (i p k u : ℕ) → IsPlan plan → RunReaches plan first w → enabled plan w x ≡ true →
    slice_get (progress_after plan w x give).now.log i ≡ Some (Closed p k) → length w.now.log ≤ i → is_committed (past (progress_after plan w x give).now.log) k ≡ false →
    ((due r (done (progress_after plan w x give).now.log) u).object ≡ (due r (done w.now.log) u).object) × ((due r (done (progress_after plan w x give).now.log) u).permanent ≡ (due r (done w.now.log) u).permanent)
abort_stays {V} r plan first w x give i p k u a b e = tells plan first w x give (λ v. slice_get (progress_after plan v x give).now.log i ≡ Some (Closed p k) → length v.now.log ≤ i → is_committed (past (progress_after plan v x give).now.log) k ≡ false →
    ((due r (done (progress_after plan v x give).now.log) u).object ≡ (due r (done v.now.log) u).object) × ((due r (done (progress_after plan v x give).now.log) u).permanent ≡ (due r (done v.now.log) u).permanent)) a b e
    (λ g h t. subst (λ (log : List Event). slice_get log i ≡ Some (Closed p k) → length g.state.log ≤ i → is_committed (past log) k ≡ false → ((due r (done log) u).object ≡ (due r (done g.state.log) u).object) × ((due r (done log) u).permanent ≡ (due r (done g.state.log) u).permanent))
    (ap (λ (s : State). s.log) (sym t.state) ∙ ap (λ (v : Progress). v.now.log) t.same)
    (λ y l c. abort_keeps g.state t.step t.invariant t.legal r i p k u y l c))

-- who has an object, and a tentative state
pub object_seen : {V : Type 0} (r : Rules V) (plan : Planned) (first : ℕ) (w : Progress) (p : ℕ) → IsPlan plan → RunReaches plan first w → is_some (due r (done w.now.log) p).object ≡ (w.now.states p).up
object_seen {V} r plan first w p a b = carry plan first w (λ v. is_some (due r (done v.now.log) p).object ≡ (v.now.states p).up) a b
    (λ g s. let k = run_facts plan g s in subst (λ (y : State). is_some (due r (done y.log) p).object ≡ y.up p) (sym k.state_is) (has_object r (length plan.names) k.steps p))

pub tentative_seen : {V : Type 0} (r : Rules V) (plan : Planned) (first : ℕ) (w : Progress) (p : ℕ) → IsPlan plan → RunReaches plan first w → is_some (due r (done w.now.log) p).tentative ≡ (not ((w.now.states p).inst == 0) && not (w.now.states p).part.is_rollback)
tentative_seen {V} r plan first w p a b = carry plan first w (λ v. is_some (due r (done v.now.log) p).tentative ≡ (not ((v.now.states p).inst == 0) && not (v.now.states p).part.is_rollback)) a b
    (λ g s. let k = run_facts plan g s in subst (λ (y : State). is_some (due r (done y.log) p).tentative ≡ is_in_checkpoint y.so_far p) (sym k.state_is) (has_tentative r (length plan.names) k.steps p) ∙ go g (g.state.so_far.open_in p == 0))
  where
    go : (g : MachineProgress) (z : Bool) → (not z && not (g.state.so_far.is_rollback (g.state.so_far.open_in p))) ≡ (not z && not (if z then no_part else part_of (labelling first g.state.log) g.state p (g.state.so_far.open_in p)).is_rollback)
    go g true = refl
    go g false = refl

along_more : (p : ℕ) (d : Done) (rows more : List Event) → acts_along p d (rows ++ more) ≡ acts_along p d rows ++ acts_along p (fold done_after d rows) more
along_more p d [] more = refl
along_more p d (row ∷ rows) more = ap (λ (a : List Act). acts_at p d row ++ a) (along_more p (done_after d row) rows more) ∙ sym (append_assoc (acts_at p d row) (acts_along p (done_after d row) rows) (acts_along p (fold done_after (done_after d row) rows) more))

-- the acts of the whole log, one step more
pub acts_more : (plan : Planned) (first : ℕ) (w : Progress) (x : Step) (give : Give) (p : ℕ) → IsPlan plan → RunReaches plan first w → enabled plan w x ≡ true →
    acts_along p done_start (progress_after plan w x give).now.log ≡ acts_along p done_start w.now.log ++ acts_of_step plan w x give p
acts_more plan first w x give p i s e = ap (acts_along p done_start) (log_grows plan first w x give i s e) ∙ along_more p done_start w.now.log (rows_added plan w x give)

-- the rows of a step are its process's
pub rows_of_one : (plan : Planned) (first : ℕ) (w : Progress) (x : Step) (give : Give) (i : ℕ) (row : Event) → IsPlan plan → RunReaches plan first w → enabled plan w x ≡ true → slice_get (rows_added plan w x give) i ≡ Some row → process_of row ≡ process_of_step x
rows_of_one plan first w x give i row a b e = tells plan first w x give (λ v. slice_get (rows_added plan v x give) i ≡ Some row → process_of row ≡ process_of_step x) a b e (λ g k t. t.whose i row)

-- what is kept
pub keeps_seen : (plan : Planned) (first : ℕ) (w : Progress) (x : Step) (give : Give) (p : ℕ) → IsPlan plan → RunReaches plan first w → enabled plan w x ≡ true → keeps_only_first give.able (acts_of_step plan w x give p) ≡ true
keeps_seen plan first w x give p a b e = tells plan first w x give (λ v. keeps_only_first give.able (acts_of_step plan v x give p) ≡ true) a b e
    (λ g k t. ap (keeps_only_first give.able) (t.acts p) ∙ both (p == protocol_stepper t.step) (acts g.state t.step) t.keeps)
  where
    both : (b : Bool) (l : List Act) → keeps_only_first give.able l ≡ true → keeps_only_first give.able (if b then l else []) ≡ true
    both true l k = k
    both false l k = refl

-- where a state can't be saved, none is taken
pub none_took : (plan : Planned) (first : ℕ) (w : Progress) (x : Step) (give : Give) → IsPlan plan → RunReaches plan first w → enabled plan w x ≡ true → give.able ≡ false → has_took_row (rows_added plan w x give) ≡ false
none_took plan first w x give a b e f = took_keeps (process_of_step x) (done w.now.log) (rows_added plan w x give) (λ i row h. rows_of_one plan first w x give i row a b e h)
    ∙ none_kept (acts_of_step plan w x give (process_of_step x)) (ap (λ (t : Bool). keeps_only_first t (acts_of_step plan w x give (process_of_step x))) (sym f) ∙ keeps_seen plan first w x give (process_of_step x) a b e)

-- the spares that a step takes
pub spares_next : {V : Type 0} (r : Rules V) (plan : Planned) (first : ℕ) (w : Progress) (x : Step) (give : Give) (p : ℕ) → IsPlan plan → RunReaches plan first w → enabled plan w x ≡ true →
    spares r (first_due r) (acts_along p done_start (progress_after plan w x give).now.log) ≡ spares r (first_due r) (acts_along p done_start w.now.log) + spares r (due r (done w.now.log) p) (acts_of_step plan w x give p)
spares_next r plan first w x give p a b e = ap (spares r (first_due r)) (acts_more plan first w x give p a b e)
    ∙ (spares_more r (first_due r) (acts_along p done_start w.now.log) (acts_of_step plan w x give p)
    ∙ ap (λ (d : Due _). spares r (first_due r) (acts_along p done_start w.now.log) + spares r d (acts_of_step plan w x give p)) (whole_log r w.now.log p (log_of plan first w IsLegal a b (λ y. (lawful_after_run (length plan.names) y).legal))))
