-- The rows that each enabled step of a run adds.
use Rattle.std.proofs.Common.{◌≡◌, ℕ, ℤ, ◌+◌, ◌≤◌, Bool, true, false, List, [], ◌∷◌, ◌++◌, length, drop, refl, sym, ap, subst, ◌∙◌, Some, None}
use Rattle.std.proofs.Math.Seq.{drop-append_seam}
use Rattle.std.specs.Prelude.{◌&&◌, not, if◌then◌else◌, Option}
use Rattle.kt_base.specs.declared.words.Cause.{Cause}
use Rattle.kt_fifo.specs.declared.parcels.Parcel.{Parcel as CodeParcel}
use Rattle.kt_fifo.specs.declared.parcels.Parcel.TheVariants as code
use Rattle.kt_spacetime.specs.declared.event.Event.{Event}
use Rattle.kt_protocol.specs.Parcels.{Parcel, App, Ask, Reply, Decide}
use Rattle.kt_protocol.specs.States.{State}
use Rattle.kt_protocol.specs.States as machine
use Rattle.kt_protocol.specs.Parcels as protocol_parcels
use Rattle.kt_protocol.proofs.Updates.{is_same}
use Rattle.kt_machine.specs.Labelling.{labelling}
use Rattle.kt_machine.specs.Seen.{Seen, seen_parcels, seen}
use Rattle.kt_machine.specs.ListChanges.{with_parcel}
use Rattle.kt_machine.specs.Transition.{is_seen_ready, transition}
use Rattle.kt_plan.specs.Limits.{Planned, IsPlan}
use Rattle.kt_plan.specs.declared.commands.Job.{Job}
use Rattle.kt_plan.specs.declared.commands.Command.{Command}
use Rattle.kt_promises.proofs.MachineProgress.{MachineProgress, machine_next_command, world_of}
use Rattle.kt_plan.specs.declared.steps.Step.{Step}
use Rattle.kt_plan.specs.declared.steps.Step.TheVariants.{Do, Take}
use Rattle.kt_plan.specs.declared.steps.Give.{Give}
use Rattle.kt_promises.specs.Rows.{AreRowsOfCommand, has_took_row, refusal_cause, list_taken, AreRowsOfMessage, AreRowsOfTake, AreRowsOfDo, AreRowsOfStep}
use Rattle.kt_promises.specs.Looks.{uses_able, look}
use Rattle.kt_plan.specs.declared.commands.Job.TheVariants as job
use Rattle.kt_promises.proofs.MachineSteps.{after_machine_step}
use Rattle.kt_promises.proofs.MachineRows.{AreMachineRowsOfDo, AreMachineRowsOfMessage, AreMachineRowsOfStep, AreMachineRowsOfTake, machine_list_taken, machine_refusal_cause}
use Rattle.kt_promises.proofs.StepRows.{adds}
use Rattle.kt_promises.proofs.CheckpointsTaken.{takes_checkpoint_where_asked}
use Rattle.kt_promises.specs.Progress.{Progress}
use Rattle.kt_promises.specs.Steps.{enabled, progress_after}
use Rattle.kt_promises.specs.Runs.{RunReaches}
use Rattle.kt_promises.specs.StepActs.{rows_added}
use Rattle.kt_promises.proofs.SameTallies.{ready_same, held_any}
use Rattle.kt_promises.proofs.SameLooks.{look_same}
use Rattle.kt_promises.proofs.PhasesOpen.{takes_is}
use Rattle.kt_promises.proofs.ActsOfSteps.{Telling, tells, none_took}

cause_same : (first : ℕ) (s : State) (p : ℕ) (able : Bool) (j : Job) → refusal_cause ((seen first s).states p) able j ≡ machine_refusal_cause s p able j
cause_same first s p able (job.Send q body) = refl
cause_same first s p able job.Checkpoint = refl
cause_same first s p able job.Rollback = refl
cause_same first s p able job.Fail = refl

do_fits : (first : ℕ) (s : State) (p : ℕ) (give : Give) (o : Option Command) (l : List Event) → AreMachineRowsOfDo s p give o l → AreRowsOfDo (seen first s) p give o l
do_fits first s p give None l e = e
do_fits first s p give (Some c) l e = subst (λ (x : Option Cause). AreRowsOfCommand (s.instances + 1) p c.job give.body x l) (sym (cause_same first s p give.able c.job)) e

-- a process in a rollback holds the message that it takes
held_after : (v : Seen) (p q : ℕ) (able : Bool) (label m : ℕ) (body : ℤ) (rest : List CodeParcel) → is_seen_ready v p ≡ true → v.channel q p ≡ code.App label m body ∷ rest →
    (transition v (machine.Take p q able)).held q p ≡ v.held q p ++ code.App label m body ∷ []
unfolding with_parcel
held_after v p q able label m body rest r e = rw (r, e, r, is_same q, is_same p) refl

-- the list that a step takes from
pick : {X Y : Type 0} (f : X → Y) (b : Bool) (x y : X) → (if b then f x else f y) ≡ f (if b then x else y)
pick f true x y = refl
pick f false x y = refl

list_same : (first : ℕ) (s : State) (p q : ℕ) → list_taken (seen first s) p q ≡ seen_parcels (labelling first s.log).label (labelling first s.log).body s.so_far.is_rollback (machine_list_taken s p q)
list_same first s p q = (λ i. if not (ready_same first s p i) && held_any first s q p i then (seen first s).held q p else (seen first s).channel q p)
    ∙ pick (seen_parcels (labelling first s.log).label (labelling first s.log).body s.so_far.is_rollback) (not (machine.is_ready s p) && protocol_parcels.has_parcel (s.held q p)) (s.held q p) (s.channel q p)

message_fits : (v v' : Seen) (s s' : State) (p q m : ℕ) (x : CodeParcel) (r u : Bool) (l : List Event) → (r ≡ true → v'.held q p ≡ v.held q p ++ x ∷ []) → AreMachineRowsOfMessage s s' p q m r u l → AreRowsOfMessage v v' p q x m r u l
message_fits v v' s s' p q m x true u l h e = (e.0, h refl)
message_fits v v' s s' p q m x false true l h e = e
message_fits v v' s s' p q m x false false l h e = e

module _ (first : ℕ) (s s' : State) (v' : Seen) (p q : ℕ) where
  take_fits : (l : List Parcel) (more : List Event) → ((label m : ℕ) (body : ℤ) (rest : List CodeParcel) → is_seen_ready (seen first s) p ≡ true → seen_parcels (labelling first s.log).label (labelling first s.log).body s.so_far.is_rollback l ≡ code.App label m body ∷ rest → v'.held q p ≡ (seen first s).held q p ++ code.App label m body ∷ []) →
      AreMachineRowsOfTake s s' p q l more → AreRowsOfTake (seen first s) v' p q (seen_parcels (labelling first s.log).label (labelling first s.log).body s.so_far.is_rollback l) more
  unfolding seen_parcels
  take_fits [] l h e = e
  take_fits (App m ∷ rest) l h e = subst (λ (r : Bool). AreRowsOfMessage (seen first s) v' p q (code.App ((labelling first s.log).label m) m ((labelling first s.log).body m)) m r (s.up p) l) (sym (ready_same first s p))
      (message_fits (seen first s) v' s s' p q m (code.App ((labelling first s.log).label m) m ((labelling first s.log).body m)) (machine.is_ready s p) (s.up p) l
      (λ r. h ((labelling first s.log).label m) m ((labelling first s.log).body m) (seen_parcels (labelling first s.log).label (labelling first s.log).body s.so_far.is_rollback rest) (ready_same first s p ∙ r) refl) e)
  take_fits (Ask k a ∷ rest) l h e = e
  take_fits (Reply k w ∷ rest) l h e = e
  take_fits (Decide k c ∷ rest) l h e = e

step_fits : (plan : Planned) (first : ℕ) (g : MachineProgress) (x : Step) (give : Give) (l : List Event) → AreMachineRowsOfStep plan g x give l → AreRowsOfStep plan (world_of first g) x give l
step_fits plan first g (Do p) give l e = do_fits first g.state p give (machine_next_command plan g p) l e
step_fits plan first g (Take p q) give l e = subst (λ (x : List CodeParcel). AreRowsOfTake (seen first g.state) (progress_after plan (world_of first g) (Take p q) give).now p q x l) (sym (list_same first g.state p q))
    (take_fits first g.state (after_machine_step plan g (Take p q) give).state (progress_after plan (world_of first g) (Take p q) give).now p q (machine_list_taken g.state p q) l
    (λ label m body rest r f. ap (λ (v : Seen). v.held q p) (takes_is plan (world_of first g) p q give).now ∙ held_after (seen first g.state) p q give.able label m body rest r (from_chan r ∙ f))
    e)
  where
    from_chan : is_seen_ready (seen first g.state) p ≡ true → (seen first g.state).channel q p ≡ seen_parcels (labelling first g.state.log).label (labelling first g.state.log).body g.state.so_far.is_rollback (machine_list_taken g.state p q)
    from_chan r = ap (λ (b : Bool). seen_parcels (labelling first g.state.log).label (labelling first g.state.log).body g.state.so_far.is_rollback (if not b && protocol_parcels.has_parcel (g.state.held q p) then g.state.held q p else g.state.channel q p)) (sym (sym (ready_same first g.state p) ∙ r))

rows_of : (plan : Planned) (first : ℕ) (g : MachineProgress) (x : Step) (give : Give) (l : List Event) → Telling plan first g x give → (after_machine_step plan g x give).state.log ≡ g.state.log ++ l → rows_added plan (world_of first g) x give ≡ l
rows_of plan first g x give l t e = ap (λ (w : Progress). drop (length g.state.log) w.now.log) (sym t.same) ∙ (ap (drop (length g.state.log)) e ∙ drop-append_seam g.state.log l)

-- the rows that a step adds are those that its command or parcel asks for
pub record FitsRows (plan : Planned) (w : Progress) (x : Step) (give : Give) : Type 0 where
  pub fit : AreRowsOfStep plan w x give (rows_added plan w x give)
  pub few : length (rows_added plan w x give) ≤ 4

pub fits : (plan : Planned) (first : ℕ) (w : Progress) (x : Step) (give : Give) → IsPlan plan → RunReaches plan first w → enabled plan w x ≡ true → FitsRows plan w x give
fits plan first w x give i r e = tells plan first w x give (λ v. enabled plan v x ≡ true → FitsRows plan v x give) i r e
    (λ g k t b. let a = adds plan g x give k t.on in let m = rows_of plan first g x give a.rows t a.log in record {
      fit = subst (AreRowsOfStep plan (world_of first g) x give) (sym m) (step_fits plan first g x give a.rows a.fit);
      few = subst (λ (l : List Event). length l ≤ 4) (sym m) a.few;
    }) e

-- what is taken, by what the step asks
pub took_seen : (plan : Planned) (first : ℕ) (w : Progress) (x : Step) (body : ℤ) → IsPlan plan → RunReaches plan first w → enabled plan w x ≡ true → has_took_row (rows_added plan w x (record { able = true; body = body })) ≡ uses_able (look plan w x)
took_seen plan first w x body i r e = tells plan first w x (record { able = true; body = body }) (λ v. has_took_row (rows_added plan v x (record { able = true; body = body })) ≡ uses_able (look plan v x)) i r e
    (λ g k t. let a = takes_checkpoint_where_asked plan g x body k t.on in ap has_took_row (rows_of plan first g x (record { able = true; body = body }) a.0 t a.1) ∙ (a.2 ∙ ap uses_able (sym (look_same plan first g x k))))

-- whatever is given
pub took_given : (plan : Planned) (first : ℕ) (w : Progress) (x : Step) (give : Give) → IsPlan plan → RunReaches plan first w → enabled plan w x ≡ true → has_took_row (rows_added plan w x give) ≡ (uses_able (look plan w x) && give.able)
took_given plan first w x give i r e = go give.able refl
  where
    both : (b : Bool) → (b && true) ≡ b
    both true = refl
    both false = refl

    none : (b : Bool) → (b && false) ≡ false
    none true = refl
    none false = refl

    go : (b : Bool) → give.able ≡ b → has_took_row (rows_added plan w x give) ≡ (uses_able (look plan w x) && b)
    go true f = ap (λ (b : Bool). has_took_row (rows_added plan w x (record { able = b; body = give.body }))) f ∙ (took_seen plan first w x give.body i r e ∙ sym (both (uses_able (look plan w x))))
    go false f = none_took plan first w x give i r e f ∙ sym (none (uses_able (look plan w x)))
