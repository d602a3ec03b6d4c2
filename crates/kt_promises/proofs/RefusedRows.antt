-- Each refused row that a step adds is that of its command, which could not be done.
use Rattle.std.proofs.Common.{◌≡◌, ℕ, ℤ, zero, suc, ◌+◌, ◌-◌, ◌≤◌, Bool, true, false, List, [], ◌∷◌, length, refl, arith, sym, ap, subst, inl, inr, ◌∙◌, Some, None}
use Rattle.std.specs.Prelude.{◌==◌, ◌&&◌, ◌||◌, Option, slice_get}
use Rattle.kt_base.specs.declared.words.Cause.{Cause}
use Rattle.kt_base.specs.declared.words.Verb.{Verb}
use Rattle.kt_fifo.specs.declared.parcels.Parcel.{Parcel}
use Rattle.kt_fifo.specs.declared.parcels.Parcel.TheVariants.{App, Ask, Reply, Decide}
use Rattle.kt_spacetime.specs.declared.event.Event.{Event}
use Rattle.kt_spacetime.specs.declared.event.Event.TheVariants.{Took, Ready, Unwilling, Decided, Closed, Refused}
use Rattle.kt_meaning.proofs.Items.{get_right}
use Rattle.kt_machine.specs.Seen.{Seen}
use Rattle.kt_machine.specs.Transition.{is_seen_ready}
use Rattle.kt_plan.specs.Limits.{Planned, IsPlan}
use Rattle.kt_plan.specs.declared.commands.Job.{Job}
use Rattle.kt_plan.specs.declared.commands.Command.{Command}
use Rattle.kt_plan.specs.declared.steps.Step.{Step}
use Rattle.kt_plan.specs.declared.steps.Step.TheVariants.{Do, Take}
use Rattle.kt_plan.specs.declared.steps.Give.{Give}
use Rattle.kt_meaning.specs.Follows.{verb_of}
use Rattle.kt_promises.specs.Rows.{AreDecidingRows, AreRowsOfCommand, are_instance_rows, refusal_cause, list_taken, AreRowsOfMessage, AreRowsOfTake, AreRowsOfDo, AreRowsOfStep, IsRefusedStep}
use Rattle.kt_plan.specs.declared.commands.Job.TheVariants as job
use Rattle.kt_promises.specs.Progress.{Progress, next_command}
use Rattle.kt_promises.specs.Steps.{enabled, progress_after}
use Rattle.kt_promises.specs.Runs.{RunReaches}
use Rattle.kt_promises.specs.StepActs.{rows_added}
use Rattle.kt_promises.proofs.ActsOfSteps.{log_grows}
use Rattle.kt_promises.proofs.RowsFit.{fits}

is_refused : Event → Bool
is_refused (Refused p verb cause) = true
is_refused _ = false

has_refused : List Event → Bool
has_refused [] = false
has_refused (x ∷ xs) = is_refused x || has_refused xs

or_right : (a b : Bool) → b ≡ true → (a || b) ≡ true
or_right true b e = refl
or_right false b e = e

there : (l : List Event) (i p : ℕ) (verb : Verb) (cause : Cause) → slice_get l i ≡ Some (Refused p verb cause) → has_refused l ≡ true
unfolding has_refused is_refused
there [] i p verb cause e = absurd (cc (e))
there (x ∷ l) zero p verb cause e = let y : x ≡ Refused p verb cause = cc (e) in rw y refl
there (x ∷ l) (suc i) p verb cause e = or_right (is_refused x) (has_refused l) (there l i p verb cause e)

right : (a b : Bool) → (a && b) ≡ true → b ≡ true
right true b e = e
right false b e = absurd (cc (e))

ends_none : (p k : ℕ) (l : List Event) → AreDecidingRows p k l → has_refused l ≡ false
unfolding has_refused is_refused
ends_none p k l e = elim e [ inl x ↦ rw x refl | inr x ↦ (let y = x.1 in rw y refl) ]

parts_none : (p : ℕ) (l : List Event) → are_instance_rows p l ≡ true → has_refused l ≡ false
unfolding has_refused is_refused
parts_none p [] e = refl
parts_none p (Took u k ∷ l) e = parts_none p l (right (u == p) (are_instance_rows p l) e)
parts_none p (Ready u k ∷ l) e = parts_none p l (right (u == p) (are_instance_rows p l) e)
parts_none p (Unwilling u k c ∷ l) e = parts_none p l (right (u == p) (are_instance_rows p l) e)
parts_none p (Decided u k c ∷ l) e = parts_none p l (right (u == p) (are_instance_rows p l) e)
parts_none p (Closed u k ∷ l) e = parts_none p l (right (u == p) (are_instance_rows p l) e)
parts_none p (_ ∷ l) e = absurd (cc (e))

message_none : (v v' : Seen) (p q m : ℕ) (x : Parcel) (r u : Bool) (l : List Event) → AreRowsOfMessage v v' p q x m r u l → has_refused l ≡ false
unfolding has_refused is_refused
message_none v v' p q m x true u l e = let y = e.0 in rw y refl
message_none v v' p q m x false true l e = rw e refl
message_none v v' p q m x false false l e = rw e refl

take_none : (v v' : Seen) (p q : ℕ) (from : List Parcel) (l : List Event) → AreRowsOfTake v v' p q from l → has_refused l ≡ false
unfolding has_refused is_refused
take_none v v' p q [] l e = rw e refl
take_none v v' p q (App a m body ∷ rest) l e = message_none v v' p q m (App a m body) (is_seen_ready v p) (v.states p).up l e
take_none v v' p q (Ask k kind a ∷ rest) l e = parts_none p l e.0
take_none v v' p q (Reply k w ∷ rest) l e = parts_none p l e.0
take_none v v' p q (Decide k c ∷ rest) l e = parts_none p l e.0

-- a command that is done
job_none : (k p : ℕ) (j : Job) (z : ℤ) (l : List Event) → AreRowsOfCommand k p j z None l → has_refused l ≡ false
unfolding has_refused is_refused
job_none k p (job.Send q b) z l e = rw e refl
job_none k p job.Checkpoint z l e = let y = e.2 in rw y (ends_none p k e.0 e.1)
job_none k p job.Rollback z l e = let y = e.2 in rw y (ends_none p k e.0 e.1)
job_none k p job.Fail z l e = rw e refl

not_both : (b : Bool) → b ≡ true → b ≡ false → ⊥
not_both b e f = cc (e, f)

-- the one row of a command that is refused
alone : (p u : ℕ) (word verb : Verb) (c cause : Cause) (i : ℕ) (l : List Event) → l ≡ Refused u word c ∷ [] → slice_get l i ≡ Some (Refused p verb cause) → (i ≡ 0) × (u ≡ p) × (word ≡ verb) × (c ≡ cause)
alone p u word verb c cause i l e f = go i (subst (λ (x : List Event). slice_get x i ≡ Some (Refused p verb cause)) e f)
  where
    go : (i : ℕ) → slice_get (Refused u word c ∷ []) i ≡ Some (Refused p verb cause) → (i ≡ 0) × (u ≡ p) × (word ≡ verb) × (c ≡ cause)
    go zero h = let y : Refused u word c ≡ Refused p verb cause = cc (h) in (refl, cc (y), cc (y), cc (y))
    go (suc n) h = absurd (cc (h))

nothing : (l : List Event) → l ≡ [] → has_refused l ≡ false
unfolding has_refused
nothing l e = rw e refl

-- a refused row among those of a step
record InStep (plan : Planned) (w : Progress) (x : Step) (give : Give) (i p : ℕ) (verb : Verb) (cause : Cause) : Type 0 where
  command : Command
  step : x ≡ Do p
  next : next_command plan w p ≡ Some command
  word : verb ≡ verb_of command.job
  at : i ≡ 0
  justified : refusal_cause (w.now.states p) give.able command.job ≡ Some cause

module _ (plan : Planned) (w : Progress) (give : Give) (i p : ℕ) (verb : Verb) (cause : Cause) (l : List Event) (row : slice_get l i ≡ Some (Refused p verb cause)) where
  by_cause : (u : ℕ) (c : Command) → next_command plan w u ≡ Some c → (o : Option Cause) → refusal_cause (w.now.states u) give.able c.job ≡ o → AreRowsOfCommand (w.now.begun + 1) u c.job give.body o l → InStep plan w (Do u) give i p verb cause
  by_cause u c n None y f = absurd (not_both (has_refused l) (there l i p verb cause row) (job_none (w.now.begun + 1) u c.job give.body l f))
  by_cause u c n (Some d) y f = let a = alone p u (verb_of c.job) verb d cause i l f row in record {
    command = c;
    step = ap Do a.1;
    next = ap (next_command plan w) (sym a.1) ∙ n;
    word = sym a.2;
    at = a.0;
    justified = ap (λ (v : ℕ). refusal_cause (w.now.states v) give.able c.job) (sym a.1) ∙ (y ∙ ap Some a.3);
  }

  by_command : (u : ℕ) (o : Option Command) → next_command plan w u ≡ o → AreRowsOfDo w.now u give o l → InStep plan w (Do u) give i p verb cause
  by_command u None n f = absurd (not_both (has_refused l) (there l i p verb cause row) (nothing l f))
  by_command u (Some c) n f = by_cause u c n (refusal_cause (w.now.states u) give.able c.job) refl f

  by_step : (x : Step) → AreRowsOfStep plan w x give l → InStep plan w x give i p verb cause
  by_step (Do u) f = by_command u (next_command plan w u) refl f
  by_step (Take u q) f = absurd (not_both (has_refused l) (there l i p verb cause row) (take_none w.now (progress_after plan w (Take u q) give).now u q (list_taken w.now u q) l f))

pub refused_seen : (plan : Planned) (first : ℕ) (w : Progress) (x : Step) (give : Give) (t p : ℕ) (verb : Verb) (cause : Cause) → IsPlan plan → RunReaches plan first w → enabled plan w x ≡ true →
    slice_get (progress_after plan w x give).now.log t ≡ Some (Refused p verb cause) → length w.now.log ≤ t → IsRefusedStep plan w x give t p verb cause
refused_seen plan first w x give t p verb cause i r e f l = record {
  command = s.command;
  step = s.step;
  next = s.next;
  word = s.word;
  row = (let z = s.at in omega (arith, l, z));
  justified = s.justified;
}
  where
    n : t ≡ length w.now.log + (t - length w.now.log)
    n = omega (arith, l)

    row : slice_get (rows_added plan w x give) (t - length w.now.log) ≡ Some (Refused p verb cause)
    row = sym (get_right w.now.log (rows_added plan w x give) (t - length w.now.log) t n) ∙ (ap (λ (y : List Event). slice_get y t) (sym (log_grows plan first w x give i r e)) ∙ f)

    s : InStep plan w x give (t - length w.now.log) p verb cause
    s = by_step plan w give (t - length w.now.log) p verb cause (rows_added plan w x give) row x (fits plan first w x give i r e).fit
