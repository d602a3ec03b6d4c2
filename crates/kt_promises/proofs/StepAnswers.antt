-- Which command rows a step adds: its command's first row answers it, and there are no others.
use Rattle.std.proofs.Common.{◌≡◌, ℕ, ℤ, Bool, true, false, List, [], ◌∷◌, refl, ap, ap₂, Some, None, inl, inr}
use Rattle.std.specs.Prelude.{◌||◌, Option, unwrap_or}
use Rattle.kt_base.specs.declared.words.Cause.{Cause}
use Rattle.kt_spacetime.specs.declared.event.Event.{Event}
use Rattle.kt_spacetime.specs.declared.event.Event.TheVariants.{Sent, Began, Took, Ready, Failed, Refused}
use Rattle.kt_spacetime.specs.Events.{process_of}
use Rattle.kt_base.specs.declared.words.Kind.TheVariants as kind
use Rattle.kt_fifo.specs.declared.parcels.Parcel.{Parcel}
use Rattle.kt_fifo.specs.declared.parcels.Parcel.TheVariants.{App, Ask, Reply, Decide}
use Rattle.kt_meaning.proofs.RowRules.{both}
use Rattle.kt_machine.specs.Seen.{Seen}
use Rattle.kt_machine.specs.Transition.{is_seen_ready}
use Rattle.kt_plan.specs.declared.commands.Job.{Job}
use Rattle.kt_plan.specs.declared.commands.Job.TheVariants as job
use Rattle.kt_meaning.specs.Follows.{verb_of, is_command_row, AnswersJob}
use Rattle.kt_promises.specs.Rows.{AreDecidingRows, AreRowsOfCommand, is_instance_row, are_instance_rows, AreRowsOfMessage, AreRowsOfTake}
use Rattle.kt_promises.proofs.CommandRows.{has_command_row}

-- rows of a command: one that answers it, and others
pub record Answered (p : ℕ) (j : Job) (rows : List Event) : Type 0 where
  pub row : Event
  pub more : List Event
  pub are : rows ≡ row ∷ more
  pub kind : is_command_row row ≡ true
  pub by : process_of row ≡ p
  pub answers : AnswersJob j row
  pub rest : has_command_row more ≡ false

ends_none : (p k : ℕ) (l : List Event) → AreDecidingRows p k l → has_command_row l ≡ false
ends_none p k l e = elim e [ inl x ↦ ap has_command_row x | inr x ↦ ap has_command_row x.1 ]

may_send : (b : Option ℤ) (z : ℤ) → unwrap_or b z ≡ unwrap_or b (unwrap_or b z)
may_send None z = refl
may_send (Some b) z = refl

pub answered : (k p : ℕ) (j : Job) (z : ℤ) (o : Option Cause) (rows : List Event) → AreRowsOfCommand k p j z o rows → Answered p j rows
answered k p j z (Some cause) rows e = record { row = Refused p (verb_of j) cause; more = []; are = e; kind = refl; by = refl; answers = refl; rest = refl }
answered k p (job.Send q b) z None rows e = record { row = Sent p q (unwrap_or b z); more = []; are = e; kind = refl; by = refl; answers = (refl, may_send b z); rest = refl }
answered k p job.Checkpoint z None rows e = record { row = Began p k kind.Checkpoint; more = Took p k ∷ e.0; are = e.2; kind = refl; by = refl; answers = tt; rest = ends_none p k e.0 e.1 }
answered k p job.Rollback z None rows e = record { row = Began p k kind.Rollback; more = Ready p k ∷ e.0; are = e.2; kind = refl; by = refl; answers = tt; rest = ends_none p k e.0 e.1 }
answered k p job.Fail z None rows e = record { row = Failed p; more = []; are = e; kind = refl; by = refl; answers = tt; rest = refl }

-- rows of a take: no command row
part_none : (p : ℕ) (row : Event) → is_instance_row p row ≡ true → is_command_row row ≡ false
part_none p (Sent u q body) e = absurd (cc (e))
part_none p (Began u k kind) e = absurd (cc (e))
part_none p (Failed u) e = absurd (cc (e))
part_none p (Refused u verb cause) e = absurd (cc (e))
part_none p _ e = refl

parts_none : (p : ℕ) (l : List Event) → are_instance_rows p l ≡ true → has_command_row l ≡ false
parts_none p [] e = refl
parts_none p (x ∷ l) e = let b = both (is_instance_row p x) (are_instance_rows p l) e in ap₂ (λ (s t : Bool). s || t) (part_none p x b.0) (parts_none p l b.1)

message_none : (v v' : Seen) (p q m : ℕ) (x : Parcel) (r u : Bool) (l : List Event) → AreRowsOfMessage v v' p q x m r u l → has_command_row l ≡ false
message_none v v' p q m x true u l e = ap has_command_row e.0
message_none v v' p q m x false true l e = ap has_command_row e
message_none v v' p q m x false false l e = ap has_command_row e

pub take_none : (v v' : Seen) (p q : ℕ) (from : List Parcel) (l : List Event) → AreRowsOfTake v v' p q from l → has_command_row l ≡ false
take_none v v' p q [] l e = ap has_command_row e
take_none v v' p q (App a m body ∷ rest) l e = message_none v v' p q m (App a m body) (is_seen_ready v p) (v.states p).up l e
take_none v v' p q (Ask k kind a ∷ rest) l e = parts_none p l e.0
take_none v v' p q (Reply k w ∷ rest) l e = parts_none p l e.0
take_none v v' p q (Decide k c ∷ rest) l e = parts_none p l e.0
