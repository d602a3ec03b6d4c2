-- What late steps add to the log.
use Rattle.std.proofs.Common.{◌≡◌, inl, inr, ℕ, ◌≤◌, length, Bool, true, false, List, [], ◌∷◌, ◌++◌, refl, arith, sym, ap, ◌∙◌, append_assoc, append-nil}
use Rattle.std.specs.Prelude.{◌==◌, ◌&&◌, not, if◌then◌else◌}
use Rattle.kt_spacetime.specs.declared.event.Event.{Event}
use Rattle.kt_spacetime.specs.declared.event.Event.TheVariants.{Received, Dropped, Took, Ready, Unwilling, Decided, Closed}
use Rattle.kt_base.specs.declared.words.Cause.TheVariants.{Busy}
use Rattle.kt_protocol.specs.LateClosing.{late_deciding_as, late_deciding, late_closing_checkpoint, late_closing_rollback, late_closing}
use Rattle.kt_protocol.specs.LateSteps.{late_settling, late_ask, late_front}
use Rattle.kt_protocol.proofs.Choices.{at_if}
use Rattle.kt_protocol.proofs.Updates.{is_same}
use Rattle.kt_protocol.specs.Deciding.{after_decision, none_of}
use Rattle.kt_protocol.specs.Joining.{after_joining_checkpoint, after_joining_rollback, must_take, must_roll}
use Rattle.kt_protocol.specs.Messages.{after_arrival, after_receiving, after_dropping, after_holding}
use Rattle.kt_protocol.specs.Parcels.{Parcel, App, Ask, Reply, Decide, Lists, with_parcel, with_rest}
use Rattle.kt_protocol.specs.Replies.{after_noting, after_reply, unable_cause}
use Rattle.kt_protocol.specs.States.{State, is_ready}
use Rattle.kt_promises.specs.Rows.{AreDecidingRows, AreInstanceRows, are_instance_rows, is_instance_row}
use Rattle.kt_promises.proofs.MachineRows.{AreMachineRowsOfMessage, AreMachineRowsOfTake}

-- s' has the rows of s, and then some that are so
pub record Adds (P : List Event → Type 0) (s s' : State) : Type 0 where
  pub rows : List Event
  pub log : s'.log ≡ s.log ++ rows
  pub fit : P rows

pub stays : (P : List Event → Type 0) (s s' : State) → s'.log ≡ s.log → P [] → Adds P s s'
stays P s s' e f = record { rows = []; log = e ∙ sym (append-nil s.log); fit = f }

-- one row after others
pub more : (P Q : List Event → Type 0) (s s' s'' : State) (first : List Event) → s'.log ≡ s.log ++ first → ((rows : List Event) → P rows → Q (first ++ rows)) → Adds P s' s'' → Adds Q s s''
more P Q s s' s'' first e f a = record { rows = first ++ a.rows; log = a.log ∙ (ap (λ (l : List Event). l ++ a.rows) e ∙ append_assoc s.log first a.rows); fit = f a.rows a.fit }

pub deciding_log : (s : State) (p k : ℕ) (c roll : Bool) → (late_deciding_as c roll s p k).log ≡ s.log ++ Decided p k c ∷ []
deciding_log s p k false roll = refl
deciding_log s p k true roll = refl

pub closing_log : (s : State) (p k : ℕ) (c : Bool) → (late_closing s p k c).log ≡ s.log ++ Closed p k ∷ []
closing_log s p k c = at_if (λ (t : State). t.log ≡ s.log ++ Closed p k ∷ []) (s.so_far.is_rollback k) _ _ (λ _. rolls c) (λ _. takes c)
  where
    rolls : (c : Bool) → (late_closing_rollback s p k c).log ≡ s.log ++ Closed p k ∷ []
    rolls true = refl
    rolls false = refl

    takes : (c : Bool) → (late_closing_checkpoint s p k c).log ≡ s.log ++ Closed p k ∷ []
    takes true = refl
    takes false = refl

pub settling_adds : (s : State) (p k : ℕ) → Adds (AreDecidingRows p k) s (late_settling s p k)
settling_adds s p k = at_if (Adds (AreDecidingRows p k) s) (none_of s.processes (s.awaits k p)) _ _
    (λ _. at_if (Adds (AreDecidingRows p k) s) (p == s.initiator k) _ _
    (λ _. record {
      rows = Decided p k (s.all_willing k p) ∷ Closed p k ∷ [];
      log = closing_log (late_deciding s p k) p k (s.all_willing k p) ∙ (ap (λ (l : List Event). l ++ Closed p k ∷ []) (deciding_log s p k (s.all_willing k p) (s.so_far.is_rollback k)) ∙ append_assoc s.log (Decided p k (s.all_willing k p) ∷ []) (Closed p k ∷ []));
      fit = inr (s.all_willing k p, refl);
    })
    (λ _. stays (AreDecidingRows p k) s _ refl (inl refl)))
    (λ _. stays (AreDecidingRows p k) s _ refl (inl refl))

abbrev pub Parts : ℕ → List Event → Type 0
Parts p rows = AreInstanceRows p rows

ends_part : (p k : ℕ) (rows : List Event) → AreDecidingRows p k rows → Parts p rows
ends_part p k rows e = elim e [ inl x ↦ rw x (refl, omega arith) | inr x ↦ (let y = x.1 in let z = is_same p in rw y (rw z (refl, omega arith))) ]

pub few_ends : (p k : ℕ) (rows : List Event) → AreDecidingRows p k rows → length rows ≤ 2
few_ends p k rows e = elim e [ inl x ↦ rw x (omega arith) | inr x ↦ (let y = x.1 in rw y (omega arith)) ]

-- one row of p's, before an ending
then_ends : (p k : ℕ) (x : Event) (rows : List Event) → is_instance_row p x ≡ true → AreDecidingRows p k rows → Parts p (x ∷ rows)
then_ends p k x rows e f = let a = (ends_part p k rows f).0 in let b = few_ends p k rows f in (both (is_instance_row p x) (are_instance_rows p rows) e a, omega (arith, b))
  where
    both : (a b : Bool) → a ≡ true → b ≡ true → (a && b) ≡ true
    both a b e f = rw (e, f) refl

one_part : (p : ℕ) (x : Event) → is_instance_row p x ≡ true → Parts p (x ∷ [])
one_part p x e = (rw e refl, omega arith)

settling_parts : (s : State) (p k : ℕ) → Adds (Parts p) s (late_settling s p k)
settling_parts s p k = let a = settling_adds s p k in record { rows = a.rows; log = a.log; fit = ends_part p k a.rows a.fit }

pub ask_adds : (s : State) (p q : ℕ) (able : Bool) (k l : ℕ) (rest : List Parcel) → Adds (Parts p) s (late_ask s p q able k l rest)
ask_adds s p q able k l rest = at_if (Adds (Parts p) s) (s.so_far.open_in p == k) _ _ (λ _. stays (Parts p) s _ refl (refl, omega arith))
    (λ _. at_if (Adds (Parts p) s) (not (s.so_far.open_in p == 0)) _ _ (λ _. record { rows = Unwilling p k (Busy (s.so_far.open_in p)) ∷ []; log = refl; fit = one_part p (Unwilling p k (Busy (s.so_far.open_in p))) (is_same p) })
    (λ _. at_if (Adds (Parts p) s) (s.so_far.is_rollback k) _ _
    (λ _. at_if (Adds (Parts p) s) (must_roll s p q l) _ _
    (λ _. more (AreDecidingRows p k) (Parts p) s (after_joining_rollback (after_noting s p q k l) (with_rest s.channel q p rest) p k false q (s.last_received p q)) _ (Ready p k ∷ []) refl (λ rows f. then_ends p k (Ready p k) rows (is_same p) f) (settling_adds (after_joining_rollback (after_noting s p q k l) (with_rest s.channel q p rest) p k false q (s.last_received p q)) p k))
    (λ _. stays (Parts p) s _ refl (refl, omega arith)))
    (λ _. at_if (Adds (Parts p) s) (not (must_take s p q l)) _ _ (λ _. stays (Parts p) s _ refl (refl, omega arith))
    (λ _. at_if (Adds (Parts p) s) (not (able && s.up p)) _ _ (λ _. record { rows = Unwilling p k (unable_cause (s.up p)) ∷ []; log = refl; fit = one_part p (Unwilling p k (unable_cause (s.up p))) (is_same p) })
    (λ _. more (AreDecidingRows p k) (Parts p) s (after_joining_checkpoint s (with_rest s.channel q p rest) p k false q l) _ (Took p k ∷ []) refl (λ rows f. then_ends p k (Took p k) rows (is_same p) f) (settling_adds (after_joining_checkpoint s (with_rest s.channel q p rest) p k false q l) p k))))))

pub arrival_adds : (s s' : State) (channel held : Lists) (p q m : ℕ) → Adds (AreMachineRowsOfMessage s s' p q m false (s.up p)) s (after_arrival s channel held p q m)
arrival_adds s s' channel held p q m = go (s.up p)
  where
    go : (b : Bool) → Adds (AreMachineRowsOfMessage s s' p q m false b) s (if b then after_receiving s channel held p q m else after_dropping s channel held p q m)
    go true = record { rows = Received p q m ∷ []; log = refl; fit = refl }
    go false = record { rows = Dropped p q m ∷ []; log = refl; fit = refl }

-- what p takes of a list
pub takes_of : (s : State) (p q : ℕ) (able : Bool) (l : List Parcel) → s.channel q p ≡ l → Adds (AreMachineRowsOfTake s (late_front s p q able l) p q l) s (late_front s p q able l)
unfolding with_parcel
takes_of s p q able [] e = stays _ s _ refl refl
takes_of s p q able (App m ∷ rest) e = go (is_ready s p)
  where
    here : (if q == q && p == p then s.held q p ++ App m ∷ [] else s.held q p) ≡ s.held q p ++ App m ∷ []
    here = let a = is_same q in let b = is_same p in rw (a, b) refl

    go : (b : Bool) → Adds (AreMachineRowsOfMessage s (if b then after_holding s p q m rest else after_arrival s (with_rest s.channel q p rest) s.held p q m) p q m b (s.up p)) s (if b then after_holding s p q m rest else after_arrival s (with_rest s.channel q p rest) s.held p q m)
    go true = stays (AreMachineRowsOfMessage s (after_holding s p q m rest) p q m true (s.up p)) s (after_holding s p q m rest) refl (refl, here)
    go false = arrival_adds s (after_arrival s (with_rest s.channel q p rest) s.held p q m) (with_rest s.channel q p rest) s.held p q m
takes_of s p q able (Ask k l ∷ rest) e = ask_adds s p q able k l rest
takes_of s p q able (Reply k w ∷ rest) e = let a = settling_parts (after_reply s p q k w rest) p k in record { rows = a.rows; log = a.log; fit = a.fit }
takes_of s p q able (Decide k c ∷ rest) e = at_if (Adds (Parts p) s) (s.so_far.open_in p == k) _ _
    (λ _. record { rows = Closed p k ∷ []; log = closing_log (after_decision s p q rest) p k c; fit = one_part p (Closed p k) (is_same p) })
    (λ _. stays (Parts p) s _ refl (refl, omega arith))
