-- A step closes an instance by its last row alone, and an aborted one with that row's act alone.
use Rattle.std.proofs.Common.{◌≡◌, ℕ, ◌+◌, Bool, true, false, Some, List, [], ◌∷◌, ◌++◌, refl, sym, ap, ap₂, ◌∙◌, append_assoc, append-nil, inl, inr}
use Rattle.std.specs.Prelude.{slice_get}
use Rattle.kt_spacetime.specs.declared.event.Event.{Event}
use Rattle.kt_spacetime.specs.declared.event.Event.TheVariants.{Sent, Received, Dropped, Began, Took, Ready, Unwilling, Decided, Closed, Failed, Refused}
use Rattle.kt_meaning.proofs.Lists.{get_push}
use Rattle.kt_protocol.specs.Summary.{Summary, summary, summary_after}
use Rattle.kt_protocol.specs.States.{State, ProtocolStep}
use Rattle.kt_protocol.specs.Joining.{kind_for, after_began, after_joining_checkpoint, after_joining_rollback}
use Rattle.kt_protocol.specs.Messages.{after_sending, after_receiving, after_dropping, after_holding, after_failing, after_refusal}
use Rattle.kt_protocol.specs.Replies.{after_noting, after_answering}
use Rattle.kt_protocol.specs.Deciding.{after_decision}
use Rattle.kt_protocol.specs.Parcels.{with_rest}
use Rattle.kt_protocol.proofs.Invariant.{Invariant, summary_push}
use Rattle.kt_protocol.specs.LateClosing.{late_deciding, late_closing}
use Rattle.kt_protocol.specs.LateSteps.{late_step}
use Rattle.kt_protocol.specs.OnceClosed.{once_closed}
use Rattle.kt_machine.specs.Values.{Act, closing}
use Rattle.kt_machine.specs.Acts.{acts, stepper}
use Rattle.kt_machine.proofs.AddedRows.{decided_log, closed_log, began_known}
use Rattle.kt_machine.proofs.StepWalk.{Moves, walk, counted, replies_now, refuses_now}

abbrev pub is_closed : Event → Bool
is_closed (Closed p k) = true
is_closed _ = false

-- so far nothing is closed
pub record Open (c s : State) (a : List Act) : Type 0 where
  pub rows : List Event
  pub log : s.log ≡ c.log ++ rows
  pub known : s.so_far ≡ summary s.log
  pub none : (i : ℕ) (x : Event) → slice_get rows i ≡ Some x → is_closed x ≡ false

-- the last row may close
pub record Ends (c s : State) (a : List Act) : Type 0 where
  pub rows : List Event
  pub log : s.log ≡ c.log ++ rows
  pub each : (i p k : ℕ) → slice_get rows i ≡ Some (Closed p k) → (front : List Event) × (s.log ≡ front ++ Closed p k ∷ []) × ((summary front).is_committed k ≡ false → a ≡ closing ((summary front).is_rollback k) false)

module _ (p : ℕ) (c : State) where
  row : (s s' : State) (x : Event) (a a' : List Act) → s'.log ≡ s.log ++ x ∷ [] → s'.so_far ≡ summary_after s.so_far x → is_closed x ≡ false → Open c s a → Open c s' a'
  row s s' x a a' e h f i = record {
    rows = i.rows ++ x ∷ [];
    log = e ∙ (ap (λ (l : List Event). l ++ x ∷ []) i.log ∙ append_assoc c.log i.rows (x ∷ []));
    known = h ∙ (summary_push s.so_far s.log x i.known ∙ ap summary (sym e));
    none = λ j y g. elim (get_push i.rows x j y g) [ inl o ↦ i.none j y o | inr n ↦ ap is_closed (sym n.1) ∙ f ];
  }

  none : (s s' : State) (a : List Act) → s'.log ≡ s.log → s'.so_far ≡ s.so_far → Open c s a → Open c s' a
  none s s' a e h i = record { rows = i.rows; log = e ∙ i.log; known = h ∙ (i.known ∙ ap summary (sym e)); none = i.none }

  close : (s s' : State) (k : ℕ) (w : Bool) (a : List Act) → s'.log ≡ s.log ++ Closed p k ∷ [] → s.so_far.is_committed k ≡ w → (w ≡ false → a ≡ []) → Open c s a → Ends c s' (a ++ closing (s.so_far.is_rollback k) w)
  close s s' k w a e v h i = record {
    rows = i.rows ++ Closed p k ∷ [];
    log = e ∙ (ap (λ (l : List Event). l ++ Closed p k ∷ []) i.log ∙ append_assoc c.log i.rows (Closed p k ∷ []));
    each = λ j q l g. elim (get_push i.rows (Closed p k) j (Closed q l) g) [
      | inl o ↦ absurd (let x = i.none j (Closed q l) o in cc (x))
      | inr n ↦ (s.log, e ∙ ap (λ (x : Event). s.log ++ x ∷ []) n.1, λ f. acts_are l (same_inst l n.1) f)
    ];
  }
    where
      same_inst : {q : ℕ} (l : ℕ) → Closed p k ≡ Closed q l → k ≡ l
      same_inst l e = cc (e)

      acts_are : (l : ℕ) → k ≡ l → (summary s.log).is_committed l ≡ false → a ++ closing (s.so_far.is_rollback k) w ≡ closing ((summary s.log).is_rollback l) false
      acts_are l n f =
          let x : w ≡ false = sym v ∙ (ap (λ (h : Summary). h.is_committed k) i.known ∙ (ap (summary s.log).is_committed n ∙ f)) in
          ap₂ (λ (b : List Act) (t : Bool). b ++ closing (s.so_far.is_rollback k) t) (h x) x ∙ ap (λ (b : Bool). closing b false) (ap (λ (h : Summary). h.is_rollback k) i.known ∙ ap (summary s.log).is_rollback n)

  shut : {s : State} {a : List Act} → Open c s a → Ends c s a
  shut i = record { rows = i.rows; log = i.log; each = λ j q l g. absurd (let x = i.none j (Closed q l) g in cc (x)) }

  ends : (x : ProtocolStep) → Moves x p (Open c) (Ends c)
  ends x = record {
    ends = λ s a i. shut i;
    sends = λ s q body a z o u i. shut (row s (after_sending s p q body) (Sent p q body) a a refl refl refl i);
    declines = λ s v cause a i. shut (row s (after_refusal s p v cause) (Refused p v cause) a a refl refl refl i);
    fails = λ s a z u i. shut (row s (after_failing s p) (Failed p) a _ refl refl refl i);
    opens = λ s roll a o i. row s (after_began s p roll) (Began p (s.instances + 1) (kind_for roll)) a a refl (began_known p s s roll) refl i;
    takes = λ s k f v w a o u i. row s (after_joining_checkpoint s s.channel p k f v w) (Took p k) a _ refl refl refl i;
    rolls = λ s k f v w a o i. row s (after_joining_rollback s s.channel p k f v w) (Ready p k) a a refl refl refl i;
    notes = λ s q k l a i. none s (after_noting s p q k l) a refl refl i;
    receives = λ s q m rest a y u e n i. shut (row s (after_receiving s (with_rest s.channel q p rest) s.held p q m) (Received p q m) a _ refl refl refl i);
    receives_held = λ s q m rest a y u e i. shut (row s (after_receiving s s.channel (with_rest s.held q p rest) p q m) (Received p q m) a _ refl refl refl i);
    loses = λ s q m rest a y u e n i. shut (row s (after_dropping s (with_rest s.channel q p rest) s.held p q m) (Dropped p q m) a a refl refl refl i);
    loses_held = λ s q m rest a y u e i. shut (row s (after_dropping s s.channel (with_rest s.held q p rest) p q m) (Dropped p q m) a a refl refl refl i);
    holds = λ s q m rest a y e i. shut (none s (after_holding s p q m rest) a refl refl i);
    drops = λ s q y rest a e f i. none s (after_decision s p q rest) a refl refl i;
    replies = λ s q k w a i. shut (none s (replies_now s p q k w) a refl refl i);
    refuses = λ s q k cause a i. shut (row s (refuses_now s p q k cause) (Unwilling p k cause) a a refl refl refl i);
    counts = λ s q k w a i. none s (counted s p q k w) a refl refl i;
    answers = λ s k a i. shut (none s (after_answering s p k) a refl refl i);
    decides = λ s k a o e b i. let f = decided_log p s s k (s.all_willing k p) (s.so_far.is_rollback k) refl in row s (late_deciding s p k) (Decided p k (s.all_willing k p)) a a f.0 f.1 refl i;
    closes = λ s k w a o d v h i. let f = closed_log p s s k w in close s (late_closing s p k w) k w a f.0 v h i;
  }

pub ends_step : (c : State) (x : ProtocolStep) → Invariant (once_closed c) → Ends c (late_step c x) (acts c x)
ends_step c x g = walk x (Open c) (Ends c) (ends (stepper x) c x) c g (record { rows = []; log = sym (append-nil c.log); known = g.histories.of_log; none = λ i y e. absurd (cc (e)) })
