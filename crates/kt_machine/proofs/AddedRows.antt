-- The rows that a step adds are its process's, and have the step's acts.
use Rattle.std.proofs.Common.{◌≡◌, ℕ, ◌+◌, Bool, true, false, Option, Some, None, List, [], ◌∷◌, ◌++◌, refl, sym, ap, ap₂, subst, ◌∙◌, append_assoc, append-nil, inl, inr}
use Rattle.std.specs.Prelude.{◌==◌, if◌then◌else◌, unwrap_or, slice_get}
use Rattle.kt_spacetime.specs.Events.{process_of}
use Rattle.kt_spacetime.specs.declared.event.Event.{Event}
use Rattle.kt_spacetime.specs.declared.event.Event.TheVariants.{Sent, Received, Dropped, Began, Took, Ready, Unwilling, Decided, Closed, Failed, Refused}
use Rattle.kt_meaning.specs.Past.{Past, past, is_rollback, is_committed}
use Rattle.kt_meaning.specs.Legal.{IsLegal, has_begun}
use Rattle.kt_meaning.proofs.LegalLogs.{kept, legal_front, legal_last}
use Rattle.kt_meaning.proofs.Lists.{get_push}
use Rattle.kt_protocol.specs.Summary.{Summary, summary, summary_after, summary_began}
use Rattle.kt_protocol.specs.States.{State, ProtocolStep}
use Rattle.kt_protocol.specs.Joining.{kind_for, after_began, after_joining_checkpoint, after_joining_rollback}
use Rattle.kt_protocol.specs.Messages.{after_sending, after_receiving, after_dropping, after_holding, after_failing, after_refusal}
use Rattle.kt_protocol.specs.Replies.{after_noting, after_answering}
use Rattle.kt_protocol.specs.Deciding.{after_decision}
use Rattle.kt_protocol.specs.Parcels.{with_rest}
use Rattle.kt_protocol.proofs.SummaryTies.{tied}
use Rattle.kt_protocol.proofs.Invariant.{Invariant, summary_push}
use Rattle.kt_protocol.specs.LateClosing.{late_deciding_as, late_deciding, late_closing, late_closing_checkpoint, late_closing_rollback}
use Rattle.kt_protocol.specs.LateSteps.{late_step}
use Rattle.kt_protocol.specs.OnceClosed.{once_closed}
use Rattle.kt_machine.specs.Done.{done}
use Rattle.kt_machine.specs.Values.{Act, Apply, Keep, Drop, closing, acts_of, acts_at, acts_along}
use Rattle.kt_machine.specs.Acts.{acts, stepper}
use Rattle.kt_machine.proofs.DoneAlong.{done_past}
use Rattle.kt_machine.proofs.ActsAlong.{along_push}
use Rattle.kt_machine.proofs.StepWalk.{Moves, walk, counted, replies_now, refuses_now}

pub record Adds (p : ℕ) (c s : State) (a : List Act) : Type 0 where
  pub rows : List Event
  pub log : s.log ≡ c.log ++ rows
  pub known : s.so_far ≡ summary s.log
  pub by : (i : ℕ) (x : Event) → slice_get rows i ≡ Some x → process_of x ≡ p
  pub acts : IsLegal s.log → (u : ℕ) → acts_along u (done c.log) rows ≡ (if u == p then a else [])

-- what closing asks, by the state and by the log
pub closing_is : (s : State) (p k : ℕ) (c : Bool) → s.so_far ≡ summary s.log → s.so_far.is_decided k ≡ true → s.so_far.is_committed k ≡ c → IsLegal (s.log ++ Closed p k ∷ []) → (is_rollback (done s.log).past k ≡ s.so_far.is_rollback k) × (is_committed (done s.log).past k ≡ c)
closing_is s p k c n d w l =
    let e = legal_last s.log (Closed p k) l in
    let t = tied s.log e.0 in
    let b : has_begun (past s.log) k ≡ true = (kept (past s.log) (Closed p k) e.1).numbers in (
      ap (λ (x : Past). is_rollback x k) (done_past s.log) ∙ (t.rollback k b ∙ ap (λ (h : Summary). h.is_rollback k) (sym n)),
      ap (λ (x : Past). is_committed x k) (done_past s.log) ∙ (ap (λ (o : Option Bool). unwrap_or o false) (t.decision k) ∙ (ap (λ (h : Summary). unwrap_or (if h.is_decided k then Some (h.is_committed k) else None) false) (sym n) ∙ rw (d, w) refl)),
    )

both_sides : (b : Bool) (a t : List Act) → (if b then a else []) ++ (if b then t else []) ≡ (if b then a ++ t else [])
both_sides true a t = refl
both_sides false a t = refl

module _ (p : ℕ) (c : State) where
  -- one more row of p
  row : (s s' : State) (x : Event) (a t : List Act) → s'.log ≡ s.log ++ x ∷ [] → s'.so_far ≡ summary_after s.so_far x → process_of x ≡ p → (IsLegal (s.log ++ x ∷ []) → acts_of (done s.log) x ≡ t) → Adds p c s a → Adds p c s' (a ++ t)
  row s s' x a t e h q f i = record {
    rows = i.rows ++ x ∷ [];
    log = e ∙ (ap (λ (l : List Event). l ++ x ∷ []) i.log ∙ append_assoc c.log i.rows (x ∷ []));
    known = h ∙ (summary_push s.so_far s.log x i.known ∙ ap summary (sym e));
    by = λ j y g. elim (get_push i.rows x j y g) [ inl o ↦ i.by j y o | inr n ↦ ap process_of (sym n.1) ∙ q ];
    acts = λ l u. let l' : IsLegal (s.log ++ x ∷ []) = subst IsLegal e l in
        along_push u c.log i.rows x
        ∙ (ap₂ (λ (y z : List Act). y ++ z) (i.acts (legal_front s.log (x ∷ []) l') u) (ap (λ (l : List Event). acts_at u (done l) x) (sym i.log) ∙ ap₂ (λ (q : ℕ) (z : List Act). if u == q then z else []) q (f l'))
        ∙ both_sides (u == p) a t);
  }

  -- one without acts
  still : (s s' : State) (x : Event) (a : List Act) → s'.log ≡ s.log ++ x ∷ [] → s'.so_far ≡ summary_after s.so_far x → process_of x ≡ p → acts_of (done s.log) x ≡ [] → Adds p c s a → Adds p c s' a
  still s s' x a e h q f i = subst (Adds p c s') (append-nil a) (row s s' x a [] e h q (λ _. f) i)

  -- none
  none : (s s' : State) (a : List Act) → s'.log ≡ s.log → s'.so_far ≡ s.so_far → Adds p c s a → Adds p c s' a
  none s s' a e h i = record { rows = i.rows; log = e ∙ i.log; known = h ∙ (i.known ∙ ap summary (sym e)); by = i.by; acts = λ l u. i.acts (subst IsLegal e l) u }

  pub decided_log : (s : State) (k : ℕ) (w roll : Bool) → s.so_far.is_rollback k ≡ roll → ((late_deciding_as w roll s p k).log ≡ s.log ++ Decided p k w ∷ []) × ((late_deciding_as w roll s p k).so_far ≡ summary_after s.so_far (Decided p k w))
  decided_log s k false roll e = (refl, refl)
  decided_log s k true roll e = (refl, rw e refl)

  pub closed_log : (s : State) (k : ℕ) (w : Bool) → ((late_closing s p k w).log ≡ s.log ++ Closed p k ∷ []) × ((late_closing s p k w).so_far ≡ summary_after s.so_far (Closed p k))
  closed_log s k w = at_if (s.so_far.is_rollback k) (late_closing_rollback s p k w) (late_closing_checkpoint s p k w) (rolled w) (saved w)
    where
      at_if : (b : Bool) (x y : State) → (x.log ≡ s.log ++ Closed p k ∷ []) × (x.so_far ≡ summary_after s.so_far (Closed p k)) → (y.log ≡ s.log ++ Closed p k ∷ []) × (y.so_far ≡ summary_after s.so_far (Closed p k)) → ((if b then x else y).log ≡ s.log ++ Closed p k ∷ []) × ((if b then x else y).so_far ≡ summary_after s.so_far (Closed p k))
      at_if true x y e f = e
      at_if false x y e f = f

      rolled : (w : Bool) → ((late_closing_rollback s p k w).log ≡ s.log ++ Closed p k ∷ []) × ((late_closing_rollback s p k w).so_far ≡ summary_after s.so_far (Closed p k))
      rolled true = (refl, refl)
      rolled false = (refl, refl)

      saved : (w : Bool) → ((late_closing_checkpoint s p k w).log ≡ s.log ++ Closed p k ∷ []) × ((late_closing_checkpoint s p k w).so_far ≡ summary_after s.so_far (Closed p k))
      saved true = (refl, refl)
      saved false = (refl, refl)

  pub began_known : (s : State) (roll : Bool) → summary_began s.so_far (s.instances + 1) roll ≡ summary_after s.so_far (Began p (s.instances + 1) (kind_for roll))
  began_known s true = refl
  began_known s false = refl

  pub adds : (x : ProtocolStep) → Moves x p (Adds p c) (Adds p c)
  adds x = record {
    ends = λ s a i. i;
    sends = λ s q body a z o u i. still s (after_sending s p q body) (Sent p q body) a refl refl refl refl i;
    declines = λ s v cause a i. still s (after_refusal s p v cause) (Refused p v cause) a refl refl refl refl i;
    fails = λ s a t' u i. row s (after_failing s p) (Failed p) a (Drop ∷ []) refl refl refl (λ _. refl) i;
    opens = λ s roll a o i. still s (after_began s p roll) (Began p (s.instances + 1) (kind_for roll)) a refl (began_known s roll) refl refl i;
    takes = λ s k f v w a o u i. row s (after_joining_checkpoint s s.channel p k f v w) (Took p k) a (Keep ∷ []) refl refl refl (λ _. refl) i;
    rolls = λ s k f v w a o i. still s (after_joining_rollback s s.channel p k f v w) (Ready p k) a refl refl refl refl i;
    notes = λ s q k l a i. none s (after_noting s p q k l) a refl refl i;
    receives = λ s q m rest a y u e n i. row s (after_receiving s (with_rest s.channel q p rest) s.held p q m) (Received p q m) a (Apply q ((done s.log).body m) ∷ []) refl refl refl (λ _. refl) i;
    receives_held = λ s q m rest a y u e i. row s (after_receiving s s.channel (with_rest s.held q p rest) p q m) (Received p q m) a (Apply q ((done s.log).body m) ∷ []) refl refl refl (λ _. refl) i;
    loses = λ s q m rest a y u e n i. still s (after_dropping s (with_rest s.channel q p rest) s.held p q m) (Dropped p q m) a refl refl refl refl i;
    loses_held = λ s q m rest a y u e i. still s (after_dropping s s.channel (with_rest s.held q p rest) p q m) (Dropped p q m) a refl refl refl refl i;
    holds = λ s q m rest a y e i. none s (after_holding s p q m rest) a refl refl i;
    drops = λ s q y rest a e f i. none s (after_decision s p q rest) a refl refl i;
    replies = λ s q k w a i. none s (replies_now s p q k w) a refl refl i;
    refuses = λ s q k cause a i. still s (refuses_now s p q k cause) (Unwilling p k cause) a refl refl refl refl i;
    counts = λ s q k w a i. none s (counted s p q k w) a refl refl i;
    answers = λ s k a i. none s (after_answering s p k) a refl refl i;
    decides = λ s k a o e b i. let f = decided_log s k (s.all_willing k p) (s.so_far.is_rollback k) refl in still s (late_deciding s p k) (Decided p k (s.all_willing k p)) a f.0 f.1 refl refl i;
    closes = λ s k w a o d v h i. let f = closed_log s k w in row s (late_closing s p k w) (Closed p k) a (closing (s.so_far.is_rollback k) w) f.0 f.1 refl (λ l. let g = closing_is s p k w i.known d v l in ap₂ closing g.0 g.1) i;
  }

-- what a step adds
pub adds_step : (c : State) (x : ProtocolStep) → Invariant (once_closed c) → Adds (stepper x) c (late_step c x) (acts c x)
adds_step c x g = walk x (Adds (stepper x) c) (Adds (stepper x) c) (adds (stepper x) c x) c g (record { rows = []; log = sym (append-nil c.log); known = g.histories.of_log; by = λ i y e. absurd (cc (e)); acts = λ l u. flat (u == stepper x) })
  where
    flat : (b : Bool) → ◌≡◌ {A = List Act} [] (if b then [] else [])
    flat true = refl
    flat false = refl
