-- Each row that says that a process was unwilling, or that a command was refused, is added by a step that may add it.
use Rattle.std.proofs.Common.{◌≡◌, ℕ, ◌+◌, Bool, true, false, List, [], ◌∷◌, ◌++◌, length, refl, sym, ap, subst, inl, inr, ◌⊎◌, Some, ◌∙◌}
use Rattle.std.specs.Prelude.{if◌then◌else◌, slice_get}
use Rattle.kt_base.specs.declared.words.Cause.{Cause}
use Rattle.kt_base.specs.declared.words.Cause.TheVariants.{Busy}
use Rattle.kt_base.specs.declared.words.Kind.TheVariants.{Checkpoint, Rollback}
use Rattle.kt_base.specs.declared.words.Verb.{Verb}
use Rattle.kt_spacetime.specs.declared.event.Event.{Event}
use Rattle.kt_spacetime.specs.declared.event.Event.TheVariants.{Sent, Received, Dropped, Began, Took, Ready, Unwilling, Decided, Closed, Failed, Refused}
use Rattle.kt_protocol.specs.Parcels.{Lists, with_rest}
use Rattle.kt_protocol.specs.States.{State, ProtocolStep, Take, opening}
use Rattle.kt_protocol.specs.Messages.{after_sending, after_arrival, after_failing, after_refusal, after_holding}
use Rattle.kt_protocol.specs.Joining.{after_began, after_joining_checkpoint, after_joining_rollback}
use Rattle.kt_protocol.specs.Replies.{after_noting, after_replying, unable_cause, after_unwilling, after_reply}
use Rattle.kt_protocol.specs.Deciding.{after_deciding, after_deciding_as, after_closing, after_closing_checkpoint, after_closing_rollback, after_decision}
use Rattle.kt_protocol.specs.Steps.{after_step, run}
use Rattle.kt_protocol.specs.Refusals.{MayBeUnwilling, IsUnwillingRow, MayRefuse, IsRefusedRow}
use Rattle.kt_protocol.proofs.Choices.{at_if}
use Rattle.kt_protocol.proofs.EachRow.{get-push}
use Rattle.kt_protocol.proofs.Invariant.{Invariant}
use Rattle.kt_protocol.proofs.TablesSince.{TablesSince}
use Rattle.kt_protocol.proofs.Transitions.{invariant_opening}
use Rattle.kt_protocol.proofs.UnwillingRows.{busy, free}
use Rattle.kt_protocol.proofs.Walk.{Moves, walk_step, invariant_step}
use Rattle.kt_protocol.proofs.WholeSteps.{AfterStep, step_keeps, opening_has}

-- such a row
abbrev pub is_told : Event → Bool
is_told (Unwilling p k cause) = true
is_told (Refused p v cause) = true
is_told _ = false

-- a step may add it
abbrev pub MayAdd : State → ProtocolStep → Event → Type 0
MayAdd s x (Unwilling p k cause) = (q : ℕ) × (able : Bool) × (x ≡ Take p q able) × MayBeUnwilling s p q k able cause
MayAdd s x (Refused p v cause) = MayRefuse s p v cause x
MayAdd s x _ = Unit {0}

-- each such row of t is one of s
abbrev Quiet : State → State → Type 0
Quiet s t = (i : ℕ) (row : Event) → is_told row ≡ true → slice_get t.log i ≡ Some row → slice_get s.log i ≡ Some row

-- or it is the next one, which step x may add
abbrev pub Adds : ProtocolStep → State → State → Type 0
Adds x s t = (i : ℕ) (row : Event) → is_told row ≡ true → slice_get t.log i ≡ Some row → (slice_get s.log i ≡ Some row) ⊎ ((i ≡ length s.log) × MayAdd s x row)

quiet_row : (log : List Event) (row : Event) → is_told row ≡ false → (i : ℕ) (x : Event) → is_told x ≡ true → slice_get (log ++ row ∷ []) i ≡ Some x → slice_get log i ≡ Some x
quiet_row log row e i x o h = elim (get-push log row i x h) [ inl a ↦ a | inr b ↦ (let y : is_told x ≡ false = rw b.1 at e in absurd (cc (y, o))) ]

quiet_after : (s t u : State) → Quiet s t → Quiet t u → Quiet s u
quiet_after s t u a b i x o h = a i x o (b i x o h)

quiet_deciding : (s : State) (p k : ℕ) (c roll : Bool) → Quiet s (after_deciding_as c roll s p k)
quiet_deciding s p k false roll = quiet_row s.log (Decided p k false) refl
quiet_deciding s p k true false = quiet_row s.log (Decided p k true) refl
quiet_deciding s p k true true = quiet_row s.log (Decided p k true) refl

quiet_closing : (s : State) (p k : ℕ) (c : Bool) → Quiet s (after_closing s p k c)
quiet_closing s p k c = go c (s.so_far.is_rollback k)
  where
    go : (c roll : Bool) → Quiet s (if roll then after_closing_rollback s p k c else after_closing_checkpoint s p k c)
    go c true = quiet_row s.log (Closed p k) refl
    go true false = quiet_row s.log (Closed p k) refl
    go false false = quiet_row s.log (Closed p k) refl

quiet_arrival : (s : State) (channel held : Lists) (p q m : ℕ) → Quiet s (after_arrival s channel held p q m)
quiet_arrival s channel held p q m = at_if (Quiet s) (s.up p) _ _ (λ _. quiet_row s.log (Received p q m) refl) (λ _. quiet_row s.log (Dropped p q m) refl)

adds_row : (s t : State) (x : ProtocolStep) (row : Event) → t.log ≡ s.log ++ row ∷ [] → MayAdd s x row → Adds x s t
adds_row s t x row e may i y o h = elim (get-push s.log row i y (rw e at h)) [ inl a ↦ inl a | inr b ↦ inr (b.0, subst (λ (z : Event). MayAdd s x z) b.1 may) ]

-- the state before the step
record Start (s t : State) : Type 0 where
  same : s ≡ t
  since : TablesSince t

from_start : (s t u : State) → Start s t → Quiet t u → Quiet s u
from_start s t u b q = subst (λ (v : State). Quiet v u) (sym b.same) q

module _ (x : ProtocolStep) (s0 : State) where
  silent : (s t : State) → Start s0 s → Quiet s t → Adds x s0 t
  silent s t b q i row o h = inl (from_start s0 s t b q i row o h)

  added : (s t : State) (row : Event) → Start s0 s → t.log ≡ s.log ++ row ∷ [] → MayAdd s x row → Adds x s0 t
  added s t row b e may = subst (λ (v : State). Adds x v t) (sym b.same) (adds_row s t x row e may)

  adds_moves : Moves x (Start s0) (Adds x s0) (λ s k p. Quiet s0 s) (λ s k p. Quiet s0 s)
  adds_moves = record {
    stays = λ s g b. silent s s b (λ i r o h. h);
    sends = λ s p q body n o u g b. silent s (after_sending s p q body) b (quiet_row s.log (Sent p q body) refl);
    refuses = λ s p v c may g b. added s (after_refusal s p v c) (Refused p v c) b refl may;
    fails = λ s p u g b. silent s (after_failing s p) b (quiet_row s.log (Failed p) refl);
    begins_checkpoint = λ s p o u g b. (let t = after_began s p false in from_start s0 s (after_joining_checkpoint t s.channel p (s.instances + 1) true p 0) b
        (quiet_after s t (after_joining_checkpoint t s.channel p (s.instances + 1) true p 0) (quiet_row s.log (Began p (s.instances + 1) Checkpoint) refl) (quiet_row t.log (Took p (s.instances + 1)) refl)));
    begins_rollback = λ s p o g b. (let t = after_began s p true in from_start s0 s (after_joining_rollback t s.channel p (s.instances + 1) true p 0) b
        (quiet_after s t (after_joining_rollback t s.channel p (s.instances + 1) true p 0) (quiet_row s.log (Began p (s.instances + 1) Rollback) refl) (quiet_row t.log (Ready p (s.instances + 1)) refl)));
    takes_channel = λ s p q m rest y e n g b. silent s (after_arrival s (with_rest s.channel q p rest) s.held p q m) b (quiet_arrival s (with_rest s.channel q p rest) s.held p q m);
    takes_held = λ s p q m rest y e g b. silent s (after_arrival s s.channel (with_rest s.held q p rest) p q m) b (quiet_arrival s s.channel (with_rest s.held q p rest) p q m);
    holds = λ s p q m rest y e g b. silent s (after_holding s p q m rest) b (λ i r o h. h);
    joins_checkpoint = λ s p q k l rest e o r t u g b. from_start s0 s (after_joining_checkpoint s (with_rest s.channel q p rest) p k false q l) b (quiet_row s.log (Took p k) refl);
    joins_rollback = λ s p q k l rest e o r t g b. from_start s0 s (after_joining_rollback (after_noting s p q k l) (with_rest s.channel q p rest) p k false q (s.last_received p q)) b (quiet_row s.log (Ready p k) refl);
    notes = λ s p q k l rest e o g b. silent s (after_replying (after_noting s p q k l) p q k true rest) b (λ i r o h. h);
    replies = λ s p q k l rest e g b. silent s (after_replying s p q k true rest) b (λ i r o h. h);
    is_busy = λ s p q k l able rest is e n pos g b. added s (after_unwilling s p q k (Busy (s.so_far.open_in p)) rest) (Unwilling p k (Busy (s.so_far.open_in p))) b refl (q, able, is, busy s p q k l able rest e g b.since n pos);
    is_unable = λ s p q k l able rest is e o r t u g b. added s (after_unwilling s p q k (unable_cause (s.up p)) rest) (Unwilling p k (unable_cause (s.up p))) b refl (q, able, is, free s p q k l able rest e g b.since o r t u);
    counts = λ s p q k w rest e g b. from_start s0 s (after_reply s p q k w rest) b (λ i r o h. h);
    hears = λ s p q k c rest e o g b. from_start s0 s (after_decision s p q rest) b (λ i r o h. h);
    ignores = λ s p q k c rest e o g b. silent s (after_decision s p q rest) b (λ i r o h. h);
    waits = λ s k p j d n g w i row o h. inl (w i row o h);
    answers = λ s k p j d n a g w i row o h. inl (w i row o h);
    decides = λ s k p j d i q g w. quiet_after s0 s (after_deciding s p k) w (quiet_deciding s p k (s.all_willing k p) (s.so_far.is_rollback k));
    closes = λ s k p c pos o d i g w j row o2 h. inl (quiet_after s0 s (after_closing s p k c) w (quiet_closing s p k c) j row o2 h);
  }

pub adds_step : (s : State) (x : ProtocolStep) → Invariant s → TablesSince s → Adds x s (after_step s x)
adds_step s x g a = (walk_step x (Start s) (Adds x s) (λ t k p. Quiet s t) (λ t k p. Quiet s t) (adds_moves x s) s g (record { same = refl; since = a })).claim

-- row t of a run is added by one of its steps
record IsAdded (s : State) (steps : List ProtocolStep) (t : ℕ) (row : Event) : Type 0 where
  before : List ProtocolStep
  after : List ProtocolStep
  step : ProtocolStep
  steps_are : steps ≡ before ++ step ∷ after
  place : t ≡ length (run s before).log
  may : MayAdd (run s before) step row

is_added : (s : State) (steps : List ProtocolStep) → Invariant s → AfterStep s → (t : ℕ) (row : Event) → is_told row ≡ true → slice_get (run s steps).log t ≡ Some row → (slice_get s.log t ≡ Some row) ⊎ IsAdded s steps t row
is_added s [] g m t row o h = inl h
is_added s (x ∷ xs) g m t row o h = elim (is_added (after_step s x) xs (invariant_step s x g) (step_keeps s x g m) t row o h) [
  | inl a ↦ elim (adds_step s x g m.always.tables t row o a) [
    | inl b ↦ inl b
    | inr b ↦ inr (record { before = []; after = xs; step = x; steps_are = refl; place = b.0; may = b.1 })
  ]
  | inr r ↦ inr (record { before = x ∷ r.before; after = r.after; step = r.step; steps_are = ap (λ (l : List ProtocolStep). x ∷ l) r.steps_are; place = r.place; may = r.may })
]

none_before : {X : Type 0} (n t : ℕ) (row : Event) → (slice_get (opening n).log t ≡ Some row) ⊎ X → X
none_before n t row (inl a) = absurd (cc (a))
none_before n t row (inr x) = x

pub unwilling_added : (n : ℕ) (steps : List ProtocolStep) (t p k : ℕ) (c : Cause) → slice_get (run (opening n) steps).log t ≡ Some (Unwilling p k c) → IsUnwillingRow (opening n) steps t p k c
unwilling_added n steps t p k c h =
    let r = none_before n t (Unwilling p k c) (is_added (opening n) steps (invariant_opening n) (opening_has n) t (Unwilling p k c) refl h) in
    record { before = r.before; after = r.after; from = r.may.0; able = r.may.1; steps_are = r.steps_are ∙ ap (λ (x : ProtocolStep). r.before ++ x ∷ r.after) r.may.2; row = r.place; justified = r.may.3 }

pub refused_added : (n : ℕ) (steps : List ProtocolStep) (t p : ℕ) (v : Verb) (c : Cause) → slice_get (run (opening n) steps).log t ≡ Some (Refused p v c) → IsRefusedRow (opening n) steps t p v c
refused_added n steps t p v c h =
    let r = none_before n t (Refused p v c) (is_added (opening n) steps (invariant_opening n) (opening_has n) t (Refused p v c) refl h) in
    record { before = r.before; after = r.after; step = r.step; steps_are = r.steps_are; row = r.place; justified = r.may }
