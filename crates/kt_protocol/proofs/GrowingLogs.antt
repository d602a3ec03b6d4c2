-- Each step adds rows to the log.
use Rattle.std.proofs.Common.{◌≡◌, ℕ, ◌+◌, Bool, true, false, List, [], ◌∷◌, ◌++◌, refl, sym, ap, ◌∙◌, append_assoc}
use Rattle.std.proofs.lemmas.List.{append-nil}
use Rattle.kt_base.specs.declared.words.Cause.TheVariants.{Busy}
use Rattle.kt_base.specs.declared.words.Kind.TheVariants.{Checkpoint, Rollback}
use Rattle.kt_spacetime.specs.declared.event.Event.{Event}
use Rattle.kt_spacetime.specs.declared.event.Event.TheVariants.{Sent, Received, Dropped, Began, Took, Ready, Unwilling, Decided, Closed, Failed, Refused}
use Rattle.kt_protocol.specs.Parcels.{Lists, with_rest}
use Rattle.kt_protocol.specs.States.{State, ProtocolStep, opening}
use Rattle.kt_protocol.specs.Messages.{after_sending, after_receiving, after_dropping, after_arrival, after_failing, after_refusal}
use Rattle.kt_protocol.specs.Joining.{after_began, after_joining_checkpoint, after_joining_rollback}
use Rattle.kt_protocol.specs.Replies.{after_noting, unable_cause, after_unwilling}
use Rattle.kt_protocol.specs.Deciding.{after_deciding_as, after_closing, after_closing_checkpoint, after_closing_rollback}
use Rattle.kt_protocol.specs.Steps.{run, after_step}
use Rattle.kt_protocol.proofs.Choices.{at_if}
use Rattle.kt_protocol.proofs.Walk.{Moves, walk_step, kept, invariant_after_run}

-- t has the rows of s, and then more
abbrev pub Grows : State → State → Type 0
Grows s t = (more : List Event) × (t.log ≡ s.log ++ more)

one_row : (s t u : State) (row : Event) → Grows s t → u.log ≡ t.log ++ row ∷ [] → Grows s u
one_row s t u row b e = (b.0 ++ row ∷ [], e ∙ ap (λ (l : List Event). l ++ row ∷ []) b.1 ∙ append_assoc s.log b.0 (row ∷ []))

grows_deciding : (s t : State) (p k : ℕ) (c roll : Bool) → Grows s t → Grows s (after_deciding_as c roll t p k)
grows_deciding s t p k false roll b = one_row s t (after_deciding_as false roll t p k) (Decided p k false) b refl
grows_deciding s t p k true false b = one_row s t (after_deciding_as true false t p k) (Decided p k true) b refl
grows_deciding s t p k true true b = one_row s t (after_deciding_as true true t p k) (Decided p k true) b refl

grows_closing : (s t : State) (p k : ℕ) (c : Bool) → Grows s t → Grows s (after_closing t p k c)
grows_closing s t p k c b = at_if (Grows s) (t.so_far.is_rollback k) _ _ (λ _. one_row s t (after_closing_rollback t p k c) (Closed p k) b refl) (λ _. checkpoint c)
  where
    checkpoint : (c : Bool) → Grows s (after_closing_checkpoint t p k c)
    checkpoint true = one_row s t (after_closing_checkpoint t p k true) (Closed p k) b refl
    checkpoint false = one_row s t (after_closing_checkpoint t p k false) (Closed p k) b refl

grows_arrival : (s t : State) (channel held : Lists) (p q m : ℕ) → Grows s t → Grows s (after_arrival t channel held p q m)
grows_arrival s t channel held p q m b = at_if (Grows s) (t.up p) _ _ (λ _. one_row s t (after_receiving t channel held p q m) (Received p q m) b refl) (λ _. one_row s t (after_dropping t channel held p q m) (Dropped p q m) b refl)

grows_moves : (s0 : State) (x : ProtocolStep) → Moves x (Grows s0) (Grows s0) (λ s k p. Grows s0 s) (λ s k p. Grows s0 s)
grows_moves s0 x = record {
  stays = λ s g b. b;
  sends = λ s p q body n o u g b. one_row s0 s (after_sending s p q body) (Sent p q body) b refl;
  refuses = λ s p v c may g b. one_row s0 s (after_refusal s p v c) (Refused p v c) b refl;
  fails = λ s p u g b. one_row s0 s (after_failing s p) (Failed p) b refl;
  begins_checkpoint = λ s p o u g b. (let t = after_began s p false in one_row s0 t (after_joining_checkpoint t s.channel p (s.instances + 1) true p 0) (Took p (s.instances + 1)) (one_row s0 s t (Began p (s.instances + 1) Checkpoint) b refl) refl);
  begins_rollback = λ s p o g b. (let t = after_began s p true in one_row s0 t (after_joining_rollback t s.channel p (s.instances + 1) true p 0) (Ready p (s.instances + 1)) (one_row s0 s t (Began p (s.instances + 1) Rollback) b refl) refl);
  takes_channel = λ s p q m rest y e n g b. grows_arrival s0 s (with_rest s.channel q p rest) s.held p q m b;
  takes_held = λ s p q m rest y e g b. grows_arrival s0 s s.channel (with_rest s.held q p rest) p q m b;
  holds = λ s p q m rest y e g b. b;
  joins_checkpoint = λ s p q k l rest e o r t u g b. one_row s0 s (after_joining_checkpoint s (with_rest s.channel q p rest) p k false q l) (Took p k) b refl;
  joins_rollback = λ s p q k l rest e o r t g b. one_row s0 s (after_joining_rollback (after_noting s p q k l) (with_rest s.channel q p rest) p k false q (s.last_received p q)) (Ready p k) b refl;
  notes = λ s p q k l rest e o g b. b;
  replies = λ s p q k l rest e g b. b;
  is_busy = λ s p q k l able rest is e n pos g b. one_row s0 s (after_unwilling s p q k (Busy (s.so_far.open_in p)) rest) (Unwilling p k (Busy (s.so_far.open_in p))) b refl;
  is_unable = λ s p q k l able rest is e o r t u g b. one_row s0 s (after_unwilling s p q k (unable_cause (s.up p)) rest) (Unwilling p k (unable_cause (s.up p))) b refl;
  counts = λ s p q k w rest e g b. b;
  hears = λ s p q k c rest e o g b. b;
  ignores = λ s p q k c rest e o g b. b;
  waits = λ s k p j d n g w. w;
  answers = λ s k p j d n a g w. w;
  decides = λ s k p j d i q g w. grows_deciding s0 s p k (s.all_willing k p) (s.so_far.is_rollback k) w;
  closes = λ s k p c pos o d i g w. grows_closing s0 s p k c w;
}

run_append : (s : State) (xs ys : List ProtocolStep) → run s (xs ++ ys) ≡ run (run s xs) ys
run_append s [] ys = refl
run_append s (x ∷ xs) ys = run_append (after_step s x) xs ys

-- the log of the first steps of a run is a front part of the log of all
pub front_of_log : (n : ℕ) (before after : List ProtocolStep) → Grows (run (opening n) before) (run (opening n) (before ++ after))
front_of_log n before after =
    let s = run (opening n) before in
    let grown = kept (Grows s) (λ t x g b. (walk_step x (Grows s) (Grows s) (λ t k p. Grows s t) (λ t k p. Grows s t) (grows_moves s x) t g b).claim) s after (invariant_after_run n before) ([], sym (append-nil s.log)) in
    (grown.0, ap (λ (t : State). t.log) (run_append (opening n) before after) ∙ grown.1)
