-- What a marked send of a run has is what its sender's object offers.
use Rattle.std.proofs.Common.{◌≡◌, ℕ, ℤ, zero, suc, ◌+◌, ◌<◌, ◌≤◌, Bool, true, false, Some, List, [], ◌∷◌, ◌++◌, length, take, refl, arith, sym, ap, ap₂, subst, ◌∙◌, append_assoc, append-nil, inl, inr}
use Rattle.std.specs.Prelude.{◌==◌, ◌&&◌, not, nat_lt, if◌then◌else◌, slice_get, ◌⊎◌}
use Rattle.std.proofs.lemmas.Bool.{cases_lt}
use Rattle.std.proofs.lemmas.List.{take-append-le, take_all}
use Rattle.kt_base.specs.declared.words.Verb.TheVariants as verb
use Rattle.kt_base.specs.declared.words.Cause.TheVariants.{Down}
use Rattle.kt_spacetime.specs.declared.event.Event.{Event}
use Rattle.kt_spacetime.specs.declared.event.Event.TheVariants.{Sent, Received, Dropped, Began, Took, Ready, Unwilling, Decided, Closed, Failed, Refused}
use Rattle.kt_meaning.proofs.Lists.{get_push}
use Rattle.kt_protocol.specs.States.{State, ProtocolStep, Send, Begin, Fail, Take, opening}
use Rattle.kt_protocol.specs.Joining.{kind_for, after_began, after_joining_checkpoint, after_joining_rollback}
use Rattle.kt_protocol.specs.Messages.{after_receiving, after_dropping, after_holding, after_failing, after_refusal}
use Rattle.kt_protocol.specs.Replies.{after_noting, after_answering}
use Rattle.kt_protocol.specs.Deciding.{after_decision}
use Rattle.kt_protocol.specs.Parcels.{with_rest}
use Rattle.kt_protocol.proofs.Invariant.{Invariant}
use Rattle.kt_protocol.specs.LateClosing.{late_deciding, late_closing}
use Rattle.kt_protocol.specs.LateSteps.{late_step, late_run}
use Rattle.kt_protocol.specs.OnceClosed.{once_closed}
use Rattle.kt_machine.specs.Values.{Rules, Act}
use Rattle.kt_machine.specs.Acts.{acts, stepper}
use Rattle.kt_machine.specs.Offers.{offer, SendsOffers, HasOffers}
use Rattle.kt_machine.proofs.AddedRows.{decided_log, closed_log}
use Rattle.kt_machine.proofs.StepWalk.{Moves, walk, counted, replies_now, refuses_now}

abbrev pub is_sending : Event → Bool
is_sending (Sent p q body) = true
is_sending _ = false

abbrev pub is_send : ProtocolStep → Bool
is_send (Send p q body) = true
is_send (Begin p roll able) = false
is_send (Fail p) = false
is_send (Take p q able) = false

-- no send is added
record Quiet (c s : State) (a : List Act) : Type 0 where
  rows : List Event
  log : s.log ≡ c.log ++ rows
  none : (i : ℕ) (x : Event) → slice_get rows i ≡ Some x → is_sending x ≡ false

module _ (p : ℕ) (c : State) where
  row : (s s' : State) (x : Event) (a a' : List Act) → s'.log ≡ s.log ++ x ∷ [] → is_sending x ≡ false → Quiet c s a → Quiet c s' a'
  row s s' x a a' e f i = record {
    rows = i.rows ++ x ∷ [];
    log = e ∙ (ap (λ (l : List Event). l ++ x ∷ []) i.log ∙ append_assoc c.log i.rows (x ∷ []));
    none = λ j y g. elim (get_push i.rows x j y g) [ inl o ↦ i.none j y o | inr n ↦ ap is_sending (sym n.1) ∙ f ];
  }

  none : (s s' : State) (a : List Act) → s'.log ≡ s.log → Quiet c s a → Quiet c s' a
  none s s' a e i = record { rows = i.rows; log = e ∙ i.log; none = i.none }

  no_send : (x : ProtocolStep) (q : ℕ) (body : ℤ) {A : Type 0} → is_send x ≡ false → x ≡ Send p q body → A
  no_send x q body n e = absurd (let t = ap is_send e in cc (t, n))

  quiet : (x : ProtocolStep) → is_send x ≡ false → Moves x p (Quiet c) (Quiet c)
  quiet x n = record {
    ends = λ s a i. i;
    sends = λ s q body a z o u i. no_send x q body n z;
    declines = λ s v cause a i. row s (after_refusal s p v cause) (Refused p v cause) a a refl refl i;
    fails = λ s a t' u i. row s (after_failing s p) (Failed p) a _ refl refl i;
    opens = λ s roll a o i. row s (after_began s p roll) (Began p (s.instances + 1) (kind_for roll)) a a refl refl i;
    takes = λ s k f v w a o u i. row s (after_joining_checkpoint s s.channel p k f v w) (Took p k) a _ refl refl i;
    rolls = λ s k f v w a o i. row s (after_joining_rollback s s.channel p k f v w) (Ready p k) a a refl refl i;
    notes = λ s q k l a i. none s (after_noting s p q k l) a refl i;
    receives = λ s q m rest a y u e t i. row s (after_receiving s (with_rest s.channel q p rest) s.held p q m) (Received p q m) a _ refl refl i;
    receives_held = λ s q m rest a y u e i. row s (after_receiving s s.channel (with_rest s.held q p rest) p q m) (Received p q m) a _ refl refl i;
    loses = λ s q m rest a y u e t i. row s (after_dropping s (with_rest s.channel q p rest) s.held p q m) (Dropped p q m) a a refl refl i;
    loses_held = λ s q m rest a y u e i. row s (after_dropping s s.channel (with_rest s.held q p rest) p q m) (Dropped p q m) a a refl refl i;
    holds = λ s q m rest a y e i. none s (after_holding s p q m rest) a refl i;
    drops = λ s q y rest a e f i. none s (after_decision s p q rest) a refl i;
    replies = λ s q k w a i. none s (replies_now s p q k w) a refl i;
    refuses = λ s q k cause a i. row s (refuses_now s p q k cause) (Unwilling p k cause) a a refl refl i;
    counts = λ s q k w a i. none s (counted s p q k w) a refl i;
    answers = λ s k a i. none s (after_answering s p k) a refl i;
    decides = λ s k a o e b i. let f = decided_log p s s k (s.all_willing k p) (s.so_far.is_rollback k) refl in row s (late_deciding s p k) (Decided p k (s.all_willing k p)) a a f.0 refl i;
    closes = λ s k w a o d v h i. let f = closed_log p s s k w in row s (late_closing s p k w) (Closed p k) a _ f.0 refl i;
  }

quiet_step : (c : State) (x : ProtocolStep) → is_send x ≡ false → Invariant (once_closed c) → Quiet c (late_step c x) (acts c x)
quiet_step c x n g = walk x (Quiet c) (Quiet c) (quiet (stepper x) c x n) c g (record { rows = []; log = sym (append-nil c.log); none = λ i y e. absurd (cc (e)) })

-- rows of a longer log
get_old : {X : Type 0} (xs ys : List X) (i : ℕ) (x : X) → i < length xs → slice_get (xs ++ ys) i ≡ Some x → slice_get xs i ≡ Some x
get_old [] ys i x l e = absurd (omega (arith, l))
get_old (y ∷ xs) ys zero x l e = e
get_old (y ∷ xs) ys (suc i) x l e = get_old xs ys i x (omega (arith, l)) e

get_new : {X : Type 0} (xs ys : List X) (i : ℕ) (x : X) → length xs ≤ i → slice_get (xs ++ ys) i ≡ Some x → (j : ℕ) × (i ≡ length xs + j) × (slice_get ys j ≡ Some x)
get_new [] ys i x l e = (i, omega arith, e)
get_new (y ∷ xs) ys zero x l e = absurd (omega (arith, l))
get_new (y ∷ xs) ys (suc i) x l e = let r = get_new xs ys i x (omega (arith, l)) e in (r.0, (let n = r.1 in omega (arith, n)), r.2)

module _ {V : Type 0} (r : Rules V) (marked : ℕ → Bool) where
  pub record Has (log : List Event) : Type 0 where
    pub each : HasOffers r marked log

  -- some more rows
  has_more : (log rows : List Event) → Has log → ((j p q : ℕ) (body : ℤ) → slice_get rows j ≡ Some (Sent p q body) → marked (length log + j) ≡ true → offer r (take (length log + j) (log ++ rows)) p ≡ Some body) → Has (log ++ rows)
  has_more log rows h f = record { each = λ i p q body e m. go i p q body e m (cases_lt i (length log)) }
    where
      go : (i p q : ℕ) (body : ℤ) → slice_get (log ++ rows) i ≡ Some (Sent p q body) → marked i ≡ true → (i < length log) ⊎ (length log ≤ i) → offer r (take i (log ++ rows)) p ≡ Some body
      go i p q body e m (inl l) = ap (λ (t : List Event). offer r t p) (take-append-le i log rows (omega (arith, l))) ∙ h.each i p q body (get_old log rows i (Sent p q body) l e) m
      go i p q body e m (inr l) =
          let n = get_new log rows i (Sent p q body) l e in
          ap (λ (t : ℕ). offer r (take t (log ++ rows)) p) n.1 ∙ f n.0 p q body n.2 (subst (λ (t : ℕ). marked t ≡ true) n.1 m)

  has_none : (log : List Event) (x : Event) → is_sending x ≡ false → Has log → Has (log ++ x ∷ [])
  has_none log x n h = has_more log (x ∷ []) h (λ j p q body e m. absurd (go j p q body e))
    where
      go : (j p q : ℕ) (body : ℤ) → slice_get (x ∷ []) j ≡ Some (Sent p q body) → ⊥
      go zero p q body e = let s : x ≡ Sent p q body = cc (e) in let t = ap is_sending s in absurd (cc (t, n))
      go (suc j) p q body e = absurd (cc (e))

  has_sent : (log : List Event) (p q : ℕ) (body : ℤ) → (marked (length log) ≡ true → offer r log p ≡ Some body) → Has log → Has (log ++ Sent p q body ∷ [])
  has_sent log p q body f h = has_more log (Sent p q body ∷ []) h go
    where
      go : (j p' q' : ℕ) (b : ℤ) → slice_get (Sent p q body ∷ []) j ≡ Some (Sent p' q' b) → marked (length log + j) ≡ true → offer r (take (length log + j) (log ++ Sent p q body ∷ [])) p' ≡ Some b
      go zero p' q' b e m =
          let n : length log + 0 ≡ length log = omega arith in
          let same_p : p ≡ p' = cc (e) in
          let same_b : body ≡ b = cc (e) in
          let t : take (length log + 0) (log ++ Sent p q body ∷ []) ≡ log = ap (λ (k : ℕ). take k (log ++ Sent p q body ∷ [])) n ∙ (take-append-le (length log) log (Sent p q body ∷ []) (omega arith) ∙ take_all (length log) log (omega arith)) in
          ap₂ (λ (l : List Event) (u : ℕ). offer r l u) t (sym same_p) ∙ (f (subst (λ (k : ℕ). marked k ≡ true) n m) ∙ ap Some same_b)
      go (suc j) p' q' b e m = absurd (cc (e))

  has_quiet : (c : State) (x : ProtocolStep) → is_send x ≡ false → Invariant (once_closed c) → Has c.log → Has (late_step c x).log
  has_quiet c x n g h =
      let w = quiet_step c x n g in
      subst Has (sym w.log) (has_more c.log w.rows h (λ j p q body e m. absurd (let t = w.none j (Sent p q body) e in cc (t))))

  has_send : (c : State) (p q : ℕ) (body : ℤ) → (marked (length c.log) ≡ true → c.up p ≡ true → offer r c.log p ≡ Some body) → Has c.log → Has (late_step c (Send p q body)).log
  has_send c p q body f h = at_log ((nat_lt p c.processes && nat_lt q c.processes) && (c.so_far.open_in p == 0 && not (q == p))) _ _
      (λ _. at_log (c.up p) _ _ (λ u. has_sent c.log p q body (λ m. f m u) h) (λ _. has_none c.log (Refused p verb.Send Down) refl h))
      (λ _. h)
    where
      at_log : (b : Bool) (x y : State) → (b ≡ true → Has x.log) → (b ≡ false → Has y.log) → Has (if b then x else y).log
      at_log true x y f g = f refl
      at_log false x y f g = g refl

  has_run : (c : State) (steps : List ProtocolStep) → ((xs : List ProtocolStep) → Invariant (once_closed (late_run c xs))) → SendsOffers r marked c steps → Has c.log → Has (late_run c steps).log
  has_run c [] g o h = h
  has_run c (Send p q body ∷ xs) g o h = has_run (late_step c (Send p q body)) xs (λ ys. g (Send p q body ∷ ys)) o.1 (has_send c p q body o.0 h)
  has_run c (Begin p roll able ∷ xs) g o h = has_run (late_step c (Begin p roll able)) xs (λ ys. g (Begin p roll able ∷ ys)) o (has_quiet c (Begin p roll able) refl (g []) h)
  has_run c (Fail p ∷ xs) g o h = has_run (late_step c (Fail p)) xs (λ ys. g (Fail p ∷ ys)) o (has_quiet c (Fail p) refl (g []) h)
  has_run c (Take p q able ∷ xs) g o h = has_run (late_step c (Take p q able)) xs (λ ys. g (Take p q able ∷ ys)) o (has_quiet c (Take p q able) refl (g []) h)

  pub has_offers : (n : ℕ) (steps : List ProtocolStep) → ((xs : List ProtocolStep) → Invariant (once_closed (late_run (opening n) xs))) → SendsOffers r marked (opening n) steps → HasOffers r marked (late_run (opening n) steps).log
  has_offers n steps g o = (has_run (opening n) steps g o (record { each = λ i p q body e m. absurd (cc (e)) })).each
