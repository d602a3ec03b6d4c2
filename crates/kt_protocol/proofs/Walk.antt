-- One walk over a step, for any claims: B of the state before it and A of the state that it leaves; in between M, where p
-- is a member of k and has still to settle, and D, where k is decided and p has still to close it.
use Rattle.std.proofs.Common.{◌≡◌, ◌≢◌, ℕ, ℤ, ◌+◌, ◌<◌, Bool, true, false, not, List, [], ◌∷◌, refl, arith, sym, inl, ◌∙◌}
use Rattle.std.specs.Prelude.{◌==◌, ◌&&◌, nat_lt}
use Rattle.std.proofs.lemmas.Bool.Decides.{nat_tests}
use Rattle.kt_base.specs.declared.words.Cause.{Cause}
use Rattle.kt_base.specs.declared.words.Cause.TheVariants.{Busy, Down}
use Rattle.kt_base.specs.declared.words.Verb.{Verb}
use Rattle.kt_base.specs.declared.words.Verb.TheVariants as verb
use Rattle.kt_protocol.specs.Parcels.{Parcel, App, Ask, Reply, Decide, with_rest}
use Rattle.kt_protocol.specs.States.{State, ProtocolStep, Send, Begin, Fail, Take, is_ready, opening}
use Rattle.kt_protocol.specs.Messages.{after_sending, after_arrival, after_holding, after_failing, after_refusal}
use Rattle.kt_protocol.specs.Joining.{after_began, must_take, must_roll, after_joining_checkpoint, after_joining_rollback}
use Rattle.kt_protocol.specs.Replies.{after_noting, after_replying, unable_cause, after_unwilling, after_reply, after_answering}
use Rattle.kt_protocol.specs.Deciding.{after_deciding, after_closing, after_decision, none_of}
use Rattle.kt_protocol.specs.Steps.{after_settling, after_ask, after_front, after_take, after_beginning, after_step, run}
use Rattle.kt_protocol.specs.Refusals.{IsPrevented, MayRefuse}
use Rattle.kt_protocol.proofs.Invariant.{Invariant}
use Rattle.kt_protocol.proofs.Choices.{at_if, same, differ, closed_of}
use Rattle.kt_protocol.proofs.Updates.{at_one_here, at_pair_here}
use Rattle.kt_protocol.proofs.Replying.{ask_facts}
use Rattle.kt_protocol.proofs.Answering.{reply_facts}
use Rattle.kt_protocol.proofs.Beginning.{decide_facts}
use Rattle.kt_protocol.proofs.StepFacts.{awaits_none, invariant_closing, same_open, now_decided, invariant_deciding, noted_here, safe_open, safe_closed, safe_rollback, joining, rolling_in, noted_invariant, new_undecided, new_joining, from_channel, from_held}
use Rattle.kt_protocol.proofs.Transitions.{invariant_opening, invariant_sending, invariant_receiving, invariant_dropping, invariant_holding, invariant_failing, invariant_refusal, invariant_began, invariant_joining_checkpoint, invariant_joining_rollback, invariant_replying, invariant_unwilling, invariant_reply, invariant_answering, invariant_decision}

-- what each part of step x makes of the claims
pub record Moves (x : ProtocolStep) (B A : State → Type 0) (M D : State → ℕ → ℕ → Type 0) : Type 0 where
  pub stays : (s : State) → Invariant s → B s → A s
  pub sends : (s : State) (p q : ℕ) (body : ℤ) → q ≢ p → s.so_far.open_in p ≡ 0 → s.up p ≡ true → Invariant s → B s → A (after_sending s p q body)
  pub refuses : (s : State) (p : ℕ) (v : Verb) (cause : Cause) → MayRefuse s p v cause x → Invariant s → B s → A (after_refusal s p v cause)
  pub fails : (s : State) (p : ℕ) → s.up p ≡ true → Invariant s → B s → A (after_failing s p)
  pub begins_checkpoint : (s : State) (p : ℕ) → s.so_far.open_in p ≡ 0 → s.up p ≡ true → Invariant s → B s → M (after_joining_checkpoint (after_began s p false) s.channel p (s.instances + 1) true p 0) (s.instances + 1) p
  pub begins_rollback : (s : State) (p : ℕ) → s.so_far.open_in p ≡ 0 → Invariant s → B s → M (after_joining_rollback (after_began s p true) s.channel p (s.instances + 1) true p 0) (s.instances + 1) p
  pub takes_channel : (s : State) (p q m : ℕ) (rest : List Parcel) → is_ready s p ≡ false → s.channel q p ≡ App m ∷ rest → s.held q p ≡ [] → Invariant s → B s → A (after_arrival s (with_rest s.channel q p rest) s.held p q m)
  pub takes_held : (s : State) (p q m : ℕ) (rest : List Parcel) → is_ready s p ≡ false → s.held q p ≡ App m ∷ rest → Invariant s → B s → A (after_arrival s s.channel (with_rest s.held q p rest) p q m)
  pub holds : (s : State) (p q m : ℕ) (rest : List Parcel) → is_ready s p ≡ true → s.channel q p ≡ App m ∷ rest → Invariant s → B s → A (after_holding s p q m rest)
  pub joins_checkpoint : (s : State) (p q k l : ℕ) (rest : List Parcel) → s.channel q p ≡ Ask k l ∷ rest → s.so_far.open_in p ≡ 0 → s.so_far.is_rollback k ≡ false → must_take s p q l ≡ true → s.up p ≡ true → Invariant s → B s →
      M (after_joining_checkpoint s (with_rest s.channel q p rest) p k false q l) k p
  pub joins_rollback : (s : State) (p q k l : ℕ) (rest : List Parcel) → s.channel q p ≡ Ask k l ∷ rest → s.so_far.open_in p ≡ 0 → s.so_far.is_rollback k ≡ true → must_roll s p q l ≡ true → Invariant s → B s →
      M (after_joining_rollback (after_noting s p q k l) (with_rest s.channel q p rest) p k false q (s.last_received p q)) k p
  pub notes : (s : State) (p q k l : ℕ) (rest : List Parcel) → s.channel q p ≡ Ask k l ∷ rest → s.so_far.open_in p ≡ k → Invariant s → B s → A (after_replying (after_noting s p q k l) p q k true rest)
  pub replies : (s : State) (p q k l : ℕ) (rest : List Parcel) → s.channel q p ≡ Ask k l ∷ rest → Invariant s → B s → A (after_replying s p q k true rest)
  pub is_busy : (s : State) (p q k l : ℕ) (able : Bool) (rest : List Parcel) → x ≡ Take p q able → s.channel q p ≡ Ask k l ∷ rest → (s.so_far.open_in p == k) ≡ false → 0 < s.so_far.open_in p → Invariant s → B s →
      A (after_unwilling s p q k (Busy (s.so_far.open_in p)) rest)
  pub is_unable : (s : State) (p q k l : ℕ) (able : Bool) (rest : List Parcel) → x ≡ Take p q able → s.channel q p ≡ Ask k l ∷ rest → s.so_far.open_in p ≡ 0 → s.so_far.is_rollback k ≡ false → must_take s p q l ≡ true → (able && s.up p) ≡ false → Invariant s → B s →
      A (after_unwilling s p q k (unable_cause (s.up p)) rest)
  pub counts : (s : State) (p q k : ℕ) (w : Bool) (rest : List Parcel) → s.channel q p ≡ Reply k w ∷ rest → Invariant s → B s → M (after_reply s p q k w rest) k p
  pub hears : (s : State) (p q k : ℕ) (c : Bool) (rest : List Parcel) → s.channel q p ≡ Decide k c ∷ rest → s.so_far.open_in p ≡ k → Invariant s → B s → D (after_decision s p q rest) k p
  pub ignores : (s : State) (p q k : ℕ) (c : Bool) (rest : List Parcel) → s.channel q p ≡ Decide k c ∷ rest → (s.so_far.open_in p == k) ≡ false → Invariant s → B s → A (after_decision s p q rest)
  pub waits : (s : State) (k p : ℕ) → s.so_far.joined k p ≡ true → s.so_far.is_decided k ≡ false → none_of s.processes (s.awaits k p) ≡ false → Invariant s → M s k p → A s
  pub answers : (s : State) (k p : ℕ) → s.so_far.joined k p ≡ true → s.so_far.is_decided k ≡ false → p ≢ s.initiator k → s.has_answered k p ≡ false → Invariant s → M s k p → A (after_answering s p k)
  pub decides : (s : State) (k p : ℕ) → s.so_far.joined k p ≡ true → s.so_far.is_decided k ≡ false → p ≡ s.initiator k → ((v : ℕ) → s.awaits k p v ≡ false) → Invariant s → M s k p → D (after_deciding s p k) k p
  pub closes : (s : State) (k p : ℕ) (c : Bool) → 0 < k → s.so_far.open_in p ≡ k → s.so_far.is_decided k ≡ true → s.so_far.is_committed k ≡ c → Invariant s → D s k p → A (after_closing s p k c)

-- the invariant holds, and the claim
pub record Holds (A : State → Type 0) (s : State) : Type 0 where
  pub invariant : Invariant s
  pub claim : A s

not_false : (b : Bool) → not b ≡ false → b ≡ true
not_false true e = refl
not_false false e = absurd (cc (e))

not_true : (b : Bool) → not b ≡ true → b ≡ false
not_true true e = absurd (cc (e))
not_true false e = refl

both_right : (a b : Bool) → (a && b) ≡ true → b ≡ true
both_right true b e = e
both_right false b e = absurd (cc (e))

above : (n : ℕ) → (n == 0) ≡ false → 0 < n
above n h = grind (arith, nat_tests, h)

-- who can't save is down, or its object can't be saved
prevented : (s : State) (p : ℕ) (able : Bool) → s.so_far.open_in p ≡ 0 → (able && s.up p) ≡ false → IsPrevented s p able (unable_cause (s.up p))
prevented s p able o h = at_up (s.up p) refl h
  where
    unable : (b : Bool) → (b && true) ≡ false → b ≡ false
    unable true e = absurd (cc (e))
    unable false e = refl

    at_up : (u : Bool) → s.up p ≡ u → (able && u) ≡ false → IsPrevented s p able (unable_cause u)
    at_up true e h = (o, e, unable able h)
    at_up false e h = (o, e)

module _ (x : ProtocolStep) (B A : State → Type 0) (M D : State → ℕ → ℕ → Type 0) (m : Moves x B A M D) where
  walk_closing : (s : State) (p k : ℕ) (c : Bool) → 0 < k → s.so_far.open_in p ≡ k → s.so_far.is_decided k ≡ true → s.so_far.is_committed k ≡ c → Invariant s → D s k p → Holds A (after_closing s p k c)
  walk_closing s p k c pos o d i g w = record { invariant = invariant_closing s p k c pos o d i g; claim = m.closes s k p c pos o d i g w }

  walk_settling : (s : State) (p k : ℕ) → s.so_far.joined k p ≡ true → s.so_far.is_decided k ≡ false → (p ≢ s.initiator k → s.has_answered k p ≡ false) → Invariant s → M s k p → Holds A (after_settling s p k)
  walk_settling s p k j d a g w = at_if (Holds A) (none_of s.processes (s.awaits k p)) _ _
      (λ b. let q = awaits_none s p k g b in at_if (Holds A) (p == s.initiator k) _ _
      (λ e. decide (same p (s.initiator k) e) q)
      (λ e. answer (differ p (s.initiator k) e) q))
      (λ b. record { invariant = g; claim = m.waits s k p j d b g w })
    where
      answer : p ≢ s.initiator k → ((v : ℕ) → s.awaits k p v ≡ false) → Holds A (after_answering s p k)
      answer n q = record { invariant = invariant_answering s p k j (a n) q g; claim = m.answers s k p j d n (a n) g w }

      decide : p ≡ s.initiator k → ((v : ℕ) → s.awaits k p v ≡ false) → Holds A (after_closing (after_deciding s p k) p k (s.all_willing k p))
      decide i q =
          let n = now_decided s p k (s.all_willing k p) (s.so_far.is_rollback k) in
          walk_closing (after_deciding s p k) p k (s.all_willing k p) (g.positions.joined_instance k p j).0 (same_open s p k p (s.all_willing k p) (s.so_far.is_rollback k) ∙ g.positions.member_open k p j d) n.0 n.1
          (invariant_deciding s p k g j d i q) (m.decides s k p j d i q g w)

  module _ (s : State) (p q k l : ℕ) (able : Bool) (rest : List Parcel) (is : x ≡ Take p q able) (e : s.channel q p ≡ Ask k l ∷ rest) (g : Invariant s) (b : B s) where
    walk_noted : s.so_far.open_in p ≡ k → Holds A (after_replying (after_noting s p q k l) p q k true rest)
    walk_noted o = record {
      invariant = invariant_replying (after_noting s p q k l) p q k l rest e (noted_invariant s p q k l rest e g) (safe_open s p q k l rest e g o) (λ r n f t a c. inl (g.positions.open_joined k p (ask_facts s q p k l rest e g).3 o, noted_here s p q k l));
      claim = m.notes s p q k l rest e o g b;
    }

    walk_ask : (is_ready s p ≡ false → s.held q p ≡ []) → Holds A (after_ask s p q able k l rest)
    walk_ask none = at_if (Holds A) (s.so_far.open_in p == k) _ _
        (λ o. walk_noted (same (s.so_far.open_in p) k o))
        (λ n. at_if (Holds A) (not (s.so_far.open_in p == 0)) _ _
        (λ o. record { invariant = invariant_unwilling s p q k l (Busy (s.so_far.open_in p)) rest e g; claim = m.is_busy s p q k l able rest is e n (above (s.so_far.open_in p) (not_true (s.so_far.open_in p == 0) o)) g b })
        (λ o. let o' = closed_of (s.so_far.open_in p) o in at_if (Holds A) (s.so_far.is_rollback k) _ _
        (λ r. at_if (Holds A) (must_roll s p q l) _ _ (λ t. rolls o' r t) (λ t. record { invariant = invariant_replying s p q k l rest e g (λ r'. absurd (cc (r, r'))) (λ _. safe_rollback s p q k l rest e g o' r t (none (idle o'))); claim = m.replies s p q k l rest e g b }))
        (λ r. at_if (Holds A) (not (must_take s p q l)) _ _
        (λ t. record { invariant = invariant_replying s p q k l rest e g (λ _. safe_closed s p q k l rest e g o' r (not_true (must_take s p q l) t)) (λ r'. absurd (cc (r, r'))); claim = m.replies s p q k l rest e g b })
        (λ t. at_if (Holds A) (not (able && s.up p)) _ _
        (λ u. record { invariant = invariant_unwilling s p q k l (unable_cause (s.up p)) rest e g; claim = m.is_unable s p q k l able rest is e o' r (not_false (must_take s p q l) t) (not_true (able && s.up p) u) g b })
        (λ u. joins o' r (not_false (must_take s p q l) t) (both_right able (s.up p) (not_false (able && s.up p) u)))))))
      where
        idle : s.so_far.open_in p ≡ 0 → is_ready s p ≡ false
        idle o = rw o refl

        joins : s.so_far.open_in p ≡ 0 → s.so_far.is_rollback k ≡ false → must_take s p q l ≡ true → s.up p ≡ true → Holds A (after_settling (after_joining_checkpoint s (with_rest s.channel q p rest) p k false q l) p k)
        joins o r t u = let j = joining s p q k l rest e g o r t in walk_settling (after_joining_checkpoint s (with_rest s.channel q p rest) p k false q l) p k
            (at_pair_here k p true s.so_far.joined) (ask_facts s q p k l rest e g).2 (λ _. at_pair_here k p false s.has_answered)
            (invariant_joining_checkpoint s (with_rest s.channel q p rest) p k false q l l j.0 j.1 g) (m.joins_checkpoint s p q k l rest e o r t u g b)

        rolls : s.so_far.open_in p ≡ 0 → s.so_far.is_rollback k ≡ true → must_roll s p q l ≡ true → Holds A (after_settling (after_joining_rollback (after_noting s p q k l) (with_rest s.channel q p rest) p k false q (s.last_received p q)) p k)
        rolls o r t = let j = rolling_in s p q k l rest e g o r t in walk_settling (after_joining_rollback (after_noting s p q k l) (with_rest s.channel q p rest) p k false q (s.last_received p q)) p k
            (at_pair_here k p true s.so_far.joined) (ask_facts s q p k l rest e g).2 (λ _. at_pair_here k p false s.has_answered)
            (invariant_joining_rollback (after_noting s p q k l) (with_rest s.channel q p rest) p k false q (s.last_received p q) l j.0 j.1 (noted_invariant s p q k l rest e g)) (m.joins_rollback s p q k l rest e o r t g b)

  walk_front : (s : State) (p q : ℕ) (able : Bool) (l : List Parcel) → x ≡ Take p q able → s.channel q p ≡ l → (is_ready s p ≡ false → s.held q p ≡ []) → Invariant s → B s → Holds A (after_front s p q able l)
  walk_front s p q able [] is e none g b = record { invariant = g; claim = m.stays s g b }
  walk_front s p q able (App n ∷ rest) is e none g b = at_if (Holds A) (is_ready s p) _ _
      (λ y. record { invariant = invariant_holding s p q n rest e g; claim = m.holds s p q n rest y e g b })
      (λ y. record { invariant = arrives y; claim = m.takes_channel s p q n rest y e (none y) g b })
    where
      arrives : is_ready s p ≡ false → Invariant (after_arrival s (with_rest s.channel q p rest) s.held p q n)
      arrives y = at_if Invariant (s.up p) _ _ (λ _. invariant_receiving s (with_rest s.channel q p rest) s.held p q n y (from_channel s p q n rest e g) g) (λ _. invariant_dropping s (with_rest s.channel q p rest) s.held p q n y (from_channel s p q n rest e g) g)
  walk_front s p q able (Ask k l ∷ rest) is e none g b = walk_ask s p q k l able rest is e g b none
  walk_front s p q able (Reply k w ∷ rest) is e none g b =
      let f = reply_facts s q p k w rest e g in
      walk_settling (after_reply s p q k w rest) p k f.1 f.2 (λ n. owes (s.has_answered k p) refl f.0 n) (invariant_reply s p q k w rest e g) (m.counts s p q k w rest e g b)
    where
      owes : (a : Bool) → s.has_answered k p ≡ a → s.awaits k p q ≡ true → p ≢ s.initiator k → s.has_answered k p ≡ false
      owes false h a n = h
      owes true h a n = let z = g.asks.answered_awaits k p q h n in absurd (cc (z, a))
  walk_front s p q able (Decide k c ∷ rest) is e none g b = at_if (Holds A) (s.so_far.open_in p == k) _ _
      (λ o. let f = decide_facts s q p k c rest e g in let o' = same (s.so_far.open_in p) k o in
      walk_closing (after_decision s p q rest) p k c (g.positions.decided_instance k f.0).0 o' f.0 f.1 (invariant_decision s p q k c rest e g) (m.hears s p q k c rest e o' g b))
      (λ o. record { invariant = invariant_decision s p q k c rest e g; claim = m.ignores s p q k c rest e o g b })

  walk_take : (s : State) (p q : ℕ) (able : Bool) (l : List Parcel) → x ≡ Take p q able → s.held q p ≡ l → Invariant s → B s → Holds A (after_take s p q able l)
  walk_take s p q able [] is e g b = walk_front s p q able (s.channel q p) is refl (λ _. e) g b
  walk_take s p q able (App n ∷ rest) is e g b = at_if (Holds A) (is_ready s p) _ _
      (λ y. walk_front s p q able (s.channel q p) is refl (λ z. absurd (cc (y, z))) g b)
      (λ y. record { invariant = arrives y; claim = m.takes_held s p q n rest y e g b })
    where
      arrives : is_ready s p ≡ false → Invariant (after_arrival s s.channel (with_rest s.held q p rest) p q n)
      arrives y = at_if Invariant (s.up p) _ _ (λ _. invariant_receiving s s.channel (with_rest s.held q p rest) p q n y (from_held s p q n rest e g) g) (λ _. invariant_dropping s s.channel (with_rest s.held q p rest) p q n y (from_held s p q n rest e g) g)
  walk_take s p q able (Ask k l ∷ rest) is e g b = record { invariant = g; claim = m.stays s g b }
  walk_take s p q able (Reply k w ∷ rest) is e g b = record { invariant = g; claim = m.stays s g b }
  walk_take s p q able (Decide k c ∷ rest) is e g b = record { invariant = g; claim = m.stays s g b }

  walk_refusal : (s : State) (p : ℕ) (v : Verb) (cause : Cause) → MayRefuse s p v cause x → Invariant s → B s → Holds A (after_refusal s p v cause)
  walk_refusal s p v cause may g b = record { invariant = invariant_refusal s p v cause g; claim = m.refuses s p v cause may g b }

  walk_checkpoint : (s : State) (p : ℕ) → s.so_far.open_in p ≡ 0 → s.up p ≡ true → Invariant s → B s → Holds A (after_beginning s p false)
  walk_checkpoint s p o u g b = walk_settling (after_joining_checkpoint (after_began s p false) s.channel p (s.instances + 1) true p 0) p (s.instances + 1)
      (at_pair_here (s.instances + 1) p true s.so_far.joined) (new_undecided s g) (λ n. absurd (n (sym (at_one_here (s.instances + 1) p s.initiator))))
      (invariant_joining_checkpoint (after_began s p false) s.channel p (s.instances + 1) true p 0 0 (new_joining s p false o g) (record { label = λ z. absurd (cc (z)) }) (invariant_began s p false g))
      (m.begins_checkpoint s p o u g b)

  walk_rollback : (s : State) (p : ℕ) → s.so_far.open_in p ≡ 0 → Invariant s → B s → Holds A (after_beginning s p true)
  walk_rollback s p o g b = walk_settling (after_joining_rollback (after_began s p true) s.channel p (s.instances + 1) true p 0) p (s.instances + 1)
      (at_pair_here (s.instances + 1) p true s.so_far.joined) (new_undecided s g) (λ n. absurd (n (sym (at_one_here (s.instances + 1) p s.initiator))))
      (invariant_joining_rollback (after_began s p true) s.channel p (s.instances + 1) true p 0 0 (new_joining s p true o g) (record { label = λ z. absurd (cc (z)); clear = λ z. absurd (cc (z)); noted = λ z. absurd (cc (z)) }) (invariant_began s p true g))
      (m.begins_rollback s p o g b)

  walk_begin : (s : State) (p : ℕ) (roll able : Bool) → x ≡ Begin p roll able → Invariant s → B s → Holds A (after_step s (Begin p roll able))
  walk_begin s p true able is g b = at_if (Holds A) (s.so_far.open_in p == 0) _ _
      (λ o. walk_rollback s p (same (s.so_far.open_in p) 0 o) g b)
      (λ o. walk_refusal s p verb.Rollback (Busy (s.so_far.open_in p)) (able, s.so_far.open_in p, is, refl, (above (s.so_far.open_in p) o, refl)) g b)
  walk_begin s p false able is g b = at_if (Holds A) (s.so_far.open_in p == 0) _ _
      (λ o. at_if (Holds A) (able && s.up p) _ _
      (λ u. walk_checkpoint s p (same (s.so_far.open_in p) 0 o) (both_right able (s.up p) u) g b)
      (λ u. walk_refusal s p verb.Checkpoint (unable_cause (s.up p)) (able, is, prevented s p able (same (s.so_far.open_in p) 0 o) u) g b))
      (λ o. walk_refusal s p verb.Checkpoint (Busy (s.so_far.open_in p)) (able, is, (above (s.so_far.open_in p) o, refl)) g b)

  walk : (s : State) (y : ProtocolStep) → x ≡ y → Invariant s → B s → Holds A (after_step s y)
  walk s (Send p q body) is g b = at_if (Holds A) ((nat_lt p s.processes && nat_lt q s.processes) && (s.so_far.open_in p == 0 && not (q == p))) _ _
      (λ t. let y = send_ok p q s.processes (s.so_far.open_in p) t in at_if (Holds A) (s.up p) _ _
      (λ u. record { invariant = invariant_sending s p q body y.0 y.1 y.2 g; claim = m.sends s p q body (apart q p (both_right (s.so_far.open_in p == 0) (not (q == p)) (both_right (nat_lt p s.processes && nat_lt q s.processes) (s.so_far.open_in p == 0 && not (q == p)) t))) y.2 u g b })
      (λ u. walk_refusal s p verb.Send Down (q, body, is, refl, y.2, u) g b))
      (λ _. record { invariant = g; claim = m.stays s g b })
    where
      send_ok : (p q n o : ℕ) → ((nat_lt p n && nat_lt q n) && (o == 0 && not (q == p))) ≡ true → (p < n) × (q < n) × (o ≡ 0)
      send_ok p q n o e = grind (arith, nat_tests, e)

      apart : (q p : ℕ) → not (q == p) ≡ true → q ≢ p
      apart q p e = grind (arith, nat_tests, e)
  walk s (Begin p roll able) is g b = walk_begin s p roll able is g b
  walk s (Fail p) is g b = at_if (Holds A) (s.up p) _ _
      (λ u. record { invariant = invariant_failing s p g; claim = m.fails s p u g b })
      (λ u. walk_refusal s p verb.Fail Down (is, refl, u) g b)
  walk s (Take p q able) is g b = walk_take s p q able (s.held q p) is refl g b

  pub walk_step : (s : State) → Invariant s → B s → Holds A (after_step s x)
  walk_step s g b = walk s x refl g b

-- nothing is claimed
no_claim : (x : ProtocolStep) → Moves x (λ s. Unit {0}) (λ s. Unit {0}) (λ s k p. Unit {0}) (λ s k p. Unit {0})
no_claim x = record {
  stays = λ s g b. tt;
  sends = λ s p q body n o u g b. tt;
  refuses = λ s p v c may g b. tt;
  fails = λ s p u g b. tt;
  begins_checkpoint = λ s p o u g b. tt;
  begins_rollback = λ s p o g b. tt;
  takes_channel = λ s p q m rest y e n g b. tt;
  takes_held = λ s p q m rest y e g b. tt;
  holds = λ s p q m rest y e g b. tt;
  joins_checkpoint = λ s p q k l rest e o r t u g b. tt;
  joins_rollback = λ s p q k l rest e o r t g b. tt;
  notes = λ s p q k l rest e o g b. tt;
  replies = λ s p q k l rest e g b. tt;
  is_busy = λ s p q k l able rest is e n o g b. tt;
  is_unable = λ s p q k l able rest is e o r t u g b. tt;
  counts = λ s p q k w rest e g b. tt;
  hears = λ s p q k c rest e o g b. tt;
  ignores = λ s p q k c rest e o g b. tt;
  waits = λ s k p j d n g w. tt;
  answers = λ s k p j d n a g w. tt;
  decides = λ s k p j d i q g w. tt;
  closes = λ s k p c pos o d i g w. tt;
}

pub invariant_step : (s : State) (x : ProtocolStep) → Invariant s → Invariant (after_step s x)
invariant_step s x g = (walk_step x (λ s. Unit {0}) (λ s. Unit {0}) (λ s k p. Unit {0}) (λ s k p. Unit {0}) (no_claim x) s g tt).invariant

-- a claim that each step keeps holds after every run
pub kept : (I : State → Type 0) → ((s : State) (x : ProtocolStep) → Invariant s → I s → I (after_step s x)) → (s : State) (steps : List ProtocolStep) → Invariant s → I s → I (run s steps)
kept I step s [] g i = i
kept I step s (x ∷ xs) g i = kept I step (after_step s x) xs (invariant_step s x g) (step s x g i)

pub invariant_run : (s : State) (steps : List ProtocolStep) → Invariant s → Invariant (run s steps)
invariant_run s [] g = g
invariant_run s (x ∷ xs) g = invariant_run (after_step s x) xs (invariant_step s x g)

pub invariant_after_run : (n : ℕ) (steps : List ProtocolStep) → Invariant (run (opening n) steps)
invariant_after_run n steps = invariant_run (opening n) steps (invariant_opening n)
