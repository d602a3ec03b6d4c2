-- What holds after each step.
use Rattle.std.specs.Prelude.{ℤ}
use Rattle.kt_base.specs.declared.words.Verb.{Verb}
use Rattle.std.proofs.Common.{◌≡◌, ◌≢◌, ℕ, zero, suc, ◌+◌, ◌≤◌, ◌<◌, Bool, true, false, not, List, ◌∷◌, refl, arith, sym, subst, inl, inr, ◌⊎◌, ◌∙◌}
use Rattle.std.specs.Prelude.{◌==◌, ◌&&◌, nat_lt, nat_le, if◌then◌else◌}
use Rattle.std.proofs.lemmas.Bool.{cases_eq, cases_lt}
use Rattle.std.proofs.lemmas.Bool.Decides.{nat_tests}
use Rattle.kt_base.specs.declared.words.Cause.{Cause}
use Rattle.kt_base.specs.declared.words.Cause.TheVariants.{Busy}
use Rattle.kt_meaning.specs.Past.{at_one, at_pair}
use Rattle.kt_protocol.proofs.AskedBefore.{AskedBefore, asked_before_answering, asked_before_deciding, asked_before_refusal, asked_before_decision, asked_before_failing, asked_before_holding, asked_before_joining_checkpoint, asked_before_dropping, asked_before_noting, asked_before_began, asked_before_opening, asked_before_receiving, asked_before_unwilling, asked_before_replying, asked_before_reply, asked_before_closing_rollback, asked_before_joining_rollback, asked_before_closing_checkpoint, asked_before_sending}
use Rattle.kt_protocol.proofs.Replying.{ask_facts}
use Rattle.kt_protocol.proofs.Deciding.{no_member_of_other, all_await_none}
use Rattle.kt_protocol.proofs.RisingLists.{falls_with_rest}
use Rattle.kt_protocol.proofs.Invariant.{Invariant, is_message, is_ask, is_child, is_reply, one}
use Rattle.kt_protocol.proofs.NotedFirst.{NotedFirst, before, before_ask, before_with_rest, noted_first_answering, noted_first_closing, noted_first_deciding, noted_first_refusal, noted_first_decision, noted_first_failing, noted_first_holding, noted_first_joining_checkpoint, noted_first_dropping, noted_first_noting, noted_first_began, noted_first_opening, noted_first_receiving, noted_first_unwilling, noted_first_replying, noted_first_reply, noted_first_joining_rollback, noted_first_sending, none_out, weaken}
use Rattle.kt_protocol.proofs.Ordered.{Front, IsFlying, Ordered, front_of_channel, front_of_held, ordered_answering, ordered_closing, ordered_deciding, ordered_refusal, ordered_decision, ordered_failing, ordered_holding, ordered_joining_checkpoint, ordered_dropping, ordered_noting, ordered_began, ordered_opening, ordered_receiving, ordered_unwilling, ordered_replying, ordered_reply, ordered_joining_rollback, ordered_sending, weigh_front}
use Rattle.kt_protocol.proofs.Updates.{at_one_other, is_same}
use Rattle.kt_protocol.proofs.Receiving.{Taking, message_facts}
use Rattle.kt_protocol.proofs.Waiting.{Waiting, waiting_answered, waiting_answering, waiting_closing, waiting_deciding, waiting_refusal, waiting_decision, waiting_failing, waiting_holding, waiting_ignores, waiting_joining_checkpoint, waiting_dropping, waiting_noting, waiting_began, waiting_opening, waiting_receiving, waiting_unwilling, waiting_replying, waiting_reply, waiting_joining_rollback, waiting_sending, waiting_shut}
use Rattle.kt_protocol.proofs.TablesSince.{TablesSince, tables_since_answering, tables_since_closing, tables_since_deciding, tables_since_refusal, tables_since_decision, tables_since_failing, tables_since_holding, tables_since_joining_checkpoint, tables_since_dropping, tables_since_noting, tables_since_began, tables_since_opening, tables_since_receiving, tables_since_unwilling, tables_since_replying, tables_since_reply, tables_since_joining_rollback, tables_since_sending}
use Rattle.kt_protocol.proofs.Beginning.{decide_facts}
use Rattle.kt_protocol.proofs.Transitions.{invariant_began, invariant_opening}
use Rattle.kt_protocol.proofs.StepFacts.{from_channel, from_held, joining, new_empty, new_joining, rolling_in}
use Rattle.kt_protocol.proofs.Choices.{at_if, differ, three, two}
use Rattle.kt_protocol.proofs.Counting.{Counted, counted_answering, counted_closing, counted_deciding, counted_refusal, counted_decision, counted_failing, counted_holding, counted_joining_checkpoint, counted_dropping, counted_noting, counted_began, counted_opening, counted_receiving, counted_unwilling, counted_replying, counted_reply, counted_joining_rollback, counted_sending}
use Rattle.kt_protocol.proofs.Tells.{Tells, tells_answering, tells_closing, tells_deciding, tells_refusal, tells_decision, tells_failing, tells_holding, tells_joining_checkpoint, tells_dropping, tells_noting, tells_began, tells_opening, tells_receiving, tells_unwilling, tells_replying, tells_reply, tells_joining_rollback, tells_sending}
use Rattle.kt_protocol.proofs.Weights.{behind, front_ask, weigh}
use Rattle.kt_protocol.specs.Parcels.{App, Ask, Decide, Parcel, Lists, with_rest}
use Rattle.kt_protocol.specs.States.{State, ProtocolStep, is_ready, opening}
use Rattle.kt_protocol.specs.Replies.{after_answering, after_noting, after_unwilling, after_replying, unable_cause}
use Rattle.kt_protocol.specs.Messages.{after_arrival, after_refusal, after_sending}
use Rattle.kt_protocol.specs.Steps.{after_step, run}
use Rattle.kt_protocol.specs.Deciding.{after_closing, after_deciding_as, after_deciding, after_decision, none_of, after_closing_rollback, after_closing_checkpoint}
use Rattle.kt_protocol.specs.Joining.{must_roll, must_take, after_began, after_joining_rollback, after_joining_checkpoint}
use Rattle.kt_protocol.proofs.Askers.{outside}
use Rattle.kt_protocol.proofs.Walk.{Moves, walk_step, kept}

-- at each point of a step
pub record AtEachPoint (s : State) : Type 0 where
  pub asked : AskedBefore s
  pub counted : Counted s
  pub tables : TablesSince s
  pub ordered : Ordered s
  pub tells : Tells s
  pub begun : (k : ℕ) → 0 < k → k ≤ s.instances → s.so_far.joined k (s.initiator k) ≡ true

-- after each step
pub record AfterStep (s : State) : Type 0 where
  pub always : AtEachPoint s
  pub noted : NotedFirst s none_out
  pub waiting : (j u : ℕ) → Waiting s j u

-- within a step, where p of instance k has still to settle
pub record Unsettled (out : ℕ → Bool) (s : State) (k p : ℕ) : Type 0 where
  pub always : AtEachPoint s
  pub noted : NotedFirst s out
  pub waiting : (j u : ℕ) → (j == k && u == p) ≡ false → Waiting s j u

settled : (s : State) (k p : ℕ) → Unsettled none_out s k p → Waiting s k p → AfterStep s
settled s k p h r = record { always = h.always; noted = h.noted; waiting = λ j u. at_test j u (j == k && u == p) refl }
  where
    at_test : (j u : ℕ) (b : Bool) → (j == k && u == p) ≡ b → Waiting s j u
    at_test j u true e = let z = two j k u p e in rw (z.0, z.1) r
    at_test j u false e = h.waiting j u e

awaited_by : (n : ℕ) (f : ℕ → Bool) → none_of n f ≡ false → (v : ℕ) × (f v ≡ true)
awaited_by zero f h = absurd (cc (h))
awaited_by (suc n) f h = at_test (λ x. awaited_by n f x) (f n) refl h
  where
    at_test : (none_of n f ≡ false → (v : ℕ) × (f v ≡ true)) → (b : Bool) → f n ≡ b → (not b && none_of n f) ≡ false → (v : ℕ) × (f v ≡ true)
    at_test ih true e h = (n, e)
    at_test ih false e h = ih h

awaits_it : (x y : ℕ) (a b : Bool) → 0 < x → x + one a + y ≡ one b → b ≡ true
awaits_it x y a b l e = grind (arith, nat_tests, l, e)

-- who has an ask in transit
asker : (s : State) → Invariant s → (i u v : ℕ) → 0 < weigh (is_ask i) (s.channel u v) → (s.awaits i u v ≡ true) × (s.so_far.joined i u ≡ true) × (s.so_far.is_decided i ≡ false)
asker s g i u v h =
    let a = awaits_it (weigh (is_ask i) (s.channel u v)) (weigh (is_reply i) (s.channel v u)) (is_child s i u v) (s.awaits i u v) h (g.asks.one_each i u v) in
    let b = g.asks.awaits_joined i u v a in
    (a, b.0, b.1)

no_asks : (s : State) (p : ℕ) → Invariant s → ((i : ℕ) → s.so_far.joined i p ≡ true → s.so_far.is_decided i ≡ false → ⊥) → (i v : ℕ) → weigh (is_ask i) (s.channel p v) ≡ 0
no_asks s p g none i v = elim (cases_lt 0 (weigh (is_ask i) (s.channel p v))) [
  | inl h ↦ (let a = asker s g i p v h in absurd (none i a.1 a.2))
  | inr h ↦ omega (arith, h)
]

closed_asks : (s : State) (p : ℕ) → Invariant s → s.so_far.open_in p ≡ 0 → (i v : ℕ) → weigh (is_ask i) (s.channel p v) ≡ 0
closed_asks s p g o = no_asks s p g (λ i a b. (let x = g.positions.member_open i p a b in let y = (g.positions.joined_instance i p a).0 in omega (arith, x, y, o)))

-- what is in transit from u to v
pub in_transit_facts : (s : State) → Invariant s → (u v n : ℕ) → 0 < weigh (is_message n) (s.channel u v) + weigh (is_message n) (s.held u v) → IsFlying s n × (s.so_far.from n ≡ u) × (s.so_far.to n ≡ v)
in_transit_facts s g u v n h = facts (s.so_far.is_sent n) (s.so_far.is_received n) (s.so_far.dropped n) (s.so_far.from n) u (s.so_far.to n) v _ (g.messages.flying n u v) h
  where
    facts : (a b c : Bool) (x u y v w : ℕ) → w ≡ one (a && not b && not c && x == u && y == v) → 0 < w → ((a ≡ true) × (b ≡ false) × (c ≡ false)) × (x ≡ u) × (y ≡ v)
    facts a b c x u y v w e l = grind (arith, nat_tests, e, l)

weight_in_transit : (s : State) → Invariant s → (u v n : ℕ) → IsFlying s n → s.so_far.from n ≡ u → s.so_far.to n ≡ v → 0 < weigh (is_message n) (s.channel u v) + weigh (is_message n) (s.held u v)
weight_in_transit s g u v n a x y = facts (s.so_far.is_sent n) (s.so_far.is_received n) (s.so_far.dropped n) (s.so_far.from n) u (s.so_far.to n) v _ (g.messages.flying n u v) a.0 a.1 a.2 x y
  where
    facts : (a b c : Bool) (x u y v w : ℕ) → w ≡ one (a && not b && not c && x == u && y == v) → a ≡ true → b ≡ false → c ≡ false → x ≡ u → y ≡ v → 0 < w
    facts a b c x u y v w e i j k m n = grind (arith, nat_tests, e, i, j, k, m, n)

kept_facts : (s : State) → Invariant s → (u v n : ℕ) → 0 < weigh (is_message n) (s.kept u v) → (s.so_far.is_received n ≡ true) × (s.so_far.from n ≡ u) × (s.so_far.to n ≡ v)
kept_facts s g u v n h = facts (s.so_far.is_received n) (nat_le (s.so_far.permanent v) (s.so_far.received_at n)) (s.so_far.from n) u (s.so_far.to n) v _ (g.messages.kept_is n v u) h
  where
    facts : (a b : Bool) (x u y v w : ℕ) → w ≡ one (a && x == u && y == v && b) → 0 < w → (a ≡ true) × (x ≡ u) × (y ≡ v)
    facts a b x u y v w e l = grind (arith, nat_tests, e, l)

channel_low : (s : State) (p q m : ℕ) (rest : List Parcel) → s.channel q p ≡ App m ∷ rest → Invariant s → 0 < m
channel_low s p q m rest e g = let x = weigh_front s.channel q p m rest e in (g.messages.sent_low m (in_transit_facts s g q p m (omega (arith, x))).0.0).0

deciding_keeps : (s : State) (p k : ℕ) (c roll : Bool) → s.so_far.is_rollback k ≡ roll → Invariant s → s.so_far.is_decided k ≡ false → p ≡ s.initiator k → 0 < k → ((u v : ℕ) → s.awaits k u v ≡ false) → Unsettled none_out s k p → Unsettled none_out (after_deciding_as c roll s p k) k p
deciding_keeps s p k c roll r g d i pos quiet h = go c roll r
  where
    far : (j u v : ℕ) → 0 < weigh (is_ask j) (s.channel u v) → s.so_far.joined k u ≡ false
    far j u v a = let x = asker s g j u v a in no_member_of_other s k j u g d x.2 (λ e. (let y : s.awaits k u v ≡ true = rw e at x.0 in let z = quiet u v in cc (y, z))) x.1

    up : (u : ℕ) → s.so_far.open_in u ≡ k → u ≢ p → s.so_far.open_in (s.parent k u) ≡ k
    up u o n = g.positions.member_open k (s.parent k u) (g.asks.parent_first k u (g.positions.open_joined k u pos o) (λ e. n (e ∙ sym i))).0 d

    go : (c roll : Bool) → s.so_far.is_rollback k ≡ roll → Unsettled none_out (after_deciding_as c roll s p k) k p
    go false roll r = record { always = record { asked = asked_before_deciding s p k false roll h.always.asked; counted = counted_deciding s p k false roll h.always.counted; tables = tables_since_deciding s p k false roll far h.always.tables; ordered = ordered_deciding s p k false roll (kept_facts s g) (in_transit_facts s g) h.always.ordered; tells = tells_deciding s p k false roll r (λ u o. g.positions.open_joined k u pos o) h.always.tells; begun = h.always.begun }; noted = noted_first_deciding s p k false roll h.noted; waiting = λ j u n. waiting_deciding s p k false roll i up j u n (h.waiting j u n) }
    go true false r = record { always = record { asked = asked_before_deciding s p k true false h.always.asked; counted = counted_deciding s p k true false h.always.counted; tables = tables_since_deciding s p k true false far h.always.tables; ordered = ordered_deciding s p k true false (kept_facts s g) (in_transit_facts s g) h.always.ordered; tells = tells_deciding s p k true false r (λ u o. g.positions.open_joined k u pos o) h.always.tells; begun = h.always.begun }; noted = noted_first_deciding s p k true false h.noted; waiting = λ j u n. waiting_deciding s p k true false i up j u n (h.waiting j u n) }
    go true true r = record { always = record { asked = asked_before_deciding s p k true true h.always.asked; counted = counted_deciding s p k true true h.always.counted; tables = tables_since_deciding s p k true true far h.always.tables; ordered = ordered_deciding s p k true true (kept_facts s g) (in_transit_facts s g) h.always.ordered; tells = tells_deciding s p k true true r (λ u o. g.positions.open_joined k u pos o) h.always.tells; begun = h.always.begun }; noted = noted_first_deciding s p k true true h.noted; waiting = λ j u n. waiting_deciding s p k true true i up j u n (h.waiting j u n) }

closing_keeps : (s : State) (p k : ℕ) (c : Bool) → Invariant s → 0 < k → s.so_far.open_in p ≡ k → s.so_far.is_decided k ≡ true → Unsettled (λ u. u == p) s k p → AfterStep (after_closing s p k c)
closing_keeps s p k c g pos o d h = settled (after_closing s p k c) k p closed (waiting_shut s p k c pos d)
  where
    away : (i : ℕ) → s.so_far.joined i p ≡ true → s.so_far.is_decided i ≡ false → ⊥
    away i a b = let x = g.positions.member_open i p a b in let y : s.so_far.is_decided k ≡ false = rw (sym x ∙ o) at b in cc (y, d)

    go : (c roll : Bool) → AskedBefore (if roll then after_closing_rollback s p k c else after_closing_checkpoint s p k c)
    go c true = asked_before_closing_rollback s p k c h.always.asked
    go c false = asked_before_closing_checkpoint s p k c h.always.asked

    begun_after : (c roll : Bool) → (i : ℕ) → 0 < i → i ≤ (if roll then after_closing_rollback s p k c else after_closing_checkpoint s p k c).instances → (if roll then after_closing_rollback s p k c else after_closing_checkpoint s p k c).so_far.joined i ((if roll then after_closing_rollback s p k c else after_closing_checkpoint s p k c).initiator i) ≡ true
    begun_after c true = h.always.begun
    begun_after true false = h.always.begun
    begun_after false false = h.always.begun

    closed : Unsettled none_out (after_closing s p k c) k p
    closed = record { always = record { asked = go c (s.so_far.is_rollback k); counted = counted_closing s p k c pos o d (λ i e. (g.positions.decided_instance i e).0) h.always.counted; tables = tables_since_closing s p k c pos o (g.positions.saved_low p).0 (no_asks s p g (λ i a b. away i a b)) h.always.tables; ordered = ordered_closing s p k c h.always.ordered; tells = tells_closing s p k c d h.always.tells; begun = begun_after c (s.so_far.is_rollback k) }; noted = noted_first_closing s p k c o h.noted; waiting = λ j u n. waiting_closing s p k c o h.always.asked.asked_parent g.positions.open_joined j u n (h.waiting j u n) }

positive : (n : ℕ) → nat_lt 0 n ≡ true → 0 < n
positive n e = grind (arith, nat_tests, e)

parents : (s : State) → Invariant s → (i q : ℕ) → s.so_far.joined i q ≡ true → q ≢ s.initiator i → s.so_far.joined i (s.parent i q) ≡ true
parents s g i q a n = (g.asks.parent_first i q a n).0

-- who is asked
last_received_low : (s : State) → Invariant s → Counted s → (p v : ℕ) → nat_lt 0 (s.last_received p v) ≡ true → (p < s.processes) × (v < s.processes) × (p ≢ v)
last_received_low s g t p v e =
    let x = g.tables.last_received_is p v (positive (s.last_received p v) e) in
    let y = (g.messages.received_low (s.last_received p v) x.0).0 in
    let z = g.messages.sent_low (s.last_received p v) y in
    (rw x.2 at z.4, rw x.1 at z.3, λ w. t.no_self (s.last_received p v) y (x.1 ∙ sym w ∙ sym x.2))

first_sent_low : (s : State) → Invariant s → Counted s → (p v : ℕ) → nat_lt 0 (s.first_sent p v) ≡ true → (p < s.processes) × (v < s.processes) × (p ≢ v)
first_sent_low s g t p v e =
    let x = g.tables.first_sent_is p v (positive (s.first_sent p v) e) in
    let z = g.messages.sent_low (s.first_sent p v) x.0 in
    (rw x.1 at z.3, rw x.2 at z.4, λ w. t.no_self (s.first_sent p v) x.0 (x.1 ∙ w ∙ sym x.2))

joined_still : (joined : ℕ → ℕ → Bool) (k p i u : ℕ) → joined i u ≡ true → at_pair k p true joined i u ≡ true
joined_still joined k p i u h = go (i == k && u == p)
  where
    go : (b : Bool) → (if b then true else joined i u) ≡ true
    go true = refl
    go false = h

module _ (s : State) (p q k l : ℕ) (rest : List Parcel) (e : s.channel q p ≡ Ask k l ∷ rest) (g : Invariant s) (h : AfterStep s) where
  replies : AfterStep (after_replying s p q k true rest)
  replies = record { always = record { asked = asked_before_replying s p q k true rest h.always.asked; counted = counted_replying s p q k l true rest e h.always.counted; tables = tables_since_replying s p q k l true rest e h.always.tables; ordered = ordered_replying s p q k l true rest e h.always.ordered; tells = tells_replying s p q k l true rest e h.always.tells; begun = h.always.begun }; noted = noted_first_replying s p q k l true rest e h.noted; waiting = λ j u. waiting_replying s p q k l true rest e j u (h.waiting j u) }

  no_message : before k (s.channel q p) ≡ 0
  no_message = subst (λ (x : List Parcel). before k x ≡ 0) (sym e) (before_ask k l rest (front_ask k l rest (subst (λ (x : List Parcel). behind x ≡ 0) e (g.messages.messages_first q p))))

  asked_now : s.asked k q p ≡ true
  asked_now = h.always.asked.asked_awaits k q p (ask_facts s q p k l rest e g).0

  asked_in : (i u v : ℕ) → s.asked i u v ≡ true → s.so_far.joined i u ≡ true
  asked_in i u v a = (h.always.counted.asked_low i u v a).0

  shut_in : (i u : ℕ) → s.has_closed i u ≡ true → s.so_far.is_decided i ≡ true
  shut_in i u a = (h.always.counted.has_closed_is i u a).0

  less : (i y u : ℕ) → before i (s.channel y u) ≡ 0 → before i (with_rest s.channel q p rest y u) ≡ 0
  less i y u x = before_with_rest i s.channel q p (Ask k l) rest e y u (λ _ _. refl) x

  noted_cases : (i u y : ℕ) → (after_noting s p q k l).noted i u y ≡ true → s.so_far.joined k p ≡ false → (s.noted i u y ≡ true) ⊎ ((i ≡ k) × (u ≡ p) × (y ≢ p) × (s.asked k y p ≡ true) × (before k (s.channel y p) ≡ 0))
  noted_cases i u y a out = at_test (i == k && u == p && y == q) refl a
    where
      at_test : (b : Bool) → (i == k && u == p && y == q) ≡ b → (if b then true else s.noted i u y) ≡ true → (s.noted i u y ≡ true) ⊎ ((i ≡ k) × (u ≡ p) × (y ≢ p) × (s.asked k y p ≡ true) × (before k (s.channel y p) ≡ 0))
      at_test false z a = inl a
      at_test true z a = let w = three i k u p y q z in inr (w.0, w.1, (λ v. (let x : s.so_far.joined k p ≡ true = rw (sym v ∙ w.2) (asked_in k q p asked_now) in cc (x, out))), rw w.2 asked_now, rw w.2 no_message)

  notes_replies : s.so_far.open_in p ≡ k → AfterStep (after_replying (after_noting s p q k l) p q k true rest)
  notes_replies o = record { always = record { asked = asked_before_replying (after_noting s p q k l) p q k true rest (asked_before_noting s p q k l h.always.asked); counted = counted_replying (after_noting s p q k l) p q k l true rest e (counted_noting s p q k l h.always.counted); tables = tables_since_replying (after_noting s p q k l) p q k l true rest e (tables_since_noting s p q k l h.always.tables); ordered = ordered_replying (after_noting s p q k l) p q k l true rest e (ordered_noting s p q k l h.always.ordered); tells = tells_replying (after_noting s p q k l) p q k l true rest e (tells_noting s p q k l h.always.tells); begun = h.always.begun }; noted = noted_first_replying (after_noting s p q k l) p q k l true rest e (noted_first_noting s p q k l (g.positions.open_joined k p (ask_facts s q p k l rest e g).3 o) asked_now no_message h.noted); waiting = λ j u. waiting_replying (after_noting s p q k l) p q k l true rest e j u (waiting_noting s p q k l j u (h.waiting j u)) }

  refuses : (cause : Cause) → AfterStep (after_unwilling s p q k cause rest)
  refuses x = record { always = record { asked = asked_before_unwilling s p q k x rest h.always.asked; counted = counted_unwilling s p q k l x rest e h.always.counted; tables = tables_since_unwilling s p q k l x rest e h.always.tables; ordered = ordered_unwilling s p q k l x rest e h.always.ordered; tells = tells_unwilling s p q k l x rest e h.always.tells; begun = h.always.begun }; noted = noted_first_unwilling s p q k l x rest e h.noted; waiting = λ j u. waiting_unwilling s p q k l x rest e j u (h.waiting j u) }

  joins : s.so_far.open_in p ≡ 0 → s.so_far.is_rollback k ≡ false → must_take s p q l ≡ true → Unsettled none_out (after_joining_checkpoint s (with_rest s.channel q p rest) p k false q l) k p
  joins o r m =
      let j = joining s p q k l rest e g o r m in
      let f = ask_facts s q p k l rest e g in
      let out = outside s k p g o f.3 f.2 in
      record { always = record { asked = asked_before_joining_checkpoint s (with_rest s.channel q p rest) p k false q l l j.0 out (parents s g) h.always.asked; counted = counted_joining_checkpoint s (with_rest s.channel q p rest) p k false q l l j.0 out (last_received_low s g h.always.counted p) h.always.counted; tables = tables_since_joining_checkpoint s (with_rest s.channel q p rest) p k false q l l j.0 (closed_asks s p g o) (g.positions.saved_low p).0 h.always.tables; ordered = ordered_joining_checkpoint s (with_rest s.channel q p rest) p k false q l l j.0 (falls_with_rest s.channel q p (Ask k l) rest e h.always.ordered.channel_rises) h.always.ordered; tells = tells_joining_checkpoint s (with_rest s.channel q p rest) p k false q l l j.0 h.always.tells; begun = λ i a b. joined_still s.so_far.joined k p i (s.initiator i) (h.always.begun i a b) }; noted = noted_first_joining_checkpoint s (with_rest s.channel q p rest) p k false q l l j.0 o (λ i a. (g.positions.joined_instance i p a).0) out asked_in shut_in less h.noted; waiting = λ i u n. waiting_joining_checkpoint s (with_rest s.channel q p rest) p k false q l l j.0 i u n (h.waiting i u) }

  rolls : s.so_far.open_in p ≡ 0 → s.so_far.is_rollback k ≡ true → must_roll s p q l ≡ true → Unsettled none_out (after_joining_rollback (after_noting s p q k l) (with_rest s.channel q p rest) p k false q (s.last_received p q)) k p
  rolls o r m =
      let j = rolling_in s p q k l rest e g o r m in
      let f = ask_facts s q p k l rest e g in
      let out = outside s k p g o f.3 f.2 in
      let t = after_noting s p q k l in
      record { always = record { asked = asked_before_joining_rollback t (with_rest s.channel q p rest) p k false q (s.last_received p q) l j.0 out (parents s g) (asked_before_noting s p q k l h.always.asked); counted = counted_joining_rollback t (with_rest s.channel q p rest) p k false q (s.last_received p q) l j.0 out (first_sent_low s g h.always.counted p) (counted_noting s p q k l h.always.counted); tables = tables_since_joining_rollback t (with_rest s.channel q p rest) p k false q (s.last_received p q) l j.0 (closed_asks s p g o) (tables_since_noting s p q k l h.always.tables); ordered = ordered_joining_rollback t (with_rest s.channel q p rest) p k false q (s.last_received p q) l j.0 (falls_with_rest s.channel q p (Ask k l) rest e h.always.ordered.channel_rises) (ordered_noting s p q k l h.always.ordered); tells = tells_joining_rollback t (with_rest s.channel q p rest) p k false q (s.last_received p q) l j.0 (tells_noting s p q k l h.always.tells); begun = λ i a b. joined_still s.so_far.joined k p i (s.initiator i) (h.always.begun i a b) }; noted = noted_first_joining_rollback s t.noted t.noted_label (with_rest s.channel q p rest) p k false q (s.last_received p q) l j.0 o (λ i a. (g.positions.joined_instance i p a).0) out asked_in shut_in less (λ i u y a. noted_cases i u y a out) h.noted; waiting = λ i u n. waiting_joining_rollback t (with_rest s.channel q p rest) p k false q (s.last_received p q) l j.0 i u n (waiting_noting s p q k l i u (h.waiting i u)) }

module _ (s : State) (p : ℕ) (o : s.so_far.open_in p ≡ 0) (g : Invariant s) (h : AfterStep s) where
  low : (k u : ℕ) → s.so_far.joined k u ≡ true → k ≤ s.instances
  low k u a = (g.positions.joined_instance k u a).1

  began_asked : (roll : Bool) → AskedBefore (after_began s p roll)
  began_asked roll = asked_before_began s p roll low h.always.asked

  began_tables : (roll : Bool) → TablesSince (after_began s p roll)
  began_tables roll = tables_since_began s p roll (λ i u a b. low i u (g.positions.open_joined i u a b)) (λ i u v a. low i u (asker s g i u v a).1) h.always.tables

  began_tells : (roll : Bool) → Tells (after_began s p roll)
  began_tells roll = tells_began s p roll (λ i u a b. low i u (g.positions.open_joined i u a b)) h.always.tells

  began_waiting : (roll : Bool) (j u : ℕ) → Waiting (after_began s p roll) j u
  began_waiting roll j u = waiting_began s p roll j u low (g.positions.open_joined j u) (h.waiting j u)

  begun_now : (i : ℕ) → 0 < i → i ≤ s.instances + 1 → at_pair (s.instances + 1) p true s.so_far.joined i (at_one (s.instances + 1) p s.initiator i) ≡ true
  begun_now i a b = elim (cases_eq i (s.instances + 1)) [
    | inl e ↦ rw (e, is_same (s.instances + 1), is_same p) refl
    | inr n ↦ rw (at_one_other (s.instances + 1) i p s.initiator n) (joined_still s.so_far.joined (s.instances + 1) p i (s.initiator i) (h.always.begun i a (omega (arith, b, n))))
  ]

  begins_checkpoint : Unsettled none_out (after_joining_checkpoint (after_began s p false) s.channel p (s.instances + 1) true p 0) (s.instances + 1) p
  begins_checkpoint =
      let t = after_began s p false in
      let j = new_joining s p false o g in
      let k = s.instances + 1 in
      let gt = invariant_began s p false g in
      record { always = record { asked = asked_before_joining_checkpoint t s.channel p k true p 0 0 j (new_empty s g p) (parents t gt) (began_asked false); counted = counted_joining_checkpoint t s.channel p k true p 0 0 j (new_empty s g p) (last_received_low s g h.always.counted p) (counted_began s p false h.always.counted); tables = tables_since_joining_checkpoint t s.channel p k true p 0 0 j (closed_asks s p g o) (g.positions.saved_low p).0 (began_tables false); ordered = ordered_joining_checkpoint t s.channel p k true p 0 0 j h.always.ordered.channel_rises (ordered_began s p false h.always.ordered); tells = tells_joining_checkpoint t s.channel p k true p 0 0 j (began_tells false); begun = begun_now }; noted = noted_first_joining_checkpoint t s.channel p k true p 0 0 j o (λ i a. (g.positions.joined_instance i p a).0) (new_empty s g p) (λ i u v a. (h.always.counted.asked_low i u v a).0) (λ i u a. (h.always.counted.has_closed_is i u a).0) (λ i y u x. x) (noted_first_began s p false h.noted); waiting = λ i u n. waiting_joining_checkpoint t s.channel p k true p 0 0 j i u n (began_waiting false i u) }

  begins_rollback : Unsettled none_out (after_joining_rollback (after_began s p true) s.channel p (s.instances + 1) true p 0) (s.instances + 1) p
  begins_rollback =
      let t = after_began s p true in
      let j = new_joining s p true o g in
      let k = s.instances + 1 in
      let gt = invariant_began s p true g in
      record { always = record { asked = asked_before_joining_rollback t s.channel p k true p 0 0 j (new_empty s g p) (parents t gt) (began_asked true); counted = counted_joining_rollback t s.channel p k true p 0 0 j (new_empty s g p) (first_sent_low s g h.always.counted p) (counted_began s p true h.always.counted); tables = tables_since_joining_rollback t s.channel p k true p 0 0 j (closed_asks s p g o) (began_tables true); ordered = ordered_joining_rollback t s.channel p k true p 0 0 j h.always.ordered.channel_rises (ordered_began s p true h.always.ordered); tells = tells_joining_rollback t s.channel p k true p 0 0 j (began_tells true); begun = begun_now }; noted = noted_first_joining_rollback t t.noted t.noted_label s.channel p k true p 0 0 j o (λ i a. (g.positions.joined_instance i p a).0) (new_empty s g p) (λ i u v a. (h.always.counted.asked_low i u v a).0) (λ i u a. (h.always.counted.has_closed_is i u a).0) (λ i y u x. x) (λ i u y a. inl a) (noted_first_began s p true h.noted); waiting = λ i u n. waiting_joining_rollback t s.channel p k true p 0 0 j i u n (began_waiting true i u) }

arrival_keeps : (s : State) (channel held : Lists) (p q m : ℕ) → Taking s channel held p q m → Front s channel held p q m → is_ready s p ≡ false → ((k u v : ℕ) → before k (s.channel u v) ≡ 0 → before k (channel u v) ≡ 0) → Invariant s → AfterStep s → AfterStep (after_arrival s channel held p q m)
arrival_keeps s channel held p q m t f idle less g h = at_if AfterStep (s.up p) _ _
    (λ _. record { always = record { asked = asked_before_receiving s channel held p q m h.always.asked; counted = counted_receiving s channel held p q m t h.always.counted; tables = tables_since_receiving s channel held p q m t (g.positions.saved_low p).1 (λ u v a. not_got (s.last_received u v) (g.tables.last_received_is u v a).0) (λ k u v a b c d. not_got (s.last_received_aside u v) (g.tables.aside_last_is k u v a b c d).0) h.always.tables; ordered = ordered_receiving s channel held p q m t f at.0 at.1 at.2 (low at.0.0).0 (low at.0.0).1 (λ n a. (g.messages.received_low n a).1) (λ n a x y. weight_in_transit s g q p n a x y) (kept_facts s g q p) h.always.ordered; tells = tells_receiving s channel held p q m t f idle h.always.tells; begun = h.always.begun }; noted = noted_first_receiving s channel held p q m t less h.noted; waiting = λ j u. waiting_receiving s channel held p q m t j u (h.waiting j u) })
    (λ _. record { always = record { asked = asked_before_dropping s channel held p q m h.always.asked; counted = counted_dropping s channel held p q m t h.always.counted; tables = tables_since_dropping s channel held p q m t h.always.tables; ordered = ordered_dropping s channel held p q m t f (low at.0.0).0 (low at.0.0).1 h.always.ordered; tells = tells_dropping s channel held p q m t f idle h.always.tells; begun = h.always.begun }; noted = noted_first_dropping s channel held p q m t less h.noted; waiting = λ j u. waiting_dropping s channel held p q m t j u (h.waiting j u) })
  where
    at : IsFlying s m × (s.so_far.from m ≡ q) × (s.so_far.to m ≡ p)
    at = in_transit_facts s g q p m f.there

    low : s.so_far.is_sent m ≡ true → (0 < m) × (m ≤ s.so_far.rows)
    low a = let x = g.messages.sent_low m a in (x.0, x.1)

    not_got : (n : ℕ) → s.so_far.is_received n ≡ true → n ≢ m
    not_got n a e = let y : s.so_far.is_received m ≡ true = rw e at a in let f = (message_facts s channel held p q m t g).1 in cc (y, f)

refusal_keeps : (s : State) (p : ℕ) (v : Verb) (c : Cause) → AfterStep s → AfterStep (after_refusal s p v c)
refusal_keeps s p v c h = record { always = record { asked = asked_before_refusal s p v c h.always.asked; counted = counted_refusal s p v c h.always.counted; tables = tables_since_refusal s p v c h.always.tables; ordered = ordered_refusal s p v c h.always.ordered; tells = tells_refusal s p v c h.always.tells; begun = h.always.begun }; noted = noted_first_refusal s p v c h.noted; waiting = λ j u. waiting_refusal s p j u v c (h.waiting j u) }

sending_keeps : (s : State) (p q : ℕ) (body : ℤ) → s.so_far.open_in p ≡ 0 → p ≢ q → Invariant s → AfterStep s → AfterStep (after_sending s p q body)
sending_keeps s p q body o n g h = record { always = record { asked = asked_before_sending s p q body h.always.asked; counted = counted_sending s p q body n h.always.counted; tables = tables_since_sending s p q body h.always.tables; ordered = ordered_sending s p q body (λ u v n a. (g.messages.sent_low n (in_transit_facts s g u v n a).0.0).1) (λ n a. (g.messages.sent_low n (g.messages.received_low n a).0).1) h.always.ordered; tells = tells_sending s p q body h.always.tells; begun = h.always.begun }; noted = noted_first_sending s p q body o (λ k u v a. (h.always.counted.asked_low k u v a).0) h.noted; waiting = λ j u. waiting_sending s p q j u body (h.waiting j u) }

pub opening_has : (n : ℕ) → AfterStep (opening n)
opening_has n = record { always = record { asked = asked_before_opening n; counted = counted_opening n; tables = tables_since_opening n; ordered = ordered_opening n; tells = tells_opening n; begun = λ k a b. absurd (omega (arith, a, b)) }; noted = noted_first_opening n; waiting = λ j u. waiting_opening n j u }

unlike : (u p : ℕ) → (u == p) ≡ false → u ≡ p → ⊥
unlike u p z v = grind (arith, nat_tests, z, v)

heard : (out : ℕ → Bool) (s : State) (p q k : ℕ) (c : Bool) (rest : List Parcel) → s.channel q p ≡ Decide k c ∷ rest → AfterStep s → NotedFirst (after_decision s p q rest) out → Unsettled out (after_decision s p q rest) k p
heard out s p q k c rest e h noted = record { always = record { asked = asked_before_decision s p q rest h.always.asked; counted = counted_decision s p q k c rest e h.always.counted; tables = tables_since_decision s p q k c rest e h.always.tables; ordered = ordered_decision s p q k c rest e h.always.ordered; tells = tells_decision s p q k c rest e h.always.tells; begun = h.always.begun }; noted = noted; waiting = λ j u n. waiting_decision s p q k c rest e j u n (h.waiting j u) }

-- where all is known of p but that it has closed k
decided : (s : State) (k p : ℕ) → s.so_far.joined k p ≡ true → s.so_far.is_decided k ≡ false → p ≡ s.initiator k → ((v : ℕ) → s.awaits k p v ≡ false) → Invariant s → Unsettled none_out s k p → Unsettled (λ u. u == p) (after_deciding s p k) k p
decided s k p j d i q g w =
    let x = deciding_keeps s p k (s.all_willing k p) (s.so_far.is_rollback k) refl g d i (g.positions.joined_instance k p j).0 (all_await_none s k g (λ v. rw (← i) (q v))) w in
    record { always = x.always; noted = weaken (after_deciding s p k) (λ u. u == p) x.noted; waiting = x.waiting }

after_moves : (x : ProtocolStep) → Moves x AfterStep AfterStep (Unsettled none_out) (λ s k p. Unsettled (λ u. u == p) s k p)
after_moves x = record {
  stays = λ s g h. h;
  sends = λ s p q body n o u g h. sending_keeps s p q body o (λ e. n (sym e)) g h;
  refuses = λ s p v c may g h. refusal_keeps s p v c h;
  fails = λ s p u g h. record { always = record { asked = asked_before_failing s p h.always.asked; counted = counted_failing s p h.always.counted; tables = tables_since_failing s p h.always.tables; ordered = ordered_failing s p h.always.ordered; tells = tells_failing s p h.always.tells; begun = h.always.begun }; noted = noted_first_failing s p h.noted; waiting = λ j u. waiting_failing s p j u (h.waiting j u) };
  begins_checkpoint = λ s p o u g h. begins_checkpoint s p o g h;
  begins_rollback = λ s p o g h. begins_rollback s p o g h;
  takes_channel = λ s p q m rest y e n g h. arrival_keeps s (with_rest s.channel q p rest) s.held p q m (from_channel s p q m rest e g) (front_of_channel s p q m rest e n h.always.ordered) y (λ k u v x. before_with_rest k s.channel q p (App m) rest e u v (λ _ _. refl) x) g h;
  takes_held = λ s p q m rest y e g h. arrival_keeps s s.channel (with_rest s.held q p rest) p q m (from_held s p q m rest e g) (front_of_held s p q m rest e h.always.ordered) y (λ k u v x. x) g h;
  holds = λ s p q m rest y e g h. record { always = record { asked = asked_before_holding s p q m rest h.always.asked; counted = counted_holding s p q m rest e h.always.counted; tables = tables_since_holding s p q m rest e h.always.tables; ordered = ordered_holding s p q m rest e (channel_low s p q m rest e g) h.always.ordered; tells = tells_holding s p q m rest e h.always.tells; begun = h.always.begun }; noted = noted_first_holding s p q m rest e h.noted; waiting = λ j u. waiting_holding s p q m rest e j u (h.waiting j u) };
  joins_checkpoint = λ s p q k l rest e o r t u g h. joins s p q k l rest e g h o r t;
  joins_rollback = λ s p q k l rest e o r t g h. rolls s p q k l rest e g h o r t;
  notes = λ s p q k l rest e o g h. notes_replies s p q k l rest e g h o;
  replies = λ s p q k l rest e g h. replies s p q k l rest e g h;
  is_busy = λ s p q k l able rest is e n pos g h. refuses s p q k l rest e g h (Busy (s.so_far.open_in p));
  is_unable = λ s p q k l able rest is e o r t u g h. refuses s p q k l rest e g h (unable_cause (s.up p));
  counts = λ s p q k w rest e g h. record { always = record { asked = asked_before_reply s p q k w rest h.always.asked; counted = counted_reply s p q k w rest e h.always.counted; tables = tables_since_reply s p q k w rest e h.always.tables; ordered = ordered_reply s p q k w rest e h.always.ordered; tells = tells_reply s p q k w rest e h.always.tells; begun = h.always.begun }; noted = noted_first_reply s p q k w rest e h.noted; waiting = λ j u n. waiting_reply s p q k w rest e j u n (h.waiting j u) };
  hears = λ s p q k c rest e o g h. heard (λ u. u == p) s p q k c rest e h (noted_first_decision s p q k c rest e (λ u. u == p) (λ u z v. absurd (unlike u p z v)) h.noted);
  ignores = λ s p q k c rest e o g h. settled (after_decision s p q rest) k p (heard none_out s p q k c rest e h (noted_first_decision s p q k c rest e none_out (λ u z v. differ (s.so_far.open_in p) k o) h.noted)) (waiting_ignores s p q k rest (differ (s.so_far.open_in p) k o) (decide_facts s q p k c rest e g).0);
  waits = λ s k p j d b g w. settled s k p w (record { waits = λ _ _ _. awaited_by s.processes (s.awaits k p) b; told = λ _ _ c. absurd (cc (c, d)) });
  answers = λ s k p j d n a g w. settled (after_answering s p k) k p (record { always = record { asked = asked_before_answering s p k w.always.asked; counted = counted_answering s p k j a w.always.counted; tables = tables_since_answering s p k w.always.tables; ordered = ordered_answering s p k w.always.ordered; tells = tells_answering s p k w.always.tells; begun = w.always.begun }; noted = noted_first_answering s p k w.noted; waiting = λ j u n. waiting_answering s p k j u n (w.waiting j u n) }) (waiting_answered s p k d n);
  decides = λ s k p j d i q g w. decided s k p j d i q g w;
  closes = λ s k p c pos o d i g w. closing_keeps s p k c g pos o d w;
}

pub step_keeps : (s : State) (x : ProtocolStep) → Invariant s → AfterStep s → AfterStep (after_step s x)
step_keeps s x g h = (walk_step x AfterStep AfterStep (Unsettled none_out) (λ t k p. Unsettled (λ u. u == p) t k p) (after_moves x) s g h).claim

pub all_after_run : (n : ℕ) (steps : List ProtocolStep) → AfterStep (run (opening n) steps)
all_after_run n steps = kept AfterStep step_keeps (opening n) steps (invariant_opening n) (opening_has n)
