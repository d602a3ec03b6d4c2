-- What is known where the initiator awaits nobody.
use Rattle.std.proofs.Common.{◌≡◌, ◌≢◌, ℕ, zero, suc, ◌≤◌, ◌<◌, Bool, true, false, not, [], ◌∷◌, ◌++◌, refl, arith, sym, ap, subst, inl, inr, ◌⊎◌, ◌∙◌}
use Rattle.std.proofs.lemmas.Bool.{cases_eq}
use Rattle.std.proofs.lemmas.Bool.Decides.{nat_tests}
use Rattle.kt_spacetime.specs.declared.event.Event.TheVariants.{Decided}
use Rattle.kt_meaning.specs.Past.{at_one}
use Rattle.std.proofs.lemmas.Bool.{cases_lt}
use Rattle.kt_protocol.proofs.EachRow.{cut_no_orphan, permanent_has_no_orphan, present_has_no_orphan}
use Rattle.kt_protocol.proofs.Invariant.{Invariant, is_message, is_ask, is_ask_over, is_unwilling_reply, is_reply, is_unwilling_member, summary_push}
use Rattle.kt_protocol.proofs.Updates.{is_same}
use Rattle.kt_protocol.proofs.Weights.{weigh, weigh_le}
use Rattle.kt_protocol.proofs.RowFacts.{IsLinked, IsLinkedRollback, HoldsBefore, rollback_cut_of, checkpoint_cut_of}
use Rattle.kt_protocol.specs.Parcels.{App, Ask, Decide, Parcel, Reply}
use Rattle.kt_protocol.specs.States.{State}
use Rattle.kt_protocol.specs.Summary.{summary_committed, is_undone, summary}

-- where the initiator awaits nobody, nobody does
module _ (s : State) (k : ℕ) (g : Invariant s) (quiet : (v : ℕ) → s.awaits k (s.initiator k) v ≡ false) where
  pub below : (n q : ℕ) → s.so_far.joined_at k q < n → s.so_far.joined k q ≡ true → q ≢ s.initiator k → s.has_answered k q ≡ true
  below zero q h j n = absurd (omega arith)
  below (suc n) q h j ne = at_test (λ l o w. below n (s.parent k q) l o w) (s.has_answered k q) refl
    where
      at_test : (s.so_far.joined_at k (s.parent k q) < n → s.so_far.joined k (s.parent k q) ≡ true → s.parent k q ≢ s.initiator k → s.has_answered k (s.parent k q) ≡ true) → (b : Bool) → s.has_answered k q ≡ b → s.has_answered k q ≡ true
      at_test ih true e = e
      at_test ih false e =
          let t = g.asks.parent_first k q j ne in
          let a : s.awaits k (s.parent k q) q ≡ true = grind (arith, nat_tests, g.asks.one_each k (s.parent k q) q, is_same (s.parent k q)) in
          elim (cases_eq (s.parent k q) (s.initiator k)) [
            | inl f ↦ (let z : s.awaits k (s.parent k q) q ≡ false = rw f (quiet q) in absurd (cc (a, z)))
            | inr n ↦ (let z = g.asks.answered_awaits k (s.parent k q) q (ih (omega (arith, t.1)) t.0 n) n in absurd (cc (a, z)))
          ]

  pub all_answered : (q : ℕ) → s.so_far.joined k q ≡ true → q ≢ s.initiator k → s.has_answered k q ≡ true
  all_answered q j n = below (suc (s.so_far.joined_at k q)) q (omega arith) j n

  pub all_await_none : (u v : ℕ) → s.awaits k u v ≡ false
  all_await_none u v = at_test (s.awaits k u v) refl
    where
      at_test : (b : Bool) → s.awaits k u v ≡ b → s.awaits k u v ≡ false
      at_test false e = e
      at_test true e =
          let j = g.asks.awaits_joined k u v e in
          elim (cases_eq u (s.initiator k)) [
            | inl f ↦ rw f (quiet v)
            | inr n ↦ g.asks.answered_awaits k u v (all_answered u j.0 n) n
          ]

  pub willing_has_none : s.so_far.is_decided k ≡ false → s.all_willing k (s.initiator k) ≡ true → s.so_far.has_unwilling k ≡ false
  willing_has_none d w = at_test (s.so_far.has_unwilling k) refl
    where
      nay_reply : (x : Parcel) → is_unwilling_reply k x ≤ is_reply k x
      nay_reply (App m) = omega arith
      nay_reply (Ask j l) = omega arith
      nay_reply (Decide j c) = omega arith
      nay_reply (Reply j true) = grind (arith, nat_tests)
      nay_reply (Reply j false) = grind (arith, nat_tests)

      not_sour : (u : ℕ) → is_unwilling_member s k u ≡ false
      not_sour u = elim (cases_eq u (s.initiator k)) [
        | inl f ↦ grind (arith, nat_tests)
        | inr n ↦ grind (arith, nat_tests, all_answered u)
      ]

      at_test : (b : Bool) → s.so_far.has_unwilling k ≡ b → s.so_far.has_unwilling k ≡ false
      at_test false e = e
      at_test true e =
          let z = g.willing.somewhere k e d in
          let a = weigh_le (is_unwilling_reply k) (is_reply k) nay_reply (s.channel z.0 z.1) in
          let b = g.asks.one_each k z.1 z.0 in
          let c = all_await_none z.1 z.0 in
          let n = not_sour z.0 in
          absurd (grind (arith, nat_tests, a, b, c, n, z.2))

pub ask_over : (k m : ℕ) (x : Parcel) → is_ask_over k m x ≤ is_ask k x
ask_over k m (App n) = omega arith
ask_over k m (Reply j w) = omega arith
ask_over k m (Decide j c) = omega arith
ask_over k m (Ask j l) = grind (arith, nat_tests)

-- the cut of a willing instance that awaits nobody
pub sent_within_cut : (s : State) (k : ℕ) → Invariant s → s.so_far.is_decided k ≡ false → s.so_far.is_rollback k ≡ false → s.so_far.has_unwilling k ≡ false → ((u v : ℕ) → s.awaits k u v ≡ false) → (m : ℕ) → s.so_far.is_received m ≡ true → s.so_far.joined k (s.so_far.to m) ≡ true → s.so_far.received_at m < s.so_far.new k (s.so_far.to m) → s.so_far.sent_at m < checkpoint_cut_of s.so_far k (s.so_far.from m)
sent_within_cut s k g d r w all_await_none m a j l = elim (g.consistent.sent_or_asked k m d r w j a l) [
  | inl x ↦ x
  | inr y ↦ (
      let b = weigh_le (is_ask_over k m) (is_ask k) (ask_over k m) (s.channel (s.so_far.to m) (s.so_far.from m)) in
      let c = g.asks.one_each k (s.so_far.to m) (s.so_far.from m) in
      let e = all_await_none (s.so_far.to m) (s.so_far.from m) in
      absurd (grind (arith, nat_tests, b, c, e)))
]

pub checkpoint_cut_consistent : (s : State) (k : ℕ) → Invariant s → s.so_far.is_decided k ≡ false → s.so_far.is_rollback k ≡ false → s.so_far.has_unwilling k ≡ false → ((u v : ℕ) → s.awaits k u v ≡ false) → (m : ℕ) → s.so_far.is_received m ≡ true → s.so_far.received_at m < checkpoint_cut_of s.so_far k (s.so_far.to m) → s.so_far.sent_at m < checkpoint_cut_of s.so_far k (s.so_far.from m)
checkpoint_cut_consistent s k g d r w all_await_none m a l = at_test (s.so_far.joined k (s.so_far.to m)) refl
  where
    at_test : (b : Bool) → s.so_far.joined k (s.so_far.to m) ≡ b → s.so_far.sent_at m < checkpoint_cut_of s.so_far k (s.so_far.from m)
    at_test true e = sent_within_cut s k g d r w all_await_none m a e (grind (arith, l, e))
    at_test false e = grind (arith, nat_tests, l, g.consistent.sent_permanently m a, g.positions.permanent_new k (s.so_far.from m))

-- where nobody is awaited, what a member would undo is received nowhere but at members
pub received_by_members : (s : State) (k : ℕ) → Invariant s → s.so_far.is_decided k ≡ false → s.so_far.is_rollback k ≡ true → s.so_far.has_unwilling k ≡ false → ((u v : ℕ) → s.awaits k u v ≡ false) → (m : ℕ) → s.so_far.is_sent m ≡ true → is_undone s.so_far k m ≡ true →
    (weigh (is_message m) (s.channel (s.so_far.from m) (s.so_far.to m)) ≡ 0) × (((s.so_far.joined k (s.so_far.to m) ≡ true) × (s.noted k (s.so_far.to m) (s.so_far.from m) ≡ true)) ⊎ ((s.so_far.is_received m ≡ false) × (weigh (is_message m) (s.held (s.so_far.from m) (s.so_far.to m)) ≡ 0)))
received_by_members s k g d r w all_await_none m a u = let f = two u in elim (g.consistent.undone_or_asked k m d r w f.0 a f.1) [
  | inl c ↦ (let x = g.asks.one_each k (s.so_far.from m) (s.so_far.to m) in let y = all_await_none (s.so_far.from m) (s.so_far.to m) in absurd (grind (arith, nat_tests, c, x, y)))
  | inr c ↦ c
]
  where
    two : is_undone s.so_far k m ≡ true → (s.so_far.joined k (s.so_far.from m) ≡ true) × (s.so_far.permanent (s.so_far.from m) ≤ s.so_far.sent_at m)
    two u = grind (arith, nat_tests, u)

pub rollback_cut_consistent : (s : State) (k : ℕ) → Invariant s → s.so_far.is_decided k ≡ false → s.so_far.is_rollback k ≡ true → s.so_far.has_unwilling k ≡ false → ((u v : ℕ) → s.awaits k u v ≡ false) → (m : ℕ) → s.so_far.is_received m ≡ true → s.so_far.received_at m < rollback_cut_of s.so_far k (s.so_far.to m) → s.so_far.sent_at m < rollback_cut_of s.so_far k (s.so_far.from m)
rollback_cut_consistent s k g d r w all_await_none m a l = at_test (s.so_far.joined k (s.so_far.from m)) refl
  where
    at_test : (b : Bool) → s.so_far.joined k (s.so_far.from m) ≡ b → s.so_far.sent_at m < rollback_cut_of s.so_far k (s.so_far.from m)
    at_test false e = rw e (g.messages.received_sent m a)
    at_test true e = rw e (elim (cases_lt (s.so_far.sent_at m) (s.so_far.permanent (s.so_far.from m))) [
      | inl x ↦ x
      | inr x ↦ (let n = received_by_members s k g d r w all_await_none m (g.messages.received_low m a).0 (grind (arith, nat_tests, e, x)) in elim n.1 [
        | inl y ↦ (let y0 = y.0 in g.consistent.sent_permanently m a (rw y0 at l))
        | inr y ↦ (let z = y.0 in absurd (cc (a, z)))
      ])
    ])

pub rollback_links : (s : State) (k p : ℕ) → Invariant s → s.so_far.is_decided k ≡ false → s.so_far.is_rollback k ≡ true → s.so_far.joined k p ≡ true → p ≢ s.initiator k → IsLinkedRollback s.so_far k p
rollback_links s k p g d r j n =
    let t = g.asks.parent_first k p j n in
    let l = g.asks.linked_rollback k p j d r n in
    record {
      member = s.parent k p;
      joined = t.0;
      earlier = t.1;
      msg = s.link k p;
      out = s.so_far.sent_at (s.link k p);
      sent = rw (l.1, l.2) at (g.histories.sent_there (s.link k p) (g.messages.received_low (s.link k p) l.0).0);
      past_permanent = l.3;
      place = s.so_far.received_at (s.link k p);
      received = rw (l.1, l.2) at (g.histories.received_there (s.link k p) l.0);
    }

pub checkpoint_links : (s : State) (k p : ℕ) → Invariant s → s.so_far.is_decided k ≡ false → s.so_far.is_rollback k ≡ false → s.so_far.joined k p ≡ true → p ≢ s.initiator k → IsLinked s.so_far k p
checkpoint_links s k p g d r j n =
    let t = g.asks.parent_first k p j n in
    let l = g.asks.linked k p j d r n in
    record {
      member = s.parent k p;
      joined = t.0;
      earlier = t.1;
      msg = s.link k p;
      out = s.so_far.sent_at (s.link k p);
      sent = rw (l.1, l.2) at (g.histories.sent_there (s.link k p) (g.messages.received_low (s.link k p) l.0).0);
      past_permanent = l.3;
      place = s.so_far.received_at (s.link k p);
      received = rw (l.1, l.2) at (g.histories.received_there (s.link k p) l.0);
      within = l.4;
    }

pub decision_holds : (s : State) (p k : ℕ) (c : Bool) → Invariant s → p ≡ s.initiator k → s.so_far.is_decided k ≡ false → s.so_far.has_unwilling k ≡ not c → ((u v : ℕ) → s.awaits k u v ≡ false) → HoldsBefore s.so_far (Decided p k c)
decision_holds s p k c g i d w all_await_none = (
  permanent_has_no_orphan s g,
  present_has_no_orphan s g,
  record {
    consistent = λ e r. cut_no_orphan s (checkpoint_cut_of s.so_far k) g (checkpoint_cut_consistent s k g d r (w ∙ ap not e) all_await_none);
    consistent_back = λ e r. cut_no_orphan s (rollback_cut_of s.so_far k) g (rollback_cut_consistent s k g d r (w ∙ ap not e) all_await_none);
    linked = λ r q j n. checkpoint_links s k q g d r j (λ e. n (e ∙ sym i));
    linked_back = λ r q j n. rollback_links s k q g d r j (λ e. n (e ∙ sym i));
    exact = w;
  },
)

pub undecided_before : (s : State) (k j : ℕ) → at_one k true s.so_far.is_decided j ≡ false → (s.so_far.is_decided j ≡ false) × (j ≢ k)
undecided_before s k j e = grind (arith, nat_tests, e)

-- a member of another undecided instance is no member
pub no_member_of_other : (s : State) (k j u : ℕ) → Invariant s → s.so_far.is_decided k ≡ false → s.so_far.is_decided j ≡ false → j ≢ k → s.so_far.joined j u ≡ true → s.so_far.joined k u ≡ false
no_member_of_other s k j u g d e n a = at_test (s.so_far.joined k u) refl
  where
    at_test : (b : Bool) → s.so_far.joined k u ≡ b → s.so_far.joined k u ≡ false
    at_test false x = x
    at_test true x = absurd (n (sym (g.positions.member_open j u a e) ∙ g.positions.member_open k u x d))

pub summary_commits : (s : State) (p k : ℕ) (b : Bool) → s.so_far.is_rollback k ≡ b → Invariant s → summary_committed b s.so_far k ≡ summary (s.log ++ Decided p k true ∷ [])
summary_commits s p k b r g = subst (λ (x : Bool). summary_committed x s.so_far k ≡ summary (s.log ++ Decided p k true ∷ [])) r (summary_push s.so_far s.log (Decided p k true) g.histories.of_log)
