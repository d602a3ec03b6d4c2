-- What a process that joins a checkpoint changes.
use Rattle.std.proofs.Common.{◌≡◌, ◌≢◌, ℕ, ◌+◌, ◌≤◌, ◌<◌, Bool, true, false, not, refl, arith, sym, ap, subst, inl, inr, ◌⊎◌, ◌∙◌}
use Rattle.std.specs.Prelude.{◌==◌, ◌&&◌, nat_lt, nat_le, if◌then◌else◌}
use Rattle.std.proofs.lemmas.Bool.{cases_eq}
use Rattle.std.proofs.lemmas.Bool.Decides.{nat_tests}
use Rattle.kt_meaning.specs.Past.{at_pair}
use Rattle.std.proofs.lemmas.Bool.{cases_lt}
use Rattle.kt_protocol.proofs.Askers.{asker_joined, permanent_low}
use Rattle.kt_protocol.proofs.Invariant.{Invariant, is_message, is_ask, is_ask_over, is_ask_with, is_reply, one}
use Rattle.kt_protocol.proofs.Updates.{is_other, is_same}
use Rattle.kt_protocol.proofs.Weights.{weigh, weigh_checkpoint_asks}
use Rattle.kt_protocol.specs.Parcels.{Ask, Parcel, Lists, with_checkpoint_asks}
use Rattle.kt_protocol.specs.States.{State}
use Rattle.kt_protocol.proofs.RowFacts.{checkpoint_cut_of}
use Rattle.kt_protocol.proofs.Choices.{both, same}
use Rattle.kt_protocol.proofs.Joining.{Joining, Label, weigh_no_ask, one_each_joins}

drop_if : (x y z : Bool) (n : ℕ) → z ≡ false → (if x && y && z then n else 0) ≡ 0
drop_if x y z n e = grind (arith, nat_tests)

-- what is no ask weighs as before
pub same_weight : (s : State) (channel : Lists) (p k : ℕ) (is_first : Bool) (par lnk lbl : ℕ) (roll : Bool) → Joining s channel p k is_first par lnk lbl roll → (f : Parcel → ℕ) → ((b : ℕ) → f (Ask k b) ≡ 0) → (u v : ℕ) → weigh f (with_checkpoint_asks channel s.last_received p k u v) ≡ weigh f (s.channel u v)
same_weight s channel p k is_first par lnk lbl roll j f z u v = weigh_no_ask s channel (with_checkpoint_asks channel s.last_received p k) p k is_first par lnk lbl roll (λ v. nat_lt 0 (s.last_received p v)) (s.last_received p) j (λ f u v. weigh_checkpoint_asks f channel s.last_received p k u v) f z u v

module _ (s : State) (channel : Lists) (p k : ℕ) (is_first : Bool) (par lnk lbl : ℕ) (j : Joining s channel p k is_first par lnk lbl false) (lab : Label s p k is_first par lnk) (out : s.so_far.joined k p ≡ false) (g : Invariant s) where
  pub par_other : is_first ≡ false → par ≢ p
  par_other e f = let a = (j.member e).0 in let b : s.so_far.joined k p ≡ true = subst (λ (x : ℕ). s.so_far.joined k x ≡ true) f a in absurd (cc (b, out))

  pub count_joins : (i u v : ℕ) →
      weigh (is_ask i) (with_checkpoint_asks channel s.last_received p k u v) + one (at_pair k p true s.so_far.joined i v && at_pair k p par s.parent i v == u && not (at_pair k p is_first s.has_answered i v)) + weigh (is_reply i) (with_checkpoint_asks channel s.last_received p k v u) ≡ one (if i == k && u == p then nat_lt 0 (s.last_received p v) else s.awaits i u v)
  count_joins i u v = one_each_joins s channel (with_checkpoint_asks channel s.last_received p k) p k is_first par lnk lbl false (λ v. nat_lt 0 (s.last_received p v)) (s.last_received p) j (λ f u v. weigh_checkpoint_asks f channel s.last_received p k u v) out g i u v

  pub linked_here : (i q : ℕ) → i ≡ k → q ≡ p → q ≢ s.initiator i → (s.so_far.is_received lnk ≡ true) × (s.so_far.from lnk ≡ q) × (s.so_far.to lnk ≡ par) × (s.so_far.permanent q ≤ s.so_far.sent_at lnk) × (s.so_far.received_at lnk < at_pair k p (s.so_far.size p) s.so_far.new i par)
  linked_here i q e f n = at_test is_first refl
    where
      at_test : (b : Bool) → is_first ≡ b → (s.so_far.is_received lnk ≡ true) × (s.so_far.from lnk ≡ q) × (s.so_far.to lnk ≡ par) × (s.so_far.permanent q ≤ s.so_far.sent_at lnk) × (s.so_far.received_at lnk < at_pair k p (s.so_far.size p) s.so_far.new i par)
      at_test true b = absurd (n (f ∙ (j.initial b).0 ∙ ap s.initiator (sym e)))
      at_test false b = let l = lab.label b in let o = par_other b in grind (arith, nat_tests, l, o)

  pub linked_other : (i q : ℕ) → (i == k && q == p) ≡ false → s.so_far.joined i q ≡ true → s.so_far.is_decided i ≡ false → s.so_far.is_rollback i ≡ false → q ≢ s.initiator i → (s.so_far.is_received (s.link i q) ≡ true) × (s.so_far.from (s.link i q) ≡ q) × (s.so_far.to (s.link i q) ≡ s.parent i q) × (s.so_far.permanent q ≤ s.so_far.sent_at (s.link i q)) × (s.so_far.received_at (s.link i q) < at_pair k p (s.so_far.size p) s.so_far.new i (s.parent i q))
  linked_other i q e a b r c = let l = g.asks.linked i q a b r c in let t = g.asks.parent_first i q a c in grind (arith, nat_tests, l, t.0, out)

  pub linked_joins : (i q : ℕ) → at_pair k p true s.so_far.joined i q ≡ true → s.so_far.is_decided i ≡ false → s.so_far.is_rollback i ≡ false → q ≢ s.initiator i → (s.so_far.is_received (at_pair k p lnk s.link i q) ≡ true) × (s.so_far.from (at_pair k p lnk s.link i q) ≡ q) × (s.so_far.to (at_pair k p lnk s.link i q) ≡ at_pair k p par s.parent i q) × (s.so_far.permanent q ≤ s.so_far.sent_at (at_pair k p lnk s.link i q)) × (s.so_far.received_at (at_pair k p lnk s.link i q) < at_pair k p (s.so_far.size p) s.so_far.new i (at_pair k p par s.parent i q))
  linked_joins i q = at_test (i == k && q == p) refl
    where
      at_test : (b : Bool) → (i == k && q == p) ≡ b → (if b then true else s.so_far.joined i q) ≡ true → s.so_far.is_decided i ≡ false → s.so_far.is_rollback i ≡ false → q ≢ s.initiator i → (s.so_far.is_received (if b then lnk else s.link i q) ≡ true) × (s.so_far.from (if b then lnk else s.link i q) ≡ q) × (s.so_far.to (if b then lnk else s.link i q) ≡ (if b then par else s.parent i q)) × (s.so_far.permanent q ≤ s.so_far.sent_at (if b then lnk else s.link i q)) × (s.so_far.received_at (if b then lnk else s.link i q) < at_pair k p (s.so_far.size p) s.so_far.new i (if b then par else s.parent i q))
      at_test true e a d r n = let x = both (i == k) (q == p) e in linked_here i q (same i k x.0) (same q p x.1) n
      at_test false e a d r n = linked_other i q e a d r n

  pub consistent_far : (i m : ℕ) → i ≢ k → (s.so_far.sent_at m < checkpoint_cut_of s.so_far i (s.so_far.from m)) ⊎ (0 < weigh (is_ask_over i m) (s.channel (s.so_far.to m) (s.so_far.from m))) →
      (s.so_far.sent_at m < (if at_pair k p true s.so_far.joined i (s.so_far.from m) then at_pair k p (s.so_far.size p) s.so_far.new i (s.so_far.from m) else s.so_far.permanent (s.so_far.from m))) ⊎ (0 < weigh (is_ask_over i m) (with_checkpoint_asks channel s.last_received p k (s.so_far.to m) (s.so_far.from m)))
  consistent_far i m n h =
      let o = is_other i k n in
      let o' = is_other k i (λ e. n (sym e)) in
      elim h [
        | inl x ↦ inl (rw (o) x)
        | inr y ↦ inr (rw (same_weight s channel p k is_first par lnk lbl false j (is_ask_over i m) (λ b. ap (λ x. one (x && nat_le m b)) o') (s.so_far.to m) (s.so_far.from m)) y)
      ]

  -- what p itself received is asked for, or was permanent
  pub consistent_here : (m : ℕ) → s.so_far.to m ≡ p → s.so_far.is_received m ≡ true →
      (s.so_far.sent_at m < (if at_pair k p true s.so_far.joined k (s.so_far.from m) then at_pair k p (s.so_far.size p) s.so_far.new k (s.so_far.from m) else s.so_far.permanent (s.so_far.from m))) ⊎ (0 < weigh (is_ask_over k m) (with_checkpoint_asks channel s.last_received p k (s.so_far.to m) (s.so_far.from m)))
  consistent_here m t a = elim (cases_lt (s.so_far.received_at m) (s.so_far.permanent p)) [
    | inl x ↦ inl (let y = g.consistent.sent_permanently m a (rw t x) in grind (arith, nat_tests, y, g.positions.permanent_new k (s.so_far.from m), j.undecided, j.kind, permanent_low s p g, is_same k))
    | inr x ↦ inr (asked m t a x)
  ]
    where
      asked : (m : ℕ) → s.so_far.to m ≡ p → s.so_far.is_received m ≡ true → s.so_far.permanent p ≤ s.so_far.received_at m → 0 < weigh (is_ask_over k m) (with_checkpoint_asks channel s.last_received p k (s.so_far.to m) (s.so_far.from m))
      asked m t a x =
          let c = g.positions.closed_permanent p j.closed in
          let y = g.tables.last_received_all m a (rw t (omega (arith, c.0, x))) in
          let z : m ≤ s.last_received p (s.so_far.from m) = rw t at y in
          let pos = (g.messages.sent_low m (g.messages.received_low m a).0).0 in
          let b = weigh_checkpoint_asks (is_ask_over k m) channel s.last_received p k (s.so_far.to m) (s.so_far.from m) in
          grind (arith, nat_tests, b, z, pos, t, is_same k)

  pub consistent_near : (m : ℕ) → s.so_far.to m ≢ p → s.so_far.is_received m ≡ true → (s.so_far.sent_at m < checkpoint_cut_of s.so_far k (s.so_far.from m)) ⊎ (0 < weigh (is_ask_over k m) (s.channel (s.so_far.to m) (s.so_far.from m))) →
      (s.so_far.sent_at m < (if at_pair k p true s.so_far.joined k (s.so_far.from m) then at_pair k p (s.so_far.size p) s.so_far.new k (s.so_far.from m) else s.so_far.permanent (s.so_far.from m))) ⊎ (0 < weigh (is_ask_over k m) (with_checkpoint_asks channel s.last_received p k (s.so_far.to m) (s.so_far.from m)))
  consistent_near m t a h = elim (cases_eq (s.so_far.from m) p) [
    | inl f ↦ inl (let x = g.messages.sent_low m (g.messages.received_low m a).0 in grind (arith, nat_tests, x.2, f, is_same k, is_same p))
    | inr f ↦ elim h [
      | inl x ↦ inl (rw (is_other (s.so_far.from m) p f, is_same k) x)
      | inr y ↦ inr (
          let b = j.pop (is_ask_over k m) (s.so_far.to m) (s.so_far.from m) in
          let c = weigh_checkpoint_asks (is_ask_over k m) channel s.last_received p k (s.so_far.to m) (s.so_far.from m) in
          let o = is_other (s.so_far.from m) p f in
          let o' = is_other (s.so_far.to m) p t in
          let c' = rw o' at c in
          let z = drop_if (not is_first) (s.so_far.to m == par) (s.so_far.from m == p) (is_ask_over k m (Ask k lbl)) o in
          omega (arith, b, c', z, y))
    ]
  ]

  pub consistent_joins : (i m : ℕ) → s.so_far.is_decided i ≡ false → s.so_far.is_rollback i ≡ false → s.so_far.has_unwilling i ≡ false → at_pair k p true s.so_far.joined i (s.so_far.to m) ≡ true → s.so_far.is_received m ≡ true → s.so_far.received_at m < at_pair k p (s.so_far.size p) s.so_far.new i (s.so_far.to m) →
      (s.so_far.sent_at m < (if at_pair k p true s.so_far.joined i (s.so_far.from m) then at_pair k p (s.so_far.size p) s.so_far.new i (s.so_far.from m) else s.so_far.permanent (s.so_far.from m))) ⊎ (0 < weigh (is_ask_over i m) (with_checkpoint_asks channel s.last_received p k (s.so_far.to m) (s.so_far.from m)))
  consistent_joins i m d r w a b l = elim (cases_eq i k) [
    | inl e ↦ rw e (elim (cases_eq (s.so_far.to m) p) [
      | inl t ↦ consistent_here m t b
      | inr t ↦ consistent_near m t b (
          let o = is_other (s.so_far.to m) p t in
          g.consistent.sent_or_asked k m j.undecided j.kind (rw (← e) w) (grind (arith, nat_tests, o, a, e)) b (grind (arith, nat_tests, o, l, e)))
    ])
    | inr n ↦ consistent_far i m n (
        let o = is_other i k n in
        g.consistent.sent_or_asked i m d r w (grind (arith, nat_tests, o, a)) b (grind (arith, nat_tests, o, l)))
  ]

  pub ask_label_joins : (i l u v : ℕ) → 0 < weigh (is_ask_with i l) (with_checkpoint_asks channel s.last_received p k u v) → (s.so_far.is_rollback i ≡ false → (s.so_far.is_received l ≡ true) × (s.so_far.to l ≡ u) × (s.so_far.from l ≡ v) × (s.so_far.received_at l < at_pair k p (s.so_far.size p) s.so_far.new i u)) × (s.so_far.is_rollback i ≡ true → l ≡ s.last_sent u v)
  ask_label_joins i l u v a = elim (cases_eq i k) [
    | inl e ↦ rw e (near (rw e at a))
    | inr n ↦ (
        let o = is_other i k n in
        let o' = is_other k i (λ e. n (sym e)) in
        let x = g.asks.ask_label i l u v (rw (same_weight s channel p k is_first par lnk lbl false j (is_ask_with i l) (λ b. ap (λ y. one (y && b == l)) o') u v) at a) in
        (λ r. rw o (x.0 r), x.1))
  ]
    where
      near : 0 < weigh (is_ask_with k l) (with_checkpoint_asks channel s.last_received p k u v) → (s.so_far.is_rollback k ≡ false → (s.so_far.is_received l ≡ true) × (s.so_far.to l ≡ u) × (s.so_far.from l ≡ v) × (s.so_far.received_at l < at_pair k p (s.so_far.size p) s.so_far.new k u)) × (s.so_far.is_rollback k ≡ true → l ≡ s.last_sent u v)
      near a = elim (cases_lt 0 (weigh (is_ask_with k l) (s.channel u v))) [
        | inl h ↦ (let x = (g.asks.ask_label k l u v h).0 j.kind in let y = asker_joined s k l u v h g in (λ r. grind (arith, nat_tests, x, y, out), λ r. absurd (cc (r, j.kind))))
        | inr h ↦ (let b = weigh_checkpoint_asks (is_ask_with k l) channel s.last_received p k u v in let c = j.pop (is_ask_with k l) u v in
            (λ r. grind (arith, nat_tests, a, b, c, h, g.tables.last_received_is p v, g.messages.received_low l, is_same k, is_same p), λ r. absurd (cc (r, j.kind))))
      ]

  pub linked_rollback_joins : (i q : ℕ) → at_pair k p true s.so_far.joined i q ≡ true → s.so_far.is_decided i ≡ false → s.so_far.is_rollback i ≡ true → q ≢ s.initiator i → (s.so_far.is_received (at_pair k p lnk s.link i q) ≡ true) × (s.so_far.from (at_pair k p lnk s.link i q) ≡ at_pair k p par s.parent i q) × (s.so_far.to (at_pair k p lnk s.link i q) ≡ q) × (s.so_far.permanent (at_pair k p par s.parent i q) ≤ s.so_far.sent_at (at_pair k p lnk s.link i q))
  linked_rollback_joins i q a d r n = let m : i ≢ k = λ e. other e r in let o = is_other i k m in rw o (g.asks.linked_rollback i q (rw o at a) d r n)
    where
      other : i ≡ k → s.so_far.is_rollback i ≡ true → ⊥
      other e r = let x : s.so_far.is_rollback k ≡ true = rw e at r in absurd (cc (x, j.kind))

  pub undone_joins : (i n : ℕ) → s.so_far.is_decided i ≡ false → s.so_far.is_rollback i ≡ true → s.so_far.has_unwilling i ≡ false → at_pair k p true s.so_far.joined i (s.so_far.from n) ≡ true → s.so_far.is_sent n ≡ true → s.so_far.permanent (s.so_far.from n) ≤ s.so_far.sent_at n →
      (0 < weigh (is_ask i) (with_checkpoint_asks channel s.last_received p k (s.so_far.from n) (s.so_far.to n))) ⊎ ((weigh (is_message n) (with_checkpoint_asks channel s.last_received p k (s.so_far.from n) (s.so_far.to n)) ≡ 0) × (((at_pair k p true s.so_far.joined i (s.so_far.to n) ≡ true) × (s.noted i (s.so_far.to n) (s.so_far.from n) ≡ true)) ⊎ ((s.so_far.is_received n ≡ false) × (weigh (is_message n) (s.held (s.so_far.from n) (s.so_far.to n)) ≡ 0))))
  undone_joins i n d r w a b c =
      let m : i ≢ k = λ e. other e r in
      let o = is_other i k m in
      let o' = is_other k i (λ e. m (sym e)) in
      rw (same_weight s channel p k is_first par lnk lbl false j (is_ask i) (λ b. ap one o') (s.so_far.from n) (s.so_far.to n), same_weight s channel p k is_first par lnk lbl false j (is_message n) (λ b. refl) (s.so_far.from n) (s.so_far.to n), o) (g.consistent.undone_or_asked i n d r w (rw o at a) b c)
    where
      other : i ≡ k → s.so_far.is_rollback i ≡ true → ⊥
      other e r = let x : s.so_far.is_rollback k ≡ true = rw e at r in absurd (cc (x, j.kind))
