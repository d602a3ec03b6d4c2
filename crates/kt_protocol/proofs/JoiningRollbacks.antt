-- What a process that joins a rollback changes.
use Rattle.std.proofs.Common.{◌≡◌, ◌≢◌, ℕ, ◌+◌, ◌≤◌, ◌<◌, Bool, true, false, not, refl, arith, sym, ap, subst, inl, inr, ◌⊎◌, ◌∙◌}
use Rattle.std.specs.Prelude.{◌==◌, ◌&&◌, nat_lt, nat_le, if◌then◌else◌}
use Rattle.std.proofs.lemmas.Bool.{cases_eq}
use Rattle.std.proofs.lemmas.Bool.Decides.{nat_tests}
use Rattle.kt_meaning.specs.Past.{at_pair}
use Rattle.std.proofs.lemmas.Bool.{cases_lt}
use Rattle.kt_protocol.proofs.Invariant.{Invariant, is_message, is_ask, is_ask_over, is_ask_with, is_reply, one}
use Rattle.kt_protocol.proofs.Updates.{is_other, is_same}
use Rattle.kt_protocol.proofs.Weights.{weigh, weigh_rollback_asks}
use Rattle.kt_protocol.specs.Parcels.{Ask, Parcel, Lists, with_rollback_asks}
use Rattle.kt_protocol.specs.States.{State}
use Rattle.kt_protocol.proofs.Choices.{both, same}
use Rattle.kt_protocol.proofs.Joining.{Joining, RollbackLabel, weigh_no_ask, one_each_joins}

-- what is no ask weighs as before
pub same_weight_rollback : (s : State) (channel : Lists) (p k : ℕ) (is_first : Bool) (par lnk lbl : ℕ) (roll : Bool) → Joining s channel p k is_first par lnk lbl roll → (f : Parcel → ℕ) → ((b : ℕ) → f (Ask k b) ≡ 0) → (u v : ℕ) → weigh f (with_rollback_asks channel s.first_sent s.last_sent p k u v) ≡ weigh f (s.channel u v)
same_weight_rollback s channel p k is_first par lnk lbl roll j f z u v = weigh_no_ask s channel (with_rollback_asks channel s.first_sent s.last_sent p k) p k is_first par lnk lbl roll (λ v. nat_lt 0 (s.first_sent p v)) (s.last_sent p) j (λ f u v. weigh_rollback_asks f channel s.first_sent s.last_sent p k u v) f z u v

module _ (s : State) (channel : Lists) (p k : ℕ) (is_first : Bool) (par lnk lbl : ℕ) (j : Joining s channel p k is_first par lnk lbl true) (lab : RollbackLabel s p k is_first par lnk) (out : s.so_far.joined k p ≡ false) (g : Invariant s) where
  pub par_other_rollback : is_first ≡ false → par ≢ p
  par_other_rollback e f = let a = (j.member e).0 in let b : s.so_far.joined k p ≡ true = subst (λ (x : ℕ). s.so_far.joined k x ≡ true) f a in absurd (cc (b, out))

  pub count_joins_rollback : (i u v : ℕ) →
      weigh (is_ask i) (with_rollback_asks channel s.first_sent s.last_sent p k u v) + one (at_pair k p true s.so_far.joined i v && at_pair k p par s.parent i v == u && not (at_pair k p is_first s.has_answered i v)) + weigh (is_reply i) (with_rollback_asks channel s.first_sent s.last_sent p k v u) ≡ one (if i == k && u == p then nat_lt 0 (s.first_sent p v) else s.awaits i u v)
  count_joins_rollback i u v = one_each_joins s channel (with_rollback_asks channel s.first_sent s.last_sent p k) p k is_first par lnk lbl true (λ v. nat_lt 0 (s.first_sent p v)) (s.last_sent p) j (λ f u v. weigh_rollback_asks f channel s.first_sent s.last_sent p k u v) out g i u v

  pub far : (i : ℕ) → s.so_far.is_rollback i ≡ false → i ≢ k
  far i r e = let x : s.so_far.is_rollback k ≡ false = rw e at r in absurd (cc (x, j.kind))

  pub linked_here_rollback : (i q : ℕ) → i ≡ k → q ≡ p → q ≢ s.initiator i → (s.so_far.is_received lnk ≡ true) × (s.so_far.from lnk ≡ par) × (s.so_far.to lnk ≡ q) × (s.so_far.permanent par ≤ s.so_far.sent_at lnk)
  linked_here_rollback i q e f n = at_test is_first refl
    where
      at_test : (b : Bool) → is_first ≡ b → (s.so_far.is_received lnk ≡ true) × (s.so_far.from lnk ≡ par) × (s.so_far.to lnk ≡ q) × (s.so_far.permanent par ≤ s.so_far.sent_at lnk)
      at_test true b = absurd (n (f ∙ (j.initial b).0 ∙ ap s.initiator (sym e)))
      at_test false b = rw f (lab.label b)

  pub linked_rollback_rolls : (i q : ℕ) → at_pair k p true s.so_far.joined i q ≡ true → s.so_far.is_decided i ≡ false → s.so_far.is_rollback i ≡ true → q ≢ s.initiator i → (s.so_far.is_received (at_pair k p lnk s.link i q) ≡ true) × (s.so_far.from (at_pair k p lnk s.link i q) ≡ at_pair k p par s.parent i q) × (s.so_far.to (at_pair k p lnk s.link i q) ≡ q) × (s.so_far.permanent (at_pair k p par s.parent i q) ≤ s.so_far.sent_at (at_pair k p lnk s.link i q))
  linked_rollback_rolls i q = at_test (i == k && q == p) refl
    where
      at_test : (b : Bool) → (i == k && q == p) ≡ b → (if b then true else s.so_far.joined i q) ≡ true → s.so_far.is_decided i ≡ false → s.so_far.is_rollback i ≡ true → q ≢ s.initiator i → (s.so_far.is_received (if b then lnk else s.link i q) ≡ true) × (s.so_far.from (if b then lnk else s.link i q) ≡ (if b then par else s.parent i q)) × (s.so_far.to (if b then lnk else s.link i q) ≡ q) × (s.so_far.permanent (if b then par else s.parent i q) ≤ s.so_far.sent_at (if b then lnk else s.link i q))
      at_test true e a d r n = let x = both (i == k) (q == p) e in linked_here_rollback i q (same i k x.0) (same q p x.1) n
      at_test false e a d r n = g.asks.linked_rollback i q a d r n

  pub linked_rolls : (i q : ℕ) → at_pair k p true s.so_far.joined i q ≡ true → s.so_far.is_decided i ≡ false → s.so_far.is_rollback i ≡ false → q ≢ s.initiator i → (s.so_far.is_received (at_pair k p lnk s.link i q) ≡ true) × (s.so_far.from (at_pair k p lnk s.link i q) ≡ q) × (s.so_far.to (at_pair k p lnk s.link i q) ≡ at_pair k p par s.parent i q) × (s.so_far.permanent q ≤ s.so_far.sent_at (at_pair k p lnk s.link i q)) × (s.so_far.received_at (at_pair k p lnk s.link i q) < s.so_far.new i (at_pair k p par s.parent i q))
  linked_rolls i q a d r n = let o = is_other i k (far i r) in rw o (g.asks.linked i q (rw o at a) d r n)

  pub ask_label_rolls : (i l u v : ℕ) → 0 < weigh (is_ask_with i l) (with_rollback_asks channel s.first_sent s.last_sent p k u v) → (s.so_far.is_rollback i ≡ false → (s.so_far.is_received l ≡ true) × (s.so_far.to l ≡ u) × (s.so_far.from l ≡ v) × (s.so_far.received_at l < s.so_far.new i u)) × (s.so_far.is_rollback i ≡ true → l ≡ s.last_sent u v)
  ask_label_rolls i l u v a = elim (cases_eq i k) [
    | inl e ↦ rw e (near (rw e at a))
    | inr n ↦ (
        let o' = is_other k i (λ e. n (sym e)) in
        g.asks.ask_label i l u v (rw (same_weight_rollback s channel p k is_first par lnk lbl true j (is_ask_with i l) (λ b. ap (λ y. one (y && b == l)) o') u v) at a))
  ]
    where
      near : 0 < weigh (is_ask_with k l) (with_rollback_asks channel s.first_sent s.last_sent p k u v) → (s.so_far.is_rollback k ≡ false → (s.so_far.is_received l ≡ true) × (s.so_far.to l ≡ u) × (s.so_far.from l ≡ v) × (s.so_far.received_at l < s.so_far.new k u)) × (s.so_far.is_rollback k ≡ true → l ≡ s.last_sent u v)
      near a = (
        λ r. absurd (cc (r, j.kind)),
        λ r. elim (cases_lt 0 (weigh (is_ask_with k l) (s.channel u v))) [
          | inl h ↦ (g.asks.ask_label k l u v h).1 r
          | inr h ↦ (let b = weigh_rollback_asks (is_ask_with k l) channel s.first_sent s.last_sent p k u v in let c = j.pop (is_ask_with k l) u v in
              grind (arith, nat_tests, a, b, c, h, is_same k))
        ],
      )

  pub consistent_rolls : (i m : ℕ) → s.so_far.is_decided i ≡ false → s.so_far.is_rollback i ≡ false → s.so_far.has_unwilling i ≡ false → at_pair k p true s.so_far.joined i (s.so_far.to m) ≡ true → s.so_far.is_received m ≡ true → s.so_far.received_at m < s.so_far.new i (s.so_far.to m) →
      (s.so_far.sent_at m < (if at_pair k p true s.so_far.joined i (s.so_far.from m) then s.so_far.new i (s.so_far.from m) else s.so_far.permanent (s.so_far.from m))) ⊎ (0 < weigh (is_ask_over i m) (with_rollback_asks channel s.first_sent s.last_sent p k (s.so_far.to m) (s.so_far.from m)))
  consistent_rolls i m d r w a b c =
      let o = is_other i k (far i r) in
      let o' = is_other k i (λ e. far i r (sym e)) in
      rw (same_weight_rollback s channel p k is_first par lnk lbl true j (is_ask_over i m) (λ b. ap (λ x. one (x && nat_le m b)) o') (s.so_far.to m) (s.so_far.from m), o) (g.consistent.sent_or_asked i m d r w (rw o at a) b c)

  pub undone_far : (i n : ℕ) → i ≢ k → (0 < weigh (is_ask i) (s.channel (s.so_far.from n) (s.so_far.to n))) ⊎ ((weigh (is_message n) (s.channel (s.so_far.from n) (s.so_far.to n)) ≡ 0) × (((s.so_far.joined i (s.so_far.to n) ≡ true) × (s.noted i (s.so_far.to n) (s.so_far.from n) ≡ true)) ⊎ ((s.so_far.is_received n ≡ false) × (weigh (is_message n) (s.held (s.so_far.from n) (s.so_far.to n)) ≡ 0)))) →
      (0 < weigh (is_ask i) (with_rollback_asks channel s.first_sent s.last_sent p k (s.so_far.from n) (s.so_far.to n))) ⊎ ((weigh (is_message n) (with_rollback_asks channel s.first_sent s.last_sent p k (s.so_far.from n) (s.so_far.to n)) ≡ 0) × (((at_pair k p true s.so_far.joined i (s.so_far.to n) ≡ true) × (s.noted i (s.so_far.to n) (s.so_far.from n) ≡ true)) ⊎ ((s.so_far.is_received n ≡ false) × (weigh (is_message n) (s.held (s.so_far.from n) (s.so_far.to n)) ≡ 0))))
  undone_far i n m h =
      let o = is_other i k m in
      let o' = is_other k i (λ e. m (sym e)) in
      rw (same_weight_rollback s channel p k is_first par lnk lbl true j (is_ask i) (λ b. ap one o') (s.so_far.from n) (s.so_far.to n), same_weight_rollback s channel p k is_first par lnk lbl true j (is_message n) (λ b. refl) (s.so_far.from n) (s.so_far.to n), o) h

  -- what p itself sent is asked back
  pub undone_here : (n : ℕ) → s.so_far.from n ≡ p → s.so_far.is_sent n ≡ true → s.so_far.permanent (s.so_far.from n) ≤ s.so_far.sent_at n → 0 < weigh (is_ask k) (with_rollback_asks channel s.first_sent s.last_sent p k (s.so_far.from n) (s.so_far.to n))
  undone_here n f b c =
      let x = (g.positions.closed_permanent p j.closed).0 in
      let c' : s.so_far.permanent p ≤ s.so_far.sent_at n = rw f at c in
      let y = g.tables.first_sent_all n b (rw f (omega (arith, x, c'))) in
      let y0 : 0 < s.first_sent p (s.so_far.to n) = rw f at y.0 in
      let z = weigh_rollback_asks (is_ask k) channel s.first_sent s.last_sent p k (s.so_far.from n) (s.so_far.to n) in
      grind (arith, nat_tests, y0, z, f, is_same k)

  pub undone_near : (n : ℕ) → s.so_far.from n ≢ p → (0 < weigh (is_ask k) (s.channel (s.so_far.from n) (s.so_far.to n))) ⊎ ((weigh (is_message n) (s.channel (s.so_far.from n) (s.so_far.to n)) ≡ 0) × (((s.so_far.joined k (s.so_far.to n) ≡ true) × (s.noted k (s.so_far.to n) (s.so_far.from n) ≡ true)) ⊎ ((s.so_far.is_received n ≡ false) × (weigh (is_message n) (s.held (s.so_far.from n) (s.so_far.to n)) ≡ 0)))) →
      (0 < weigh (is_ask k) (with_rollback_asks channel s.first_sent s.last_sent p k (s.so_far.from n) (s.so_far.to n))) ⊎ ((weigh (is_message n) (with_rollback_asks channel s.first_sent s.last_sent p k (s.so_far.from n) (s.so_far.to n)) ≡ 0) × (((at_pair k p true s.so_far.joined k (s.so_far.to n) ≡ true) × (s.noted k (s.so_far.to n) (s.so_far.from n) ≡ true)) ⊎ ((s.so_far.is_received n ≡ false) × (weigh (is_message n) (s.held (s.so_far.from n) (s.so_far.to n)) ≡ 0))))
  undone_near n f h = rw (same_weight_rollback s channel p k is_first par lnk lbl true j (is_message n) (λ b. refl) (s.so_far.from n) (s.so_far.to n)) (elim h [
    | inl c ↦ popped_or (not is_first && s.so_far.from n == par && s.so_far.to n == p) refl c
    | inr c ↦ inr (c.0, elim c.1 [ inl x ↦ let x0 = x.0 in inl (grind (arith, nat_tests, x0), x.1) | inr x ↦ inr x ])
  ])
    where
      three : (x y z : Bool) → (x && y && z) ≡ true → (x ≡ true) × (y ≡ true) × (z ≡ true)
      three x y z e = grind (arith, nat_tests, e)

      off : (x : Bool) → not x ≡ true → x ≡ false
      off true e = absurd (cc)
      off false e = refl

      popped_or : (b : Bool) → (not is_first && s.so_far.from n == par && s.so_far.to n == p) ≡ b → 0 < weigh (is_ask k) (s.channel (s.so_far.from n) (s.so_far.to n)) →
          (0 < weigh (is_ask k) (with_rollback_asks channel s.first_sent s.last_sent p k (s.so_far.from n) (s.so_far.to n))) ⊎ ((weigh (is_message n) (s.channel (s.so_far.from n) (s.so_far.to n)) ≡ 0) × (((at_pair k p true s.so_far.joined k (s.so_far.to n) ≡ true) × (s.noted k (s.so_far.to n) (s.so_far.from n) ≡ true)) ⊎ ((s.so_far.is_received n ≡ false) × (weigh (is_message n) (s.held (s.so_far.from n) (s.so_far.to n)) ≡ 0))))
      popped_or true e c =
          let t = three (not is_first) (s.so_far.from n == par) (s.so_far.to n == p) e in
          let y = same (s.so_far.from n) par t.1 in
          let z = same (s.so_far.to n) p t.2 in
          inr (rw (y, z) (lab.clear (off is_first t.0) n), inl (rw (z, is_same k, is_same p) refl, rw (y, z) (lab.noted (off is_first t.0))))
      popped_or false e c =
          let x = weigh_rollback_asks (is_ask k) channel s.first_sent s.last_sent p k (s.so_far.from n) (s.so_far.to n) in
          let y : weigh (is_ask k) (channel (s.so_far.from n) (s.so_far.to n)) + 0 ≡ weigh (is_ask k) (s.channel (s.so_far.from n) (s.so_far.to n)) = rw e at (j.pop (is_ask k) (s.so_far.from n) (s.so_far.to n)) in
          inl (omega (arith, x, y, c))

  pub undone_rolls : (i n : ℕ) → s.so_far.is_decided i ≡ false → s.so_far.is_rollback i ≡ true → s.so_far.has_unwilling i ≡ false → at_pair k p true s.so_far.joined i (s.so_far.from n) ≡ true → s.so_far.is_sent n ≡ true → s.so_far.permanent (s.so_far.from n) ≤ s.so_far.sent_at n →
      (0 < weigh (is_ask i) (with_rollback_asks channel s.first_sent s.last_sent p k (s.so_far.from n) (s.so_far.to n))) ⊎ ((weigh (is_message n) (with_rollback_asks channel s.first_sent s.last_sent p k (s.so_far.from n) (s.so_far.to n)) ≡ 0) × (((at_pair k p true s.so_far.joined i (s.so_far.to n) ≡ true) × (s.noted i (s.so_far.to n) (s.so_far.from n) ≡ true)) ⊎ ((s.so_far.is_received n ≡ false) × (weigh (is_message n) (s.held (s.so_far.from n) (s.so_far.to n)) ≡ 0))))
  undone_rolls i n d r w a b c = elim (cases_eq i k) [
    | inl e ↦ rw e (elim (cases_eq (s.so_far.from n) p) [
      | inl f ↦ inl (undone_here n f b c)
      | inr f ↦ undone_near n f (g.consistent.undone_or_asked k n (rw e at d) (rw e at r) (rw e at w) (let o = is_other (s.so_far.from n) p f in grind (arith, nat_tests, o, a, e)) b c)
    ])
    | inr m ↦ undone_far i n m (g.consistent.undone_or_asked i n d r w (rw (is_other i k m) at a) b c)
  ]
