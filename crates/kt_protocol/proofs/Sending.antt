-- What a message that is sent changes.
use Rattle.std.proofs.Common.{◌≡◌, ◌≢◌, ℕ, ◌+◌, ◌≤◌, ◌<◌, true, false, [], ◌∷◌, ◌++◌, length, arith, sym, subst, inl, inr, ◌⊎◌, Some, ◌∙◌}
use Rattle.std.specs.Prelude.{◌==◌, if◌then◌else◌, slice_get}
use Rattle.std.proofs.lemmas.Bool.{cases_eq}
use Rattle.std.proofs.lemmas.Bool.Decides.{nat_tests}
use Rattle.kt_spacetime.specs.declared.deeds.Deed.TheVariants as deed
use Rattle.kt_meaning.specs.Past.{at_one, at_pair}
use Rattle.kt_protocol.proofs.Invariant.{Invariant, is_message, is_ask}
use Rattle.kt_protocol.proofs.Updates.{at_one_here, at_one_other, is_other, place_cases, place_new, place_old}
use Rattle.kt_protocol.proofs.Weights.{weigh, weigh_with_parcel}
use Rattle.kt_protocol.specs.Parcels.{App, with_parcel}
use Rattle.kt_protocol.specs.States.{State}

pub sent_is_push : (s : State) (p q : ℕ) → Invariant s → (x j m t : ℕ) → slice_get (at_one p (s.so_far.live p ++ deed.Sent (s.so_far.rows + 1) q ∷ []) s.so_far.live x) j ≡ Some (deed.Sent m t) → (at_one (s.so_far.rows + 1) true s.so_far.is_sent m ≡ true) × (at_one (s.so_far.rows + 1) p s.so_far.from m ≡ x) × (at_one (s.so_far.rows + 1) (s.so_far.size p) s.so_far.sent_at m ≡ j) × (at_one (s.so_far.rows + 1) q s.so_far.to m ≡ t)
sent_is_push s p q g x j m t h = elim (place_cases s.so_far.live p (deed.Sent (s.so_far.rows + 1) q) x j (deed.Sent m t) h) [
  | inl a ↦ old (g.histories.sent_is x j m t a)
  | inr b ↦ (let b2 = b.2 in let e : s.so_far.rows + 1 ≡ m = cc (b2) in let f : q ≡ t = cc (b2) in new e f b.0 b.1)
]
  where
    old : (s.so_far.is_sent m ≡ true) × (s.so_far.from m ≡ x) × (s.so_far.sent_at m ≡ j) × (s.so_far.to m ≡ t) → (at_one (s.so_far.rows + 1) true s.so_far.is_sent m ≡ true) × (at_one (s.so_far.rows + 1) p s.so_far.from m ≡ x) × (at_one (s.so_far.rows + 1) (s.so_far.size p) s.so_far.sent_at m ≡ j) × (at_one (s.so_far.rows + 1) q s.so_far.to m ≡ t)
    old a = grind (arith, nat_tests, g.messages.sent_low m a.0)

    new : s.so_far.rows + 1 ≡ m → q ≡ t → x ≡ p → j ≡ length (s.so_far.live p) → (at_one (s.so_far.rows + 1) true s.so_far.is_sent m ≡ true) × (at_one (s.so_far.rows + 1) p s.so_far.from m ≡ x) × (at_one (s.so_far.rows + 1) (s.so_far.size p) s.so_far.sent_at m ≡ j) × (at_one (s.so_far.rows + 1) q s.so_far.to m ≡ t)
    new e f a b = grind (arith, nat_tests, g.histories.size_is p)

pub sent_there_push : (s : State) (p q : ℕ) → Invariant s → (m : ℕ) → at_one (s.so_far.rows + 1) true s.so_far.is_sent m ≡ true → slice_get (at_one p (s.so_far.live p ++ deed.Sent (s.so_far.rows + 1) q ∷ []) s.so_far.live (at_one (s.so_far.rows + 1) p s.so_far.from m)) (at_one (s.so_far.rows + 1) (s.so_far.size p) s.so_far.sent_at m) ≡ Some (deed.Sent m (at_one (s.so_far.rows + 1) q s.so_far.to m))
sent_there_push s p q g m h = elim (cases_eq m (s.so_far.rows + 1)) [
  | inl e ↦ subst (λ (n : ℕ). slice_get (at_one p (s.so_far.live p ++ deed.Sent (s.so_far.rows + 1) q ∷ []) s.so_far.live (at_one (s.so_far.rows + 1) p s.so_far.from n)) (at_one (s.so_far.rows + 1) (s.so_far.size p) s.so_far.sent_at n) ≡ Some (deed.Sent n (at_one (s.so_far.rows + 1) q s.so_far.to n))) (sym e)
      (rw (at_one_here (s.so_far.rows + 1) p s.so_far.from, at_one_here (s.so_far.rows + 1) q s.so_far.to, at_one_here (s.so_far.rows + 1) (s.so_far.size p) s.so_far.sent_at) (place_new s.so_far.live p (deed.Sent (s.so_far.rows + 1) q) (s.so_far.size p) (g.histories.size_is p)))
  | inr n ↦ rw (at_one_other (s.so_far.rows + 1) m p s.so_far.from n, at_one_other (s.so_far.rows + 1) m q s.so_far.to n, at_one_other (s.so_far.rows + 1) m (s.so_far.size p) s.so_far.sent_at n) (place_old s.so_far.live p (deed.Sent (s.so_far.rows + 1) q) (s.so_far.from m) (s.so_far.sent_at m) (deed.Sent m (s.so_far.to m)) (g.histories.sent_there m (sym (at_one_other (s.so_far.rows + 1) m true s.so_far.is_sent n) ∙ h)))
]

pub received_is_push : (s : State) (p q : ℕ) → Invariant s → (y i m t : ℕ) → slice_get (at_one p (s.so_far.live p ++ deed.Sent (s.so_far.rows + 1) q ∷ []) s.so_far.live y) i ≡ Some (deed.Received m t) → (s.so_far.is_received m ≡ true) × (at_one (s.so_far.rows + 1) q s.so_far.to m ≡ y) × (s.so_far.received_at m ≡ i) × (at_one (s.so_far.rows + 1) p s.so_far.from m ≡ t)
received_is_push s p q g y i m t h = elim (place_cases s.so_far.live p (deed.Sent (s.so_far.rows + 1) q) y i (deed.Received m t) h) [
  | inl a ↦ old (g.histories.received_is y i m t a)
  | inr b ↦ let c = b.2 in absurd (cc (c))
]
  where
    old : (s.so_far.is_received m ≡ true) × (s.so_far.to m ≡ y) × (s.so_far.received_at m ≡ i) × (s.so_far.from m ≡ t) → (s.so_far.is_received m ≡ true) × (at_one (s.so_far.rows + 1) q s.so_far.to m ≡ y) × (s.so_far.received_at m ≡ i) × (at_one (s.so_far.rows + 1) p s.so_far.from m ≡ t)
    old a = grind (arith, nat_tests, g.messages.sent_low m, g.messages.received_low m a.0)

pub received_there_push : (s : State) (p q : ℕ) → Invariant s → (m : ℕ) → s.so_far.is_received m ≡ true → slice_get (at_one p (s.so_far.live p ++ deed.Sent (s.so_far.rows + 1) q ∷ []) s.so_far.live (at_one (s.so_far.rows + 1) q s.so_far.to m)) (s.so_far.received_at m) ≡ Some (deed.Received m (at_one (s.so_far.rows + 1) p s.so_far.from m))
received_there_push s p q g m h =
    let n : m ≢ s.so_far.rows + 1 = λ e. omega (arith, (g.messages.sent_low m (g.messages.received_low m h).0).1) in
    rw (at_one_other (s.so_far.rows + 1) m q s.so_far.to n, at_one_other (s.so_far.rows + 1) m p s.so_far.from n) (place_old s.so_far.live p (deed.Sent (s.so_far.rows + 1) q) (s.so_far.to m) (s.so_far.received_at m) (deed.Received m (s.so_far.from m)) (g.histories.received_there m h))

pub first_new : (s : State) (p q : ℕ) → Invariant s → (0 < (if s.first_sent p q == 0 then s.so_far.rows + 1 else s.first_sent p q)) × ((if s.first_sent p q == 0 then s.so_far.rows + 1 else s.first_sent p q) ≤ s.so_far.rows + 1)
first_new s p q g = grind (arith, nat_tests, g.tables.first_sent_is p q, g.messages.sent_low (s.first_sent p q))

pub first_all_push : (s : State) (p q : ℕ) → Invariant s → (m u v : ℕ) → (m ≢ s.so_far.rows + 1 → (0 < s.first_sent u v) × (s.first_sent u v ≤ m)) → (m ≡ s.so_far.rows + 1 → (u ≡ p) × (v ≡ q)) → m ≤ s.so_far.rows + 1 → (0 < at_pair p q (if s.first_sent p q == 0 then s.so_far.rows + 1 else s.first_sent p q) s.first_sent u v) × (at_pair p q (if s.first_sent p q == 0 then s.so_far.rows + 1 else s.first_sent p q) s.first_sent u v ≤ m)
first_all_push s p q g m u v a b c = let n = first_new s p q g in elim (cases_eq m (s.so_far.rows + 1)) [
  | inl e ↦ (let x = b e in grind (arith, nat_tests, x, n))
  | inr d ↦ (let x = a d in grind (arith, nat_tests, x))
]

pub undone_sent : (s : State) (p q : ℕ) → s.so_far.open_in p ≡ 0 → Invariant s → (k m : ℕ) → s.so_far.is_decided k ≡ false → s.so_far.is_rollback k ≡ true → s.so_far.has_unwilling k ≡ false → s.so_far.joined k (at_one (s.so_far.rows + 1) p s.so_far.from m) ≡ true → at_one (s.so_far.rows + 1) true s.so_far.is_sent m ≡ true → s.so_far.permanent (at_one (s.so_far.rows + 1) p s.so_far.from m) ≤ at_one (s.so_far.rows + 1) (s.so_far.size p) s.so_far.sent_at m →
    (0 < weigh (is_ask k) (with_parcel s.channel p q (App (s.so_far.rows + 1)) (at_one (s.so_far.rows + 1) p s.so_far.from m) (at_one (s.so_far.rows + 1) q s.so_far.to m))) ⊎ ((weigh (is_message m) (with_parcel s.channel p q (App (s.so_far.rows + 1)) (at_one (s.so_far.rows + 1) p s.so_far.from m) (at_one (s.so_far.rows + 1) q s.so_far.to m)) ≡ 0) × (((s.so_far.joined k (at_one (s.so_far.rows + 1) q s.so_far.to m) ≡ true) × (s.noted k (at_one (s.so_far.rows + 1) q s.so_far.to m) (at_one (s.so_far.rows + 1) p s.so_far.from m) ≡ true)) ⊎ ((s.so_far.is_received m ≡ false) × (weigh (is_message m) (s.held (at_one (s.so_far.rows + 1) p s.so_far.from m) (at_one (s.so_far.rows + 1) q s.so_far.to m)) ≡ 0))))
undone_sent s p q o g k m d r w j a b = elim (cases_eq m (s.so_far.rows + 1)) [
  | inl e ↦ (let j' : s.so_far.joined k p ≡ true = rw (e, at_one_here (s.so_far.rows + 1) p s.so_far.from) at j in let x = g.positions.member_open k p j' d in let y = (g.positions.joined_instance k p j').0 in absurd (omega (arith, x, y, o)))
  | inr n ↦ rw (at_one_other (s.so_far.rows + 1) m p s.so_far.from n, at_one_other (s.so_far.rows + 1) m q s.so_far.to n) (
      let x = g.consistent.undone_or_asked k m d r w (rw (at_one_other (s.so_far.rows + 1) m p s.so_far.from n) at j) (rw (at_one_other (s.so_far.rows + 1) m true s.so_far.is_sent n) at a) (rw (at_one_other (s.so_far.rows + 1) m p s.so_far.from n, at_one_other (s.so_far.rows + 1) m (s.so_far.size p) s.so_far.sent_at n) at b) in
      let y = weigh_with_parcel (is_ask k) s.channel p q (App (s.so_far.rows + 1)) (s.so_far.from m) (s.so_far.to m) in
      let z = weigh_with_parcel (is_message m) s.channel p q (App (s.so_far.rows + 1)) (s.so_far.from m) (s.so_far.to m) in
      let o = is_other (s.so_far.rows + 1) m (λ e. n (sym e)) in
      elim x [
        | inl c ↦ inl (grind (arith, nat_tests, y, c))
        | inr c ↦ inr (grind (arith, nat_tests, z, c.0, o), c.1)
      ])
]
