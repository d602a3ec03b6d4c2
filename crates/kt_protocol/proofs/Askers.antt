-- Who has asks in transit.
use Rattle.std.proofs.Common.{◌≡◌, ℕ, ◌≤◌, ◌<◌, Bool, true, false, List, [], ◌∷◌, refl, arith, inl, inr}
use Rattle.std.proofs.lemmas.Bool.{cases_eq}
use Rattle.std.proofs.lemmas.Bool.Decides.{nat_tests}
use Rattle.kt_protocol.proofs.Invariant.{Invariant, is_message, is_ask, is_ask_with}
use Rattle.kt_protocol.proofs.Weights.{any_app, any_ask, weigh, weigh_cons, weigh_le, weigh_nil}
use Rattle.kt_protocol.specs.Parcels.{App, Ask, Decide, Parcel, Reply}
use Rattle.kt_protocol.specs.States.{State}

no_ask : (l : List Parcel) → ((k : ℕ) → weigh (is_ask k) l ≡ 0) → weigh any_ask l ≡ 0
no_ask [] h = weigh_nil any_ask
no_ask (App m ∷ xs) h = let c = weigh_cons any_ask (App m) xs in let d = no_ask xs (λ k. let a = h k in let b = weigh_cons (is_ask k) (App m) xs in omega (arith, a, b)) in omega (arith, c, d)
no_ask (Reply i w ∷ xs) h = let c = weigh_cons any_ask (Reply i w) xs in let d = no_ask xs (λ k. let a = h k in let b = weigh_cons (is_ask k) (Reply i w) xs in omega (arith, a, b)) in omega (arith, c, d)
no_ask (Decide i w ∷ xs) h = let c = weigh_cons any_ask (Decide i w) xs in let d = no_ask xs (λ k. let a = h k in let b = weigh_cons (is_ask k) (Decide i w) xs in omega (arith, a, b)) in omega (arith, c, d)
no_ask (Ask k l ∷ xs) h = let a = h k in let b = weigh_cons (is_ask k) (Ask k l) xs in absurd (grind (arith, nat_tests, a, b))

-- who is in no instance has no ask in transit
pub closed_no_ask : (s : State) (p : ℕ) → s.so_far.open_in p ≡ 0 → Invariant s → (v : ℕ) → weigh any_ask (s.channel p v) ≡ 0
closed_no_ask s p o g v = no_ask (s.channel p v) (λ k. let a = none k in grind (arith, nat_tests, g.asks.one_each k p v, a))
  where
    none : (k : ℕ) → s.awaits k p v ≡ false
    none k = at_test (s.awaits k p v) refl
      where
        at_test : (b : Bool) → s.awaits k p v ≡ b → s.awaits k p v ≡ false
        at_test false e = e
        at_test true e = let a = g.asks.awaits_joined k p v e in let b = g.positions.joined_instance k p a.0 in let c = g.positions.member_open k p a.0 a.1 in absurd (omega (arith, b.0, c, o))

app_le : (m : ℕ) (x : Parcel) → is_message m x ≤ any_app x
app_le m (App n) = grind (arith, nat_tests)
app_le m (Ask k l) = omega arith
app_le m (Reply k l) = omega arith
app_le m (Decide k l) = omega arith

pub no_app : (m : ℕ) (l : List Parcel) → weigh any_app l ≡ 0 → weigh (is_message m) l ≡ 0
no_app m l h = let a = weigh_le (is_message m) any_app (app_le m) l in omega (arith, a, h)

pub permanent_low : (s : State) (p : ℕ) → Invariant s → s.so_far.permanent p ≤ s.so_far.size p
permanent_low s p g = elim (cases_eq (s.so_far.open_in p) 0) [
  | inl e ↦ (let a = g.positions.closed_permanent p e in omega (arith, a.0, g.positions.saved_low p))
  | inr n ↦ at_test (s.so_far.is_rollback (s.so_far.open_in p)) refl (omega (arith, n))
]
  where
    at_test : (b : Bool) → s.so_far.is_rollback (s.so_far.open_in p) ≡ b → 0 < s.so_far.open_in p → s.so_far.permanent p ≤ s.so_far.size p
    at_test true e pos = let a = g.positions.rollback_permanent (s.so_far.open_in p) p pos refl e in omega (arith, a.0, g.positions.saved_low p)
    at_test false e pos = grind (arith, nat_tests, g.positions.open_permanent (s.so_far.open_in p) p pos refl e, g.positions.saved_low p)

pub with_le : (k l : ℕ) (x : Parcel) → is_ask_with k l x ≤ is_ask k x
with_le k l (App n) = omega arith
with_le k l (Reply j w) = omega arith
with_le k l (Decide j c) = omega arith
with_le k l (Ask j m) = grind (arith, nat_tests)

pub asker_joined : (s : State) (k l p q : ℕ) → 0 < weigh (is_ask_with k l) (s.channel p q) → Invariant s → s.so_far.joined k p ≡ true
asker_joined s k l p q h g =
    let a = weigh_le (is_ask_with k l) (is_ask k) (with_le k l) (s.channel p q) in
    let b : s.awaits k p q ≡ true = grind (arith, nat_tests, a, h, g.asks.one_each k p q) in
    (g.asks.awaits_joined k p q b).0

pub asker_open : (s : State) (k l p q : ℕ) → 0 < weigh (is_ask_with k l) (s.channel p q) → Invariant s → (s.so_far.joined k p ≡ true) × (s.so_far.is_decided k ≡ false)
asker_open s k l p q h g =
    let a = weigh_le (is_ask_with k l) (is_ask k) (with_le k l) (s.channel p q) in
    let b : s.awaits k p q ≡ true = grind (arith, nat_tests, a, h, g.asks.one_each k p q) in
    let c = g.asks.awaits_joined k p q b in
    (c.0, c.1)

-- who is in no instance is no member of k
pub outside : (s : State) (k p : ℕ) → Invariant s → s.so_far.open_in p ≡ 0 → 0 < k → s.so_far.is_decided k ≡ false → s.so_far.joined k p ≡ false
outside s k p g o pos d = at_test (s.so_far.joined k p) refl
  where
    at_test : (b : Bool) → s.so_far.joined k p ≡ b → s.so_far.joined k p ≡ false
    at_test false e = e
    at_test true e = let x = g.positions.member_open k p e d in absurd (omega (arith, x, o, pos))
