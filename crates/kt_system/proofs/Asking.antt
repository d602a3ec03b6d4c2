-- Asks, put one by one.
use Rattle.std.specs.Prelude.{◌-◌, ◌==◌, ◌||◌, if◌then◌else◌, AllPairs}
use Rattle.std.proofs.Common.{◌≡◌, ◌≢◌, ℕ, ◌<◌, ◌≤◌, ◌+◌, Bool, true, false, [], ◌∷◌, ◌++◌, length, take, get_or, arith, sym, subst, inl, inr, append_assoc}
use Rattle.std.proofs.Math.Path.{fun_ext}
use Rattle.std.proofs.lemmas.Bool.{cases_eq}
use Rattle.std.proofs.lemmas.Bool.Decides.{nat_tests}
use Rattle.std.proofs.lemmas.List.{append-nil}
use Rattle.kt_base.specs.declared.words.Kind.{Kind}
use Rattle.kt_fifo.specs.declared.parcels.Parcel.TheVariants.{Ask}
use Rattle.kt_fifo.specs.Channels.{at_pair}
use Rattle.kt_machine.specs.Seen.{SeenLists}
use Rattle.kt_machine.specs.InOnePiece.{asks_to, with_asks}
use Rattle.kt_process.specs.Asks.{is_asked_in}
use Rattle.kt_system.proofs.Named.{Pairs, is_named_push, fresh}

asks_to_push : (kd : Kind) (k v : ℕ) (xs : Pairs) (x : ℕ × ℕ) → asks_to k kd v (xs ++ x ∷ []) ≡ asks_to k kd v xs ++ (if x.0 == v then Ask k kd x.1 ∷ [] else [])
asks_to_push kd k v [] x = grind (arith, nat_tests)
asks_to_push kd k v (y ∷ xs) x = let h = asks_to_push kd k v xs x in grind (arith, nat_tests)

pub with_none : (chan : SeenLists) (p k : ℕ) (kd : Kind) → chan ≡ with_asks chan p k kd []
unfolding with_asks
with_none chan p k kd = fun_ext (λ u. fun_ext (λ v. let e = append-nil (chan u v) in grind (arith, nat_tests)))

pub with_more : (chan : SeenLists) (p k : ℕ) (kd : Kind) (xs : Pairs) (x : ℕ × ℕ) →
    at_pair p x.0 (with_asks chan p k kd xs p x.0 ++ Ask k kd x.1 ∷ []) (with_asks chan p k kd xs) ≡ with_asks chan p k kd (xs ++ x ∷ [])
unfolding with_asks
with_more chan p k kd xs x = fun_ext (λ u. fun_ext (λ v.
    let h = asks_to_push kd k v xs x in
    let a = append_assoc (chan u v) (asks_to k kd v xs) (Ask k kd x.1 ∷ []) in
    let b = append-nil (asks_to k kd v xs) in
    grind (arith, nat_tests)))

-- each of them takes one place
pub place_taken : (old first new : ℕ → ℕ → ℕ) (p : ℕ) (asks : Pairs) (i : ℕ) (x : ℕ × ℕ) → AllPairs (λ x y. x.0 < y.0) asks → i < length asks → x ≡ get_or asks i x → new ≡ at_pair p x.0 (old p x.0 - 1) old →
    ((q : ℕ) → first p q ≤ old p q + (if is_asked_in (take i asks) q then 1 else 0)) → (q : ℕ) → first p q ≤ new p q + (if is_asked_in (take i asks ++ x ∷ []) q then 1 else 0)
place_taken old first new p asks i x r b e f h q =
    let k = is_named_push (take i asks) x q in
    let n = fresh asks i x r b e in
    let g = h q in
    subst (λ (z : ℕ → ℕ → ℕ). first p q ≤ z p q + (if is_asked_in (take i asks ++ x ∷ []) q then 1 else 0)) (sym f)
    (subst (λ (t : Bool). first p q ≤ at_pair p x.0 (old p x.0 - 1) old p q + (if t then 1 else 0)) (sym k) (elim (cases_eq q x.0) [
      | inl d ↦ rw d (here old first p x.0 (is_asked_in (take i asks) x.0) n (subst (λ (z : ℕ). first p z ≤ old p z + (if is_asked_in (take i asks) z then 1 else 0)) d g))
      | inr d ↦ there old first p x.0 q (is_asked_in (take i asks) q) d g
    ]))
  where
    here : (old first : ℕ → ℕ → ℕ) (p y : ℕ) (t : Bool) → t ≡ false → first p y ≤ old p y + (if t then 1 else 0) → first p y ≤ at_pair p y (old p y - 1) old p y + (if t || (y == y) then 1 else 0)
    here old first p y t n g = grind (arith, nat_tests)

    there : (old first : ℕ → ℕ → ℕ) (p y q : ℕ) (t : Bool) → q ≢ y → first p q ≤ old p q + (if t then 1 else 0) → first p q ≤ at_pair p y (old p y - 1) old p q + (if t || (y == q) then 1 else 0)
    there old first p y q t d g = grind (arith, nat_tests)

pub most_one : (a b : ℕ) (t : Bool) → a ≤ b + (if t then 1 else 0) → a ≤ b + 1
most_one a b true h = h
most_one a b false h = omega arith

pub has_place : (a b : ℕ) (t : Bool) → t ≡ false → a ≤ b + (if t then 1 else 0) → 1 ≤ a → 1 ≤ b
has_place a b true e h k = absurd (cc (e))
has_place a b false e h k = omega arith
