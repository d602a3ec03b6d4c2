-- The processes that stand in a list of asks.
use Rattle.std.proofs.Common.{◌≡◌, ℕ, zero, suc, ◌<◌, false, List, [], ◌∷◌, ◌++◌, length, take, get_or, refl, arith, ap}
use Rattle.std.specs.Prelude.{◌==◌, ◌||◌, AllPairs}
use Rattle.std.proofs.lemmas.Bool.Decides.{nat_tests}
use Rattle.kt_process.specs.Asks.{is_asked_in}

abbrev pub Pairs : Type 0
Pairs = List (ℕ × ℕ)

pub is_named_push : (xs : Pairs) (x : ℕ × ℕ) (q : ℕ) → is_asked_in (xs ++ x ∷ []) q ≡ (is_asked_in xs q || (x.0 == q))
is_named_push [] x q = grind (arith, nat_tests)
is_named_push (y ∷ xs) x q = let h = is_named_push xs x q in grind (arith, nat_tests)

-- the next one was not named
pub fresh : (xs : Pairs) (i : ℕ) (x : ℕ × ℕ) → AllPairs (λ x y. x.0 < y.0) xs → i < length xs → x ≡ get_or xs i x → is_asked_in (take i xs) x.0 ≡ false
fresh [] i x r b e = absurd (omega (arith, b))
fresh (y ∷ xs) zero x r b e = refl
fresh (y ∷ xs) (suc i) x r b e =
    let k : i < length xs = omega arith in
    let h = fresh xs i x (λ a c d g l. r (suc a) (suc c) d (omega arith) (let z : suc c < length (y ∷ xs) = omega arith in z)) k e in
    let l = r 0 (suc i) x (omega arith) b in
    let z : x.0 ≡ (get_or xs i x).0 = ap (λ (y : ℕ × ℕ). y.0) e in
    let n : (y.0 == x.0) ≡ false = apart y.0 x.0 (omega (arith, l, z)) in
    rw (n, h) refl
  where
    apart : (a b : ℕ) → a < b → (a == b) ≡ false
    apart a b h = grind (arith, nat_tests)
