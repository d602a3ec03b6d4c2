-- Rising lists of messages.
use Rattle.std.proofs.Common.{◌≡◌, ℕ, zero, suc, nat_lt, nat_le, true, false, List, [], ◌∷◌, refl, arith, inl, inr}
use Rattle.std.specs.List.{find, slice_get}
use Rattle.std.specs.List.Sorted.{IsPartitionPoint, IsPartitionedBy}
use Rattle.std.proofs.lemmas.Bool.{cases_eq}
use Rattle.std.proofs.lemmas.Bool.Decides.{nat_tests}
use Rattle.kt_rules.specs.Lists.{NumbersRise}

-- where the numbers below a message end, its first follower stands
pub find_from_point : (xs : List ℕ) (m i : ℕ) → IsPartitionPoint (λ x. nat_lt x m ≡ true) (λ x. nat_lt x m ≡ false) xs i → slice_get xs i ≡ find (nat_le m) xs
find_from_point [] m i p = refl
find_from_point (x ∷ xs) m zero p =
    let first = p.1 0 0 (omega arith) (omega arith) in
    grind (arith, nat_tests, first)
find_from_point (x ∷ xs) m (suc i) p =
    let first = p.0 0 0 (omega arith) (omega arith) in
    let rest : slice_get xs i ≡ find (nat_le m) xs =
    find_from_point xs m i (λ k d low high. p.0 (suc k) d (omega arith) (omega arith), λ k d low high. p.1 (suc k) d (omega arith) (omega arith)) in
    grind (arith, nat_tests, first, rest)

-- rising numbers are parted by a bound
pub parted : (xs : List ℕ) (m : ℕ) → NumbersRise xs → IsPartitionedBy (λ x. nat_lt x m) xs
parted xs m r i j d le lt below =
    elim (cases_eq i j) [
      | inl e ↦ rw e below
      | inr n ↦ grind (arith, nat_tests, below, r i j d (omega (arith, n, le)) lt)
    ]
