-- Of the next rows of all parts the one that comes first.
use Rattle.std.proofs.Common.{◌≡◌, ◌<◌, ◌≤◌, ◌+◌, ◌⊎◌, ℕ, Option, Some, None, List, length, IfSome, IfNone, sym, ap, subst, arith, inl, inr}
use Rattle.std.specs.List.{slice_get}
use Rattle.std.proofs.lemmas.Bool.{cases_lt, cases_eq}
use Rattle.std.proofs.lemmas.Option.{slice_get_within}
use Rattle.kt_spacetime.specs.declared.named_rows.ClockedRow.{ClockedRow}
use Rattle.kt_merge.specs.Heads.{IsLeastHead, HasNoHead, IsBestTo, IsBestClock}

abbrev Heads : Type 0
Heads = List (Option ClockedRow)

-- what holds of each part before a number, and of that one, holds of each before the next number
one_more : (n : ℕ) (P : ℕ → Type 0) → ((j : ℕ) → j < n → P j) → P n → (j : ℕ) → j < n + 1 → P j
one_more n P before here j l = elim (cases_eq j n) [
  | inl same ↦ subst P (sym same) here
  | inr other ↦ before j (omega (arith, l, other))
]

-- a row comes no later than another, of a part behind its own
abbrev ComesFirst : ClockedRow → ℕ → ClockedRow → ℕ → Type 0
ComesFirst row i other j = (row.clock < other.clock) ⊎ ((row.clock ≡ other.clock) × (i ≤ j))

same_head : (heads : Heads) (n : ℕ) (head : Option ClockedRow) (other : ClockedRow) → slice_get heads n ≡ Some head → slice_get heads n ≡ Some (Some other) → head ≡ Some other
same_head heads n head other a b = cc (a, b)

pub none_yet : (heads : Heads) → IsBestTo heads 0 None
none_yet heads j other l e = absurd (omega (arith, l))

-- a part that has no next row
pub best_kept : (heads : Heads) (n : ℕ) (best : Option (ℕ × ClockedRow)) → IsBestTo heads n best → slice_get heads n ≡ Some None → IsBestTo heads (n + 1) best
best_kept heads n None b e = λ j other l at.
    one_more n (λ j. slice_get heads j ≡ Some (Some other) → ⊥) (λ j l at. b j other l at) (λ at. cc (same_head heads n None other e at)) j l at
best_kept heads n (Some (i, row)) b e = (
  omega (arith, b.0),
  b.1,
  λ j other l at. one_more n (λ j. slice_get heads j ≡ Some (Some other) → ComesFirst row i other j) (λ j l at. b.2 j other l at) (λ at. absurd (cc (same_head heads n None other e at))) j l at,
)

-- the first part that has one
pub best_first : (heads : Heads) (n : ℕ) (row : ClockedRow) → IsBestTo heads n None → slice_get heads n ≡ Some (Some row) → IsBestTo heads (n + 1) (Some (n, row))
best_first heads n row b e = (
  omega arith,
  e,
  λ j other l at. one_more n (λ j. slice_get heads j ≡ Some (Some other) → ComesFirst row n other j) (λ j l at. absurd (b j other l at)) (λ at. as_it other at) j l at,
)
  where
    as_it : (other : ClockedRow) → slice_get heads n ≡ Some (Some other) → ComesFirst row n other n
    as_it other at = let same : row ≡ other = cc (same_head heads n (Some row) other e at) in inr (ap (λ (r : ClockedRow). r.clock) same, omega arith)

-- a part whose row is not before the best
pub best_stays : (heads : Heads) (n i : ℕ) (first row : ClockedRow) → IsBestTo heads n (Some (i, first)) → slice_get heads n ≡ Some (Some row) → first.clock ≤ row.clock → IsBestTo heads (n + 1) (Some (i, first))
best_stays heads n i first row b e l = (
  omega (arith, b.0),
  b.1,
  λ j other k at. one_more n (λ j. slice_get heads j ≡ Some (Some other) → ComesFirst first i other j) (λ j k at. b.2 j other k at) (λ at. behind other at) j k at,
)
  where
    behind : (other : ClockedRow) → slice_get heads n ≡ Some (Some other) → ComesFirst first i other n
    behind other at =
        let same : row ≡ other = cc (same_head heads n (Some row) other e at) in
        let at_clock : row.clock ≡ other.clock = ap (λ (r : ClockedRow). r.clock) same in
        elim (cases_lt first.clock other.clock) [
          | inl less ↦ inl less
          | inr more ↦ inr (omega (arith, l, more, at_clock), omega (arith, b.0))
        ]

-- a part whose row is before the best
pub best_new : (heads : Heads) (n i : ℕ) (first row : ClockedRow) → IsBestTo heads n (Some (i, first)) → slice_get heads n ≡ Some (Some row) → row.clock < first.clock → IsBestTo heads (n + 1) (Some (n, row))
best_new heads n i first row b e l = (
  omega arith,
  e,
  λ j other k at. one_more n (λ j. slice_get heads j ≡ Some (Some other) → ComesFirst row n other j) (λ j k at. before j other (b.2 j other k at)) (λ at. as_it other at) j k at,
)
  where
    before : (j : ℕ) (other : ClockedRow) → ComesFirst first i other j → ComesFirst row n other j
    before j other (inl less) = inl (omega (arith, l, less))
    before j other (inr same) = inl (omega (arith, l, same.0))

    as_it : (other : ClockedRow) → slice_get heads n ≡ Some (Some other) → ComesFirst row n other n
    as_it other at = let same : row ≡ other = cc (same_head heads n (Some row) other e at) in inr (ap (λ (r : ClockedRow). r.clock) same, omega arith)

-- the best of all
pub best_found : (heads : Heads) (n : ℕ) (best : Option (ℕ × ClockedRow)) → length heads ≤ n → IsBestTo heads n best → IfSome best (λ r. IsLeastHead heads r.0 r.1)
best_found heads n None l b = tt
best_found heads n (Some (i, row)) l b = record { is = b.1; least = λ j other at. b.2 j other (omega (arith, l, slice_get_within heads j (Some other) at)) at }

pub best_none : (heads : Heads) (n : ℕ) (best : Option (ℕ × ClockedRow)) → length heads ≤ n → IsBestTo heads n best → IfNone best (HasNoHead heads)
best_none heads n None l b = λ j other at. b j other (omega (arith, l, slice_get_within heads j (Some other) at)) at
best_none heads n (Some r) l b = tt

-- the same of clocks
pub clock_kept : (heads : Heads) (n : ℕ) (best : Option (ℕ × ℕ)) → IsBestClock heads n best → slice_get heads n ≡ Some None → IsBestClock heads (n + 1) best
clock_kept heads n None b e = best_kept heads n None b e
clock_kept heads n (Some (i, clock)) b e = (b.0, b.1, best_kept heads n (Some (i, b.0)) b.2 e)

pub clock_first : (heads : Heads) (n : ℕ) (row : ClockedRow) (clock : ℕ) → IsBestClock heads n None → slice_get heads n ≡ Some (Some row) → row.clock ≡ clock → IsBestClock heads (n + 1) (Some (n, clock))
clock_first heads n row clock b e c = (row, c, best_first heads n row b e)

pub clock_stays : (heads : Heads) (n i first : ℕ) (row : ClockedRow) (clock : ℕ) → IsBestClock heads n (Some (i, first)) → slice_get heads n ≡ Some (Some row) → row.clock ≡ clock → first ≤ clock → IsBestClock heads (n + 1) (Some (i, first))
clock_stays heads n i first row clock b e c l = (b.0, b.1, best_stays heads n i b.0 row b.2 e (omega (arith, b.1, c, l)))

pub clock_new : (heads : Heads) (n i first : ℕ) (row : ClockedRow) (clock : ℕ) → IsBestClock heads n (Some (i, first)) → slice_get heads n ≡ Some (Some row) → row.clock ≡ clock → clock < first → IsBestClock heads (n + 1) (Some (n, clock))
clock_new heads n i first row clock b e c l = (row, c, best_new heads n i b.0 row b.2 e (omega (arith, b.1, c, l)))
