-- The names of processes are short.
use Rattle.std.proofs.Common.{◌≡◌, ◌≤◌, ℕ, zero, suc, List, [], ◌∷◌, true, arith, length}
use Rattle.std.specs.Prelude.{All, codes, slice_index_or}
use Rattle.kt_plan.specs.Names.{is_name, AreNames}
use Rattle.kt_report.specs.Lines.{name_of}

proper_short : (word : List ℕ) → is_name word ≡ true → length word ≤ 16
proper_short [] e = omega arith
proper_short (first ∷ rest) e = grind (arith, e)

all_short : (names : List (List ℕ)) (p : ℕ) → All (λ (name : List ℕ). is_name name ≡ true) names → length (slice_index_or names p (codes "-")) ≤ 16
all_short [] p all = omega arith
all_short (name ∷ names) zero all = proper_short name (all 0 name (omega arith))
all_short (name ∷ names) (suc p) all = all_short names p (λ k d h. all (suc k) d (omega (arith, h)))

-- a name, or the sign for none
pub name_short : (names : List (List ℕ)) (p : ℕ) → AreNames names → length (name_of names p) ≤ 16
name_short names p are = all_short names p are.proper
