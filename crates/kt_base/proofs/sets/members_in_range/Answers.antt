use Rattle.std.proofs.Common.{◌≡◌, ◌==◌, ◌<◌, ◌≤◌, ◌⊎◌, ℕ, true, arith, inl, inr}
use Rattle.std.proofs.lemmas.Bool.{cases_lt}
use Rattle.std.proofs.lemmas.Bool.Decides.{nat_tests}
use Rattle.std.proofs.lemmas.Nat.Bits.{bit_at_above}
use Rattle.std.specs.Int.{bit_at}
use Rattle.kt_base.proofs.sets.members_in_range.Goals as goal

is_clear : (b : ℕ) → b ≡ 0 → (b == 1) ≡ true → ⊥
is_clear b e h = grind (arith, nat_tests)

pub returns : goal.returns
returns c set q small member =
    elim (cases_lt q 64) [
      | inl below ↦ below
      | inr above ↦ absurd (is_clear (bit_at set q) (bit_at_above set 64 q small above) member)
    ]
