use Rattle.std.proofs.Common.{◌≡◌, ◌==◌, ◌<◌, ℕ, arith}
use Rattle.std.proofs.lemmas.Bool.Decides.{nat_tests}
use Rattle.std.proofs.lemmas.Nat.Bits.{bit_at-lt, same_from_bits}
use Rattle.std.specs.Int.{bit_at}
use Rattle.kt_base.proofs.sets.same_members.Goals as goal

same_bit : (x y : ℕ) → x < 2 → y < 2 → (x == 1) ≡ (y == 1) → x ≡ y
same_bit x y p q e = grind (arith, nat_tests)

pub returns : goal.returns
returns c a b same = same_from_bits a b (λ p. same_bit (bit_at a p) (bit_at b p) (bit_at-lt a p) (bit_at-lt b p) (same p))
