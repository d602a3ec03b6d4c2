use Rattle.std.proofs.Common.{◌≡◌, ◌<◌, ◌^◌, ◌==◌, ℕ, true, false, w64, arith, refl}
use Rattle.std.specs.Int.{trailing_zeros}
use Rattle.std.proofs.lemmas.Nat.Bits.{bit_at-trailing_zeros}
use Rattle.kt_base.specs.Sets.{has}
use Rattle.kt_base.proofs.sets.ProcSet.first.Goals as goal

-- the place of the lowest 1 is the least member
lowest : (set : ℕ) → 0 < set → set < 2 ^ 64 → has set (trailing_zeros w64 set) ≡ true
lowest set some small = rw ((bit_at-trailing_zeros w64 set some small).1) refl

below_lowest : (set : ℕ) → 0 < set → set < 2 ^ 64 → (q : ℕ) → q < trailing_zeros w64 set → has set q ≡ false
below_lowest set some small q below = rw ((bit_at-trailing_zeros w64 set some small).2 q below) refl

pub returns-clause-member : goal.returns-clause-member
returns-clause-member c =
    rw (← c.self.view_is, c.nth.ensures) (lowest c.self.inside.bits (omega arith) c.self.invariant)

pub returns-clause-least : goal.returns-clause-least
returns-clause-least c q below =
    rw (← c.self.view_is) (below_lowest c.self.inside.bits (omega arith) c.self.invariant q (omega (arith, c.nth.ensures)))
