-- The checksum CRC-32C of bytes, a bit at a time.
use Rattle.std.specs.Prelude.{◌≡◌, ◌≢◌, ℕ, zero, suc, ◌-◌, ◌/◌, ◌%◌, ◌^◌, ◌<◌, ◌==◌, if◌then◌else◌, List, [], ◌∷◌, ◌++◌, All, bit_xor}
use Rattle.std.specs.Int.{w32, to_le_bytes}

-- x^32 + x^28 + x^27 + x^26 + x^25 + x^23 + x^22 + x^20 + x^19 + x^18 + x^14 + x^13 + x^11 + x^10 + x^9 + x^8 + x^6 + 1,
-- the lowest power in the highest of 32 bits
abbrev pub polynomial : ℕ
polynomial = 2197175160

abbrev pub ones : ℕ
ones = 2 ^ 32 - 1

-- a register after a bit: shifted right, and the polynomial put in where the bit that falls out is 1
abbrev pub after_bit : ℕ → ℕ
after_bit r = if r % 2 == 1 then bit_xor (r / 2) polynomial else r / 2

abbrev pub after_bits : ℕ → ℕ → ℕ
after_bits zero r = r
after_bits (suc n) r = after_bits n (after_bit r)

abbrev pub after_byte : ℕ → ℕ → ℕ
after_byte r b = after_bits 8 (bit_xor r b)

abbrev pub after_bytes : ℕ → List ℕ → ℕ
after_bytes r [] = r
after_bytes r (b ∷ bs) = after_bytes (after_byte r b) bs

-- the register begins with ones, and is turned at the end
abbrev pub checksum : List ℕ → ℕ
checksum bytes = bit_xor (after_bytes ones bytes) ones

-- bytes with their checksum behind them, its lowest byte first
abbrev pub sealed : List ℕ → List ℕ
sealed bytes = bytes ++ to_le_bytes w32 (checksum bytes)

abbrev pub AreBytes : List ℕ → Type 0
AreBytes bytes = All (λ b. b < 2 ^ 8) bytes

-- texts of one length that differ in one byte, by one bit or more
pub record DifferInOneByte (xs ys : List ℕ) : Type 0 where
  pub front : List ℕ
  pub back : List ℕ
  pub old : ℕ
  pub new : ℕ
  pub other : old ≢ new
  pub is_old : xs ≡ front ++ old ∷ back
  pub is_new : ys ≡ front ++ new ∷ back
