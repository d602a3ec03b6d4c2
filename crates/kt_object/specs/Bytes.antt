-- The saved state of an object: the kind, the count of the value's numbers, the numbers.
use Rattle.std.specs.Prelude.{◌≡◌, ℕ, ℤ, List, ◌∷◌, length}
use Rattle.std.specs.List.{flat_map}
use Rattle.std.specs.Int.{w64, cast_unsigned, to_be_bytes}
use Rattle.kt_object.specs.Value.{IsValue}

-- a number's eight bytes, in two's complement, the greatest first
abbrev pub number_bytes : ℤ → List ℕ
number_bytes number = to_be_bytes w64 (cast_unsigned w64 number)

-- the bytes of a saved state
abbrev pub saved_bytes : ℕ → List ℤ → List ℕ
saved_bytes kind value = kind ∷ length value ∷ flat_map number_bytes value

-- these bytes are a saved state of this kind and value
pub record IsSavedState (kind : ℕ) (value : List ℤ) (saved : List ℕ) : Type 0 where
  pub proper : IsValue kind value
  pub bytes : saved ≡ saved_bytes kind value
