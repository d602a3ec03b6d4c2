-- An object's value is a list of whole numbers, by its kind: 0 is a sum, 1 the last number, 2 the tail of the last numbers.
use Rattle.std.specs.Prelude.{◌≡◌, ℕ, ◌-◌, ◌≤◌, ◌<◌, zero, suc, ℤ, pos, ◌+ℤ◌, List, [], ◌∷◌, ◌++◌, length, drop, slice_index_or, All, FitsSigned}
use Rattle.std.specs.Int.{w64, saturate_signed}

-- a kind
abbrev pub IsKind : ℕ → Type 0
IsKind kind = kind < 3

-- how many numbers the value of a kind has
abbrev pub IsValueCount : ℕ → ℕ → Type 0
IsValueCount zero count = count ≡ 1
IsValueCount (suc zero) count = count ≡ 1
IsValueCount (suc (suc _)) count = count ≤ 8

-- a value that an object of this kind may have
pub record IsValue (kind : ℕ) (value : List ℤ) : Type 0 where
  pub is_kind : IsKind kind
  pub count : IsValueCount kind (length value)
  pub numbers : All (λ number. FitsSigned w64 number) value

-- the value of a new object
abbrev pub opening_value : ℕ → List ℤ
opening_value zero = pos 0 ∷ []
opening_value (suc zero) = pos 0 ∷ []
opening_value (suc (suc _)) = []

-- the first number, or 0
abbrev pub first : List ℤ → ℤ
first value = slice_index_or value 0 (pos 0)

-- the number at the end, or 0
abbrev pub newest : List ℤ → ℤ
newest value = slice_index_or value (length value - 1) (pos 0)

-- the last eight numbers
abbrev pub last_eight : List ℤ → List ℤ
last_eight value = drop (length value - 8) value

-- the value after a message with this body: the sum, saturating at the ends of i64; the body; the last eight bodies
abbrev pub after : ℕ → List ℤ → ℕ → ℤ → List ℤ
after zero value from body = saturate_signed w64 (first value +ℤ body) ∷ []
after (suc zero) value from body = body ∷ []
after (suc (suc _)) value from body = last_eight (value ++ body ∷ [])

-- what the object offers to send: the sum; the number; the newest, or 0 where there is none
abbrev pub offered : ℕ → List ℤ → ℤ
offered zero value = first value
offered (suc zero) value = first value
offered (suc (suc _)) value = newest value
