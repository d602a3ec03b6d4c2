-- Names of processes.
use Rattle.std.specs.Prelude.{◌≡◌, ◌≢◌, ◌≤◌, ◌==◌, ◌||◌, ◌&&◌, ℕ, Bool, true, false, List, [], ◌∷◌, length, nat_le, Option, position, All, AllPairs}
use Rattle.std.specs.Str.{bytes_eq}
use Rattle.std.specs.Char.{is_ascii_lowercase, is_ascii_digit}
use Rattle.std.specs.List.{list_all}

-- a letter from `a` to `z`, a digit or `_`
abbrev pub is_name_byte : ℕ → Bool
is_name_byte b = is_ascii_lowercase b || (is_ascii_digit b || (b == 95))

-- whether a word may name a process: 1 to 16 such bytes, the first of which is a letter
abbrev pub is_name : List ℕ → Bool
is_name [] = false
is_name (first ∷ rest) = nat_le (length rest) 15 && (is_ascii_lowercase first && list_all is_name_byte rest)

-- how many processes there are at most
abbrev pub most_names : ℕ
most_names = 64

-- the names of processes: proper ones, no two of them alike, and few enough
pub record AreNames (names : List (List ℕ)) : Type 0 where
  pub few : length names ≤ most_names
  pub proper : All (λ (name : List ℕ). is_name name ≡ true) names
  pub distinct : AllPairs (λ (one other : List ℕ). one ≢ other) names

-- the number that a word has among these names, if it is one of them
abbrev pub number_in : List (List ℕ) → List ℕ → Option ℕ
number_in names word = position (bytes_eq word) names
