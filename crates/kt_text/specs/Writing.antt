-- Texts as they are written.
use Rattle.std.specs.Prelude.{◌≡◌, ℕ, List, [], ◌∷◌, ◌++◌, Option}
use Rattle.std.specs.Io.{StartsWith}
use Rattle.std.specs.Io.KnownBytes.{Appends}
use Rattle.std.specs.List.{join_with_byte, flat_map}

-- the fields of a record joined by commas
abbrev pub joined : List (List ℕ) → List ℕ
joined fields = join_with_byte 44 fields

-- a record as it is written, ended by a line feed
abbrev pub line_of : List (List ℕ) → List ℕ
line_of fields = joined fields ++ 10 ∷ []

-- records in order
abbrev pub text_of : List (List (List ℕ)) → List ℕ
text_of records = flat_map line_of records

-- what went out meanwhile, followed by what is gathered then, is what was gathered before, followed by this text
pub record Sends (old new : Option (List ℕ)) (before after text : List ℕ) : Type 0 where
  pub gone : List ℕ
  pub written : Appends old new gone
  pub is : gone ++ after ≡ before ++ text

-- what was written before stays, and a front part of this text follows it
pub record WritesFront (old new : Option (List ℕ)) (text : List ℕ) : Type 0 where
  pub part : List ℕ
  pub written : Appends old new part
  pub front : StartsWith text part
