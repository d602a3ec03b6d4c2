-- The records of a text that a reader has left.
use Rattle.std.specs.Prelude.{◌≡◌, ◌+◌, if◌then◌else◌, nat_le, ℕ, List, [], ◌∷◌, ◌++◌, Option, Some, None, option_map, true, false, length, take}
use Rattle.csv.specs.Reading.{records, strip_bom, records_from, default_config, source_of, reader_config, reader_trim, reader_state, is_flexible, has_failed, Ready}
use Rattle.csv.specs.declared.parser.Config.{Config}
use Rattle.csv.specs.declared.parser.State.{State}
use Rattle.csv.specs.declared.reader.Reader.{Reader}
use Rattle.csv.specs.declared.reader.Trim.TheVariants as trim

-- records up to the first that is wider, which is cut after its first fields and one that is empty
unfoldable pub cut_at : ℕ → List (List (List ℕ)) → List (List (List ℕ))
cut_at width [] = []
cut_at width (fields ∷ rest) = if nat_le (length fields) width then fields ∷ cut_at width rest else (take width fields ++ [] ∷ []) ∷ []

-- the records of a text; nothing is read after the comma with which a record has more fields than this
abbrev pub text_records : ℕ → List ℕ → List (List (List ℕ))
text_records width bytes = cut_at width (records default_config (strip_bom bytes))

-- from a state of the reader on
abbrev pub records_left : Config → State → List ℕ → List (List (List ℕ))
records_left config state bytes = records_from config (length bytes + 1) state bytes

-- the records that a reader has left, where its bytes are known
abbrev pub left_in : {R : Type 0} → (R → Option (List ℕ)) → Reader R → Option (List (List (List ℕ)))
left_in remaining records = option_map (λ bytes. records_left default_config (reader_state records) bytes) (source_of remaining records)

-- how a reader that reads on is set up
pub record ReadsOn {R : Type 0} (records : Reader R) : Type 0 where
  pub config : reader_config records ≡ default_config
  pub trim : reader_trim records ≡ trim.None
  pub ready : Ready records
  pub flexible : is_flexible records ≡ true
  pub going : has_failed records ≡ false

-- known records of which the first has these fields
abbrev pub FieldsTaken : Option (List (List (List ℕ))) → Option (List (List (List ℕ))) → List (List ℕ) → Type 0
FieldsTaken None new fields = Unit {0}
FieldsTaken (Some left) None fields = ⊥
FieldsTaken (Some left) (Some rest) fields = left ≡ fields ∷ rest
