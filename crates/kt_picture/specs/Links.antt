-- What is noted of the messages of a log that are in chains.
use Rattle.std.specs.Prelude.{◌≡◌, ◌<◌, ℕ, zero, suc, Bool, Option, Some, None, List, if◌then◌else◌, length, slice_index_or}
use Rattle.std.specs.Option.{option_or}

-- the instance that is noted at a message, from 1 on
abbrev pub link_at : List (Option ℕ) → ℕ → Option ℕ
link_at noted zero = None
link_at noted (suc n) = slice_index_or noted n None

-- an instance is noted at each message that a test tells, where none was noted
pub record NotesMore (old new : List (Option ℕ)) (inst : ℕ) (is_told : ℕ → Bool) : Type 0 where
  pub few : length new ≡ length old
  pub noted : (n : ℕ) → n < length old → slice_index_or new n None ≡ option_or (slice_index_or old n None) (if is_told (suc n) then Some inst else None)
