-- Objects that are always saved and brought back, but for want of memory.
use Rattle.std.specs.Prelude.{ℕ, ℤ, List}
use Rattle.kt_object.specs.Bytes.{IsSavedState}

-- an object of this kind never refuses to be saved, and rejects no saved state of its kind
pub record IsReliable (kind : ℕ) (may_refuse : Type 0) (may_reject : List ℕ → Type 0) : Type 0 where
  pub saves : ¬ may_refuse
  pub takes : (value : List ℤ) (saved : List ℕ) → IsSavedState kind value saved → ¬ may_reject saved
