-- Where a process's permanent position stands.
use Rattle.std.specs.Prelude.{◌≡◌, ◌≢◌, ◌≤◌, ◌<◌, ℕ, zero, suc, true, Option, Some, None, List, [], ◌∷◌, take}
use Rattle.kt_spacetime.specs.declared.event.Event.{Event}
use Rattle.kt_spacetime.specs.declared.event.Event.TheVariants.{Took, Decided}
use Rattle.kt_meaning.specs.Past.{past}
use Rattle.kt_meaning.specs.Messages.{row_at}
use Rattle.kt_picture.specs.declared.window.CutMark.{CutMark}
use Rattle.kt_picture.specs.Marks.{column_of}

-- by the row of this number a process took its last permanent checkpoint: its instance is committed after these first so
-- many rows, and none is of which it has a later took row there
pub record IsLastPermanent (rows : List Event) (upto p row : ℕ) : Type 0 where
  pub instance : ℕ
  pub took : row_at rows row ≡ Some (Took p instance)
  pub within : row ≤ upto
  pub committed : (past (take upto rows)).decision instance ≡ Some true
  pub last : (n k : ℕ) → row < n → n ≤ upto → row_at rows n ≡ Some (Took p k) → (past (take upto rows)).decision k ≢ Some true

-- in a window after so many rows this is the column of a process's permanent position, after the first so many rows: that of
-- the row of its last permanent checkpoint, or the left end
pub record IsPermanentColumn (rows : List Event) (before upto p column : ℕ) : Type 0 where
  pub through : (row : ℕ) → IsLastPermanent rows upto p row → column ≡ column_of before row
  pub left_end : ((row : ℕ) → IsLastPermanent rows upto p row → ⊥) → column ≡ 0

-- the instance that a row commits
abbrev pub commits : Event → Option ℕ
commits (Decided p instance true) = Some instance
commits _ = None

-- the columns of the cut before the one at a place of a list; before the first one, these columns
abbrev pub columns_before : List ℕ → List CutMark → ℕ → List ℕ
columns_before first cuts zero = first
columns_before first [] (suc j) = first
columns_before first (c ∷ cuts) (suc j) = columns_before c.columns cuts j
