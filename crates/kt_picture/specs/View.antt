-- What marks are drawn by.
use Rattle.std.specs.Prelude.{ℕ, List, Option}
use Rattle.kt_spacetime.specs.declared.event.Event.{Event}
use Rattle.kt_picture.specs.declared.window.BrokenRow.{BrokenRow}
use Rattle.kt_picture.specs.declared.window.Shown.{Shown}
use Rattle.kt_picture.specs.declared.window.CutMark.{CutMark}
use Rattle.kt_picture.specs.declared.window.Stretch.{Stretch}

-- the names of processes, and which of them have a lane; how many rows come before the window, how many columns there are, where lanes end,
-- what its rows show, its permanent cuts, how lanes go on behind it, and the row after it that breaks a rule; in whose chain a
-- message is, which orphan stands out, and why a process joins by a row
pub record View : Type 0 where
  pub names : List (List ℕ)
  pub lanes : List ℕ
  pub before : ℕ
  pub columns : ℕ
  pub right : ℕ
  pub shown : List Shown
  pub cuts : List CutMark
  pub ends : List Stretch
  pub breach : Option BrokenRow
  pub link : ℕ → Option ℕ
  pub orphan : Option ℕ
  pub reason : Event → List ℕ
