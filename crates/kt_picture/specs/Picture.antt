-- The picture of a log.
use Rattle.std.specs.Prelude.{ℕ, ◌+◌, Option, List, ◌++◌, length, drop}
use Rattle.kt_spacetime.specs.declared.event.Event.{Event}
use Rattle.kt_spacetime.specs.declared.certificate.Certificate.{Certificate}
use Rattle.kt_picture.specs.declared.window.BrokenRow.{BrokenRow}
use Rattle.kt_picture.specs.BrokenRow.{breach_columns, breach_rows}
use Rattle.kt_picture.specs.Evidence.{link_of, reason_of}
use Rattle.kt_picture.specs.Lanes.{lanes_in}
use Rattle.kt_picture.specs.Layers.{picture_text}
use Rattle.kt_picture.specs.View.{View}
use Rattle.kt_picture.specs.Window.{shown_of, ends_of, cuts_of}

-- how many columns a picture has: one for each row, and one for the row that breaks a rule
abbrev pub columns_of : List Event → ℕ → Option BrokenRow → ℕ
columns_of rows before breach = length (drop before rows) + breach_columns breach

-- what the marks of a log are drawn by, after its first so many rows
abbrev pub view_of : List (List ℕ) → List Event → ℕ → Option BrokenRow → List Certificate → Option ℕ → View
view_of names rows before breach certificates orphan = record {
  names = names;
  lanes = lanes_in (rows ++ breach_rows breach);
  before = before;
  columns = columns_of rows before breach;
  right = length (drop before rows) + 1;
  shown = shown_of rows before;
  cuts = cuts_of rows before;
  ends = ends_of rows before;
  breach = breach;
  link = link_of (length rows) certificates;
  orphan = orphan;
  reason = reason_of names rows certificates;
}

-- a picture of a legal log after its first so many rows, with the row after it that breaks a rule, where there is one, with
-- what certificates tell of it, the orphan that stands out, where there is one, and a line below
abbrev pub picture_of : List (List ℕ) → List Event → ℕ → Option BrokenRow → List Certificate → Option ℕ → List ℕ → List ℕ
picture_of names rows before breach certificates orphan caption =
    picture_text (view_of names rows before breach certificates orphan) caption
