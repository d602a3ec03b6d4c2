-- The row of a log that breaks a rule, and what is said of it below a picture.
use Rattle.std.specs.Prelude.{ℕ, if◌then◌else◌, true, false, Option, Some, None, is_some, List, [], ◌∷◌, codes}
use Rattle.std.specs.List.{concat}
use Rattle.std.specs.Fmt.{decimal}
use Rattle.kt_spacetime.specs.declared.event.Event.{Event}
use Rattle.kt_picture.specs.declared.window.BrokenRow.{BrokenRow}
use Rattle.kt_picture.specs.declared.window.Shown.{Shown}
use Rattle.kt_picture.specs.Texts.{rule_label}

-- how many columns the row that breaks a rule takes, where there is one
abbrev pub breach_columns : Option BrokenRow → ℕ
breach_columns breach = if is_some breach then 1 else 0

-- the row that breaks a rule, where there is one
abbrev pub breach_rows : Option BrokenRow → List Event
breach_rows None = []
breach_rows (Some b) = b.event ∷ []

-- the row of this number that breaks a rule, in a column of its own, as what it says
abbrev pub breach_shown : ℕ → ℕ → BrokenRow → Shown
breach_shown number column b = record {
  row = number;
  column = column;
  event = b.event;
  stretch = record { since = 0; up = true; open_in = None };
  is_undone = false;
  is_taken_back = false;
  is_in_transit = true;
  decision = None;
}

-- what is said below a picture of a log: that it is legal, or which row breaks which rule
abbrev pub caption_of : ℕ → Option BrokenRow → List ℕ
caption_of number None = codes "The log is legal."
caption_of number (Some b) = concat (codes "Row " ∷ decimal number ∷ codes " breaks " ∷ rule_label b.rule ∷ codes "." ∷ [])
