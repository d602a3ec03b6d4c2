-- When a diagram stands for rows, those before the window and those of the window so far; and a sheet for a log.
use Rattle.std.specs.Prelude.{◌≡◌, ◌⊎◌, ℕ, ◌<◌, ◌≤◌, List, [], ◌++◌, length, drop, take, map, fold}
use Rattle.kt_base.specs.Sets.{has}
use Rattle.kt_spacetime.specs.declared.event.Event.{Event}
use Rattle.kt_spacetime.specs.declared.certificate.Certificate.{Certificate}
use Rattle.kt_walk.specs.WalkParts.{WalkParts}
use Rattle.kt_picture.specs.declared.diagram.Diagram.{Diagram}
use Rattle.kt_picture.specs.declared.diagram.Sheet.{Sheet}
use Rattle.kt_picture.specs.Followed.{AreFollowed, plain_of, plain_rows}
use Rattle.kt_picture.specs.KnownOf.{KnownOf}
use Rattle.kt_picture.specs.Lanes.{is_named}
use Rattle.kt_picture.specs.KnownAtRow.{KnownAtRow, seen_before, seen_after, cut_rows}
use Rattle.kt_picture.specs.Window.{shown_of, cuts_of, ends_of}

-- what is known after rows before the window, and rows of the window
abbrev pub seen_in : List Event → List Event → KnownAtRow
seen_in front window = fold seen_after (seen_before front) window

-- a diagram stands, with a walk, for rows before the window and rows of the window
pub record DiagramOf (d : Diagram) (w : WalkParts) (front window : List Event) : Type 0 where
  pub known : KnownOf d.known w (seen_in front window) (front ++ window)
  pub named : (q : ℕ) → q < 64 → has d.named q ≡ is_named (front ++ window) q
  pub plain : map plain_of d.entries.items ≡ plain_rows (seen_before front) window
  pub followed : AreFollowed (front ++ window) d.entries.items
  pub cuts : d.cuts.items ≡ cut_rows (seen_before front) window

-- a sheet stands for a log after its first so many rows
pub record SheetOf (s : Sheet) (log : List Event) (before : ℕ) : Type 0 where
  pub named : (q : ℕ) → q < 64 → has s.named q ≡ is_named log q
  pub before_is : s.before ≡ before
  pub within : before ≤ length log
  pub columns : s.columns ≡ length (drop before log)
  pub shown : s.shown.items ≡ shown_of log before
  pub cuts : s.cuts.items ≡ cuts_of log before
  pub ends : s.ends.items ≡ ends_of log before

-- rows begin with those of a log, or there are no certificates, whose chains ask for them
abbrev pub HasRowsFor : List Event → List Event → List Certificate → Type 0
HasRowsFor rows log certificates = (take (length log) rows ≡ log) ⊎ (certificates ≡ [])
