-- A log that is drawn while its rows are read.
use Rattle.std.specs.Prelude.{◌≡◌, ◌⊎◌, ◌≤◌, ◌+◌, ◌-◌, ℕ, if◌then◌else◌, nat_lt, Option, Some, None, List, [], length, take, drop}
use Rattle.kt_spacetime.specs.declared.event.Event.{Event}
use Rattle.kt_spacetime.specs.declared.certificate.Certificate.{Certificate}
use Rattle.kt_walk.specs.WalkOf.{WalkOf}
use Rattle.kt_walk.specs.WalkParts.{WalkParts}
use Rattle.kt_picture.specs.declared.diagram.Diagram.{Diagram}
use Rattle.kt_picture.specs.declared.diagram.Sheet.{Sheet}
use Rattle.kt_picture.specs.DiagramOf.{DiagramOf, SheetOf}
use Rattle.kt_draw.specs.declared.drawing.Followed.{Followed}
use Rattle.kt_draw.specs.declared.drawing.Reading.{Reading}
use Rattle.kt_draw.specs.declared.span.Span.{Span}
use Rattle.kt_draw.specs.Drawn.{IsReadTo, first_row, most_columns}

-- how many columns a picture has at most, where so many rows come before it
abbrev pub columns_wanted : ℕ → Option ℕ → ℕ
columns_wanted before None = most_columns
columns_wanted before (Some number) = if nat_lt (number - before) most_columns then number - before else most_columns

-- so this is the last row that it may show
abbrev pub last_wanted : ℕ → Option ℕ → ℕ
last_wanted before to = before + columns_wanted before to

-- what is known of the window of a log of which these rows were taken: a diagram while it goes on, and then its sheet
abbrev pub ShowsWindow : Option Sheet → Diagram → WalkParts → ℕ → ℕ → List Event → Type 0
ShowsWindow None d w before last rows = (length rows ≤ last) × DiagramOf d w (take before rows) (drop before rows)
ShowsWindow (Some sheet) d w before last rows = (last ≤ length rows) × SheetOf sheet (take last rows) before

-- a walk with its window stands for these rows
pub record FollowedOf (f : Followed) (rows : List Event) : Type 0 where
  pub walk : WalkOf f.walk rows
  pub some : f.before ≤ f.last
  pub window : ShowsWindow f.sheet f.diagram f.walk f.before f.last rows

-- rows are those that were read, or there are no certificates, whose chains ask for them
abbrev pub AreRowsRead : List Event → List Event → List Certificate → Type 0
AreRowsRead rows read certificates = (rows ≡ read) ⊎ (certificates ≡ [])

-- it stands for the first of these rows, up to where reading them as rows stops
pub record ReadingOf (r : Reading) (span : Span) (rows : List Event) : Type 0 where
  pub kept : List Event
  pub front : take (length kept) rows ≡ kept
  pub read : IsReadTo rows (length kept) r.breach
  pub count : r.count ≡ length rows
  pub followed : FollowedOf r.followed kept
  pub before : r.followed.before ≡ first_row span.from - 1
  pub last : r.followed.last ≡ last_wanted (first_row span.from - 1) span.to
