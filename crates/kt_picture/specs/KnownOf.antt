-- When what is kept at a row of the window stands for what is known there.
use Rattle.std.specs.Prelude.{◌≡◌, List}
use Rattle.kt_spacetime.specs.declared.event.Event.{Event}
use Rattle.kt_meaning.specs.Past.{past}
use Rattle.kt_walk.specs.WalkOf.{WalkOf}
use Rattle.kt_walk.specs.WalkParts.{WalkParts}
use Rattle.kt_picture.specs.declared.window.Known.{Known}
use Rattle.kt_picture.specs.KnownAtRow.{KnownAtRow}

-- it stands, with a walk, for what is known after these rows
pub record KnownOf (k : Known) (w : WalkParts) (s : KnownAtRow) (log : List Event) : Type 0 where
  pub walk : WalkOf w log
  pub past : s.past ≡ past log
  pub column : k.column ≡ s.column
  pub latest : k.latest ≡ s.latest
  pub taken : k.taken ≡ s.taken
  pub places : k.places ≡ s.places
