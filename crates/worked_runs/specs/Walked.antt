-- A stored log that a walk was fed.
use Rattle.std.specs.Prelude.{ℕ, List, Option}
use Rattle.kt_spacetime.specs.declared.event.Event.{Event}
use Rattle.kt_meaning.specs.Legal.{IsLegal}
use Rattle.kt_checker.specs.Streamed.{SaysRows}
use Rattle.kt_walk.specs.WalkOf.{WalkOf}
use Rattle.kt_walk.specs.WalkParts.{WalkParts}

-- the text, where it is known, says the rows of a legal log, and the walk stands for these
pub record IsWalkedText (text : Option (List ℕ)) (walk : WalkParts) : Type 0 where
  pub rows : List Event
  pub says : SaysRows text rows
  pub legal : IsLegal rows
  pub stands : WalkOf walk rows
