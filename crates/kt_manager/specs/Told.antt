-- What is told of a step.
use Rattle.std.specs.Prelude.{List, []}
use Rattle.kt_spacetime.specs.declared.named_rows.NamedEvent.{NamedEvent}
use Rattle.kt_plan.specs.declared.steps.Act.{Act}
use Rattle.kt_manager.specs.declared.effects.Parcels.{Parcels}
use Rattle.kt_manager.specs.declared.effects.Parcels.TheVariants.{Nothing}

-- its rows, what is to be done to the object, and its parcels
pub record Told : Type 0 where
  pub rows : List NamedEvent
  pub acts : List Act
  pub parcels : Parcels

-- nothing so far
abbrev pub nothing_told : Told
nothing_told = record { rows = []; acts = []; parcels = Nothing }
