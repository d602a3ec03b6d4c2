-- When a control stands for rows.
use Rattle.std.specs.Prelude.{◌≡◌, List}
use Rattle.kt_spacetime.specs.declared.event.Event.{Event}
use Rattle.kt_walk.specs.declared.control.ControlState.{ControlState}
use Rattle.kt_walk.specs.ControlParts.{ControlParts}
use Rattle.kt_walk.specs.PartsOf.{PartsOf}

-- the parts of a control
abbrev pub parts_of : ControlState → ControlParts
parts_of t = record { rows = t.rows; process_states = t.process_states.items; instances = t.instances.items; beginning = t.beginning; drops = t.drops }

-- what is kept beside the messages is what these rows say
abbrev pub ControlOf : ControlState → List Event → Type 0
ControlOf t rows = PartsOf (parts_of t) rows

-- what stays where processes alone change
pub record KeepsRest (t u : ControlState) : Type 0 where
  pub rows : u.rows ≡ t.rows
  pub instances : u.instances ≡ t.instances
  pub beginning : u.beginning ≡ t.beginning
  pub drops : u.drops ≡ t.drops
