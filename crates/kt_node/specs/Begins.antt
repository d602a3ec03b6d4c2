-- When a command begins an instance, and what beginning and joining one leave of a manager's guards.
use Rattle.std.specs.Prelude.{◌+◌, ◌&&◌, ◌||◌, Bool, false, Option, is_none}
use Rattle.kt_spacetime.specs.declared.names.InstName.{InstName}
use Rattle.kt_manager.specs.Nodes.{NodeState}

-- in no instance: a rollback, or a checkpoint where its object can be saved
abbrev pub begins : Option InstName → NodeState → Bool → Bool → Bool
begins o y roll able = is_none o && (roll || (able && y.up))

-- one more is begun, and nobody has replied in it
abbrev pub begun_guards : NodeState → NodeState
begun_guards y = record y { begun = y.begun + 1; answered = λ q. false }

abbrev pub joined_guards : NodeState → NodeState
joined_guards y = record y { answered = λ q. false }
