-- The messages of a history that a log tells, as calls.
use Rattle.std.specs.Prelude.{ℕ, List, map, take}
use Rattle.kt_spacetime.specs.declared.event.Event.{Event}
use Rattle.kt_spacetime.specs.declared.deeds.Deed.{Deed}
use Rattle.kt_spacetime.specs.declared.deeds.Deed.TheVariants as deed
use Rattle.kt_tables.specs.Calls.{Call, sent, received}
use Rattle.kt_machine.specs.Labelling.{labelling}
use Rattle.kt_machine.specs.Done.{done}

-- a deed, by the label of its message
abbrev pub call_of_deed : (ℕ → ℕ) → Deed → Call
call_of_deed label (deed.Sent msg to) = sent to (label msg)
call_of_deed label (deed.Received msg from) = received from (label msg)

-- the messages of a history, where labels count on from this one
abbrev pub messages_of : ℕ → List Event → List Deed → List Call
messages_of first log deeds = map (call_of_deed (labelling first log).label) deeds

-- of what a process has done itself, the part that its last commit made permanent
abbrev pub own_permanent : List Event → ℕ → List Deed
own_permanent log p = take ((done log).permanent p) ((done log).own p)
