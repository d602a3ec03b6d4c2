-- What became of a row's message or instance by the end of the window.
use Rattle.std.specs.Prelude.{ℕ, Bool, true, false, ◌||◌, ◌==◌, Option, Some, None, is_none, List}
use Rattle.std.specs.List.{list_any}
use Rattle.kt_spacetime.specs.declared.event.Event.{Event}
use Rattle.kt_spacetime.specs.declared.event.Event.TheVariants.{Sent, Received, Dropped, Took, Ready}
use Rattle.kt_rules.specs.declared.traces.Trace.{Trace}
use Rattle.kt_meaning.specs.Past.{past}
use Rattle.kt_meaning.specs.Legal.{is_undelivered}
use Rattle.kt_rules.specs.Traces.{trace_of}

-- whether the send of a message is undone
abbrev pub is_send_undone : Option Trace → Bool
is_send_undone None = false
is_send_undone (Some t) = is_none t.sent

-- whether no receive of a message is in its receiver's live history
abbrev pub has_no_receive : Option Trace → Bool
has_no_receive None = true
has_no_receive (Some t) = is_none t.received

-- whether a row receives this message
abbrev pub receives : ℕ → Event → Bool
receives msg (Received p from m) = m == msg
receives msg _ = false

-- whether the send of the message that a row of this number sends, receives or drops is undone after these rows
abbrev pub is_message_undone : List Event → ℕ → Event → Bool
is_message_undone upto n (Sent p to body) = is_send_undone (trace_of upto n)
is_message_undone upto n (Received p from msg) = is_send_undone (trace_of upto msg)
is_message_undone upto n (Dropped p from msg) = is_send_undone (trace_of upto msg)
is_message_undone upto n _ = false

-- whether a row receives a message, and that receive is undone after these rows, where the window goes on with the rest
abbrev pub is_receive_undone : List Event → Event → List Event → Bool
is_receive_undone upto (Received p from msg) rest = has_no_receive (trace_of upto msg) || list_any (receives msg) rest
is_receive_undone upto _ rest = false

-- whether a row of this number sends a message that is in transit after these rows
abbrev pub is_sent_in_transit : List Event → ℕ → Event → Bool
is_sent_in_transit upto n (Sent p to body) = is_undelivered (past upto) to p n
is_sent_in_transit upto n _ = false

-- how the instance that a process joins in a row is decided after these rows
abbrev pub joined_decision : List Event → Event → Option Bool
joined_decision upto (Took p inst) = (past upto).decision inst
joined_decision upto (Ready p inst) = (past upto).decision inst
joined_decision upto _ = None
