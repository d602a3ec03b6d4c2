-- Worked logs by names, and rows that are no log.
use Rattle.std.specs.Prelude.{List, [], ◌∷◌, true, false, pos}
use Rattle.kt_base.specs.declared.words.Kind.TheVariants.{Checkpoint, Rollback}
use Rattle.kt_base.specs.declared.words.Verb.TheVariants as verb
use Rattle.kt_base.specs.declared.words.Cause.TheVariants as cause
use Rattle.kt_spacetime.specs.declared.event.Event.{Event}
use Rattle.kt_spacetime.specs.declared.event.Event.TheVariants as row
use Rattle.kt_spacetime.specs.declared.named_rows.NamedCause.TheVariants as own_cause
use Rattle.kt_spacetime.specs.declared.named_rows.NamedEvent.TheVariants.{Sent, Received, Dropped, Began, Took, Ready, Unwilling, Decided, Closed, Failed, Refused}
use Rattle.kt_spacetime.specs.declared.named_rows.NamedRow.{NamedRow}
use Rattle.kt_meaning.specs.Names.{name_of, row_of}

-- a sends to b, b begins a checkpoint: both take part
abbrev pub two_processes_by_name : List NamedRow
two_processes_by_name =
    row_of 0 (Sent 1 (pos 5) 1) ∷
    row_of 1 (Received 0 1) ∷
    row_of 1 (Began (name_of 1 1) Checkpoint) ∷
    row_of 1 (Took (name_of 1 1)) ∷
    row_of 0 (Took (name_of 1 1)) ∷
    row_of 1 (Decided (name_of 1 1) true) ∷
    row_of 1 (Closed (name_of 1 1)) ∷
    row_of 0 (Closed (name_of 1 1)) ∷ []

-- b to c, a to b, c begins a checkpoint: all three
abbrev pub three_by_name : List NamedRow
three_by_name =
    row_of 1 (Sent 2 (pos 1) 1) ∷
    row_of 2 (Received 1 1) ∷
    row_of 0 (Sent 1 (pos 2) 1) ∷
    row_of 1 (Received 0 1) ∷
    row_of 2 (Began (name_of 2 1) Checkpoint) ∷
    row_of 2 (Took (name_of 2 1)) ∷
    row_of 1 (Took (name_of 2 1)) ∷
    row_of 0 (Took (name_of 2 1)) ∷
    row_of 2 (Decided (name_of 2 1) true) ∷
    row_of 2 (Closed (name_of 2 1)) ∷
    row_of 1 (Closed (name_of 2 1)) ∷
    row_of 0 (Closed (name_of 2 1)) ∷ []

-- b and a begin checkpoints, each alone
abbrev pub two_instances_by_name : List NamedRow
two_instances_by_name =
    row_of 0 (Sent 1 (pos 4) 1) ∷
    row_of 1 (Received 0 1) ∷
    row_of 1 (Began (name_of 1 1) Checkpoint) ∷
    row_of 1 (Took (name_of 1 1)) ∷
    row_of 0 (Began (name_of 0 1) Checkpoint) ∷
    row_of 0 (Took (name_of 0 1)) ∷
    row_of 0 (Decided (name_of 0 1) true) ∷
    row_of 0 (Closed (name_of 0 1)) ∷
    row_of 1 (Decided (name_of 1 1) true) ∷
    row_of 1 (Closed (name_of 1 1)) ∷ []

-- a has a checkpoint, sends again, b begins one: both
abbrev pub second_by_name : List NamedRow
second_by_name =
    row_of 0 (Sent 1 (pos 1) 1) ∷
    row_of 1 (Received 0 1) ∷
    row_of 0 (Began (name_of 0 1) Checkpoint) ∷
    row_of 0 (Took (name_of 0 1)) ∷
    row_of 0 (Decided (name_of 0 1) true) ∷
    row_of 0 (Closed (name_of 0 1)) ∷
    row_of 0 (Sent 1 (pos 2) 2) ∷
    row_of 1 (Received 0 2) ∷
    row_of 1 (Began (name_of 1 1) Checkpoint) ∷
    row_of 1 (Took (name_of 1 1)) ∷
    row_of 0 (Took (name_of 1 1)) ∷
    row_of 1 (Decided (name_of 1 1) true) ∷
    row_of 1 (Closed (name_of 1 1)) ∷
    row_of 0 (Closed (name_of 1 1)) ∷ []

-- c sends to a and b, a to b, c rolls back: all three
abbrev pub rollback_by_name : List NamedRow
rollback_by_name =
    row_of 2 (Sent 0 (pos 1) 1) ∷
    row_of 0 (Received 2 1) ∷
    row_of 2 (Sent 1 (pos 2) 2) ∷
    row_of 1 (Received 2 2) ∷
    row_of 0 (Sent 1 (pos 3) 1) ∷
    row_of 2 (Began (name_of 2 1) Rollback) ∷
    row_of 2 (Ready (name_of 2 1)) ∷
    row_of 1 (Ready (name_of 2 1)) ∷
    row_of 0 (Ready (name_of 2 1)) ∷
    row_of 2 (Decided (name_of 2 1) true) ∷
    row_of 2 (Closed (name_of 2 1)) ∷
    row_of 0 (Closed (name_of 2 1)) ∷
    row_of 1 (Closed (name_of 2 1)) ∷ []

-- b and a begin at once: a is asked while it is busy, a command to it is refused; b's object fails and drops a message
abbrev pub busy_and_dropped : List Event
busy_and_dropped =
    row.Sent 0 1 (pos 9) ∷
    row.Began 1 1 Checkpoint ∷
    row.Took 1 1 ∷
    row.Began 0 2 Rollback ∷
    row.Ready 0 2 ∷
    row.Unwilling 0 1 (cause.Busy 2) ∷
    row.Refused 0 verb.Checkpoint (cause.Busy 2) ∷
    row.Decided 1 1 false ∷
    row.Closed 1 1 ∷
    row.Failed 1 ∷
    row.Dropped 1 0 1 ∷
    row.Refused 1 verb.Send cause.Down ∷ []

abbrev pub busy_and_dropped_by_name : List NamedRow
busy_and_dropped_by_name =
    row_of 0 (Sent 1 (pos 9) 1) ∷
    row_of 1 (Began (name_of 1 1) Checkpoint) ∷
    row_of 1 (Took (name_of 1 1)) ∷
    row_of 0 (Began (name_of 0 1) Rollback) ∷
    row_of 0 (Ready (name_of 0 1)) ∷
    row_of 0 (Unwilling (name_of 1 1) (own_cause.Busy (name_of 0 1))) ∷
    row_of 0 (Refused verb.Checkpoint (own_cause.Busy (name_of 0 1))) ∷
    row_of 1 (Decided (name_of 1 1) false) ∷
    row_of 1 (Closed (name_of 1 1)) ∷
    row_of 1 Failed ∷
    row_of 1 (Dropped 0 1) ∷
    row_of 1 (Refused verb.Send own_cause.Down) ∷ []

-- a message is received before it is sent
abbrev pub takes_before_sent : List NamedRow
takes_before_sent =
    row_of 1 (Received 0 1) ∷
    row_of 0 (Sent 1 (pos 5) 1) ∷ []

-- an instance is joined before it begins
abbrev pub joins_before_begun : List NamedRow
joins_before_begun =
    row_of 0 (Took (name_of 1 1)) ∷
    row_of 1 (Began (name_of 1 1) Checkpoint) ∷ []

-- a process's first message has its second label
abbrev pub skips_a_label : List NamedRow
skips_a_label =
    row_of 0 (Sent 1 (pos 5) 2) ∷ []

-- an instance begins in another process's name
abbrev pub begins_for_another : List NamedRow
begins_for_another =
    row_of 0 (Began (name_of 1 1) Checkpoint) ∷ []

-- a message of process 0 is received as one of process 2
abbrev pub takes_of_another : List Event
takes_of_another =
    row.Sent 0 1 (pos 5) ∷
    row.Received 1 2 1 ∷ []
