-- Logs by names and logs by numbers.
use Rattle.std.specs.Prelude.{ℕ, zero, suc, ◌+◌, ◌==◌, ◌&&◌, if◌then◌else◌, Option, Some, None, option_map, List, [], ◌∷◌, ◌++◌, length, slice_get, fold}
use Rattle.std.specs.Option.{option_and_then}
use Rattle.kt_base.specs.declared.words.Cause.{Cause}
use Rattle.kt_base.specs.declared.words.Cause.TheVariants as cause
use Rattle.kt_spacetime.specs.declared.event.Event.{Event}
use Rattle.kt_spacetime.specs.declared.event.Event.TheVariants.{Sent, Received, Dropped, Began, Took, Ready, Unwilling, Decided, Closed, Failed, Refused}
use Rattle.kt_spacetime.specs.Events.{process_of}
use Rattle.kt_meaning.specs.Past.{at_one}
use Rattle.kt_spacetime.specs.declared.names.InstName.{InstName}
use Rattle.kt_spacetime.specs.declared.named_rows.NamedCause.{NamedCause}
use Rattle.kt_spacetime.specs.declared.named_rows.NamedCause.TheVariants as own_cause
use Rattle.kt_spacetime.specs.declared.named_rows.NamedEvent.{NamedEvent}
use Rattle.kt_spacetime.specs.declared.named_rows.NamedEvent.TheVariants as own
use Rattle.kt_spacetime.specs.declared.named_rows.NamedRow.{NamedRow}

-- what rows gave
pub record Given : Type 0 where
  -- how many rows there are
  pub rows : ℕ
  -- who began each instance, in the order in which they began
  pub initiators : List ℕ
  -- the numbers of the messages that a process sent, in order
  pub sent : ℕ → List ℕ
  -- the numbers of the instances that a process began, in order
  pub begun : ℕ → List ℕ

abbrev pub nothing_given : Given
nothing_given = record { rows = 0; initiators = []; sent = λ p. []; begun = λ p. [] }

-- one more row
abbrev pub initiators_after : Given → Event → List ℕ
initiators_after g (Began p inst kind) = g.initiators ++ p ∷ []
initiators_after g _ = g.initiators

abbrev pub sent_after : Given → Event → ℕ → List ℕ
sent_after g (Sent p to body) = at_one p (g.sent p ++ (g.rows + 1) ∷ []) g.sent
sent_after g _ = g.sent

abbrev pub begun_after : Given → Event → ℕ → List ℕ
begun_after g (Began p inst kind) = at_one p (g.begun p ++ (length g.initiators + 1) ∷ []) g.begun
begun_after g _ = g.begun

abbrev pub given_after : Given → Event → Given
given_after g row = record {
  rows = g.rows + 1;
  initiators = initiators_after g row;
  sent = sent_after g row;
  begun = begun_after g row;
}

-- what a log gave, after what was given before
abbrev pub given_by : Given → List Event → Given
given_by g log = fold given_after g log

-- an instance of an initiator
abbrev pub name_of : ℕ → ℕ → InstName
name_of p count = record { initiator = p; count = count }

-- what stands at a place, which is counted from 1
abbrev pub at_place : List ℕ → ℕ → Option ℕ
at_place xs zero = None
at_place xs (suc i) = slice_get xs i

-- the first place of a number, counted from 1
abbrev pub place_of : ℕ → List ℕ → Option ℕ
place_of n [] = None
place_of n (x ∷ xs) = if x == n then Some 1 else option_map suc (place_of n xs)

-- from names to numbers

abbrev pub message_number : Given → ℕ → ℕ → Option ℕ
message_number g from label = at_place (g.sent from) label

abbrev pub instance_number : Given → InstName → Option ℕ
instance_number g inst = at_place (g.begun inst.initiator) inst.count

abbrev pub numbered_cause : Given → NamedCause → Option Cause
numbered_cause g (own_cause.Busy inst) = option_map cause.Busy (instance_number g inst)
numbered_cause g own_cause.Down = Some cause.Down
numbered_cause g own_cause.NoSave = Some cause.NoSave

-- a process's row by numbers, where the name that it gives is the next one, and each other name was given before
abbrev pub numbered_event : Given → ℕ → NamedEvent → Option Event
numbered_event g p (own.Sent to body label) = if label == length (g.sent p) + 1 then Some (Sent p to body) else None
numbered_event g p (own.Received from label) = option_map (Received p from) (message_number g from label)
numbered_event g p (own.Dropped from label) = option_map (Dropped p from) (message_number g from label)
numbered_event g p (own.Began inst kind) =
    if (inst.initiator == p) && (inst.count == length (g.begun p) + 1) then Some (Began p (length g.initiators + 1) kind) else None
numbered_event g p (own.Took inst) = option_map (Took p) (instance_number g inst)
numbered_event g p (own.Ready inst) = option_map (Ready p) (instance_number g inst)
numbered_event g p (own.Unwilling inst c) = option_and_then (λ k. option_map (Unwilling p k) (numbered_cause g c)) (instance_number g inst)
numbered_event g p (own.Decided inst commit) = option_map (λ k. Decided p k commit) (instance_number g inst)
numbered_event g p (own.Closed inst) = option_map (Closed p) (instance_number g inst)
numbered_event g p own.Failed = Some (Failed p)
numbered_event g p (own.Refused verb c) = option_map (Refused p verb) (numbered_cause g c)

abbrev pub numbered_from : Given → List NamedRow → Option (List Event)
numbered_from g [] = Some []
numbered_from g (row ∷ rows) =
    option_and_then (λ event. option_map (λ events. event ∷ events) (numbered_from (given_after g event) rows)) (numbered_event g row.p row.event)

-- the log of rows by names, where each name is the next one of its process, and was given by an earlier row
abbrev pub numbered : List NamedRow → Option (List Event)
numbered rows = numbered_from nothing_given rows

-- from numbers to names

abbrev pub message_label : Given → ℕ → ℕ → Option ℕ
message_label g from msg = place_of msg (g.sent from)

abbrev pub name_begun_by : Given → ℕ → ℕ → Option InstName
name_begun_by g inst p = option_map (name_of p) (place_of inst (g.begun p))

abbrev pub instance_name : Given → ℕ → Option InstName
instance_name g inst = option_and_then (name_begun_by g inst) (at_place g.initiators inst)

abbrev pub named_cause : Given → Cause → Option NamedCause
named_cause g (cause.Busy inst) = option_map own_cause.Busy (instance_name g inst)
named_cause g cause.Down = Some own_cause.Down
named_cause g cause.NoSave = Some own_cause.NoSave

-- a row by names, where an instance that it begins has the next number, and each other one began before
abbrev pub named_event : Given → Event → Option NamedEvent
named_event g (Sent p to body) = Some (own.Sent to body (length (g.sent p) + 1))
named_event g (Received p from msg) = option_map (own.Received from) (message_label g from msg)
named_event g (Dropped p from msg) = option_map (own.Dropped from) (message_label g from msg)
named_event g (Began p inst kind) =
    if inst == length g.initiators + 1 then Some (own.Began (name_of p (length (g.begun p) + 1)) kind) else None
named_event g (Took p inst) = option_map own.Took (instance_name g inst)
named_event g (Ready p inst) = option_map own.Ready (instance_name g inst)
named_event g (Unwilling p inst c) = option_and_then (λ name. option_map (own.Unwilling name) (named_cause g c)) (instance_name g inst)
named_event g (Decided p inst commit) = option_map (λ name. own.Decided name commit) (instance_name g inst)
named_event g (Closed p inst) = option_map own.Closed (instance_name g inst)
named_event g (Failed p) = Some own.Failed
named_event g (Refused p verb c) = option_map (own.Refused verb) (named_cause g c)

-- a row of a process
abbrev pub row_of : ℕ → NamedEvent → NamedRow
row_of p event = record { p = p; event = event }

abbrev pub named_from : Given → List Event → Option (List NamedRow)
named_from g [] = Some []
named_from g (row ∷ rows) =
    option_and_then (λ event. option_map (λ events. row_of (process_of row) event ∷ events) (named_from (given_after g row) rows)) (named_event g row)

-- a log by names, where each instance has its number in order, and what a row names was given by an earlier row
abbrev pub named : List Event → Option (List NamedRow)
named log = named_from nothing_given log
