-- The messages of the window, followed row by row.
use Rattle.std.specs.Prelude.{◌≡◌, ℕ, nat_le, option_map, if◌then◌else◌, Option, Some, None, List, [], ◌∷◌, length, map, slice_get}
use Rattle.kt_spacetime.specs.declared.event.Event.{Event}
use Rattle.kt_spacetime.specs.declared.event.Event.TheVariants.{Sent, Received, Dropped}
use Rattle.kt_rules.specs.declared.traces.Trace.{Trace}
use Rattle.kt_meaning.specs.Past.{Past}
use Rattle.kt_rules.specs.Traces.{trace_of}
use Rattle.kt_picture.specs.declared.entry.Entry.{Entry}
use Rattle.kt_picture.specs.declared.entry.Message.{Message}
use Rattle.kt_picture.specs.declared.window.Shown.{Shown}
use Rattle.kt_walk.specs.Keeping.{kept_trace}
use Rattle.kt_picture.specs.KnownAtRow.{KnownAtRow, plain_at, seen_after, told_at}
use Rattle.kt_picture.specs.Fates.{receives}

-- the message that a row receives or drops
abbrev pub message_taken : Event → Option ℕ
message_taken (Received p from msg) = Some msg
message_taken (Dropped p from msg) = Some msg
message_taken _ = None

-- the message that a row of this number sends, receives or drops
abbrev pub message_in : ℕ → Event → Option ℕ
message_in n (Sent p to body) = Some n
message_in n row = message_taken row

-- a place where a history of this length has it
abbrev pub if_within : Option ℕ → ℕ → Option ℕ
if_within None n = None
if_within (Some place) n = if nat_le place n then Some place else None

-- a message that a walk keeps after these rows
abbrev pub message_kept : List Event → ℕ → Option Message
message_kept rows msg = option_map (λ t. record { msg = msg; trace = t }) (kept_trace rows msg)

-- the trace of a message after one more row, where this is known after it: a place stays where the history was not cut
-- back before it, and a receive is the last deed of its history
abbrev pub trace_after : Past → Event → ℕ → Trace → Trace
trace_after s row msg t = record {
  from = t.from;
  to = t.to;
  sent = if_within t.sent (length (s.live t.from));
  received = if receives msg row then Some (length (s.live t.to)) else if_within t.received (length (s.live t.to));
}

-- a message is the one of this number, and stands where these rows say; or there is none
abbrev pub IsFollowedAs : List Event → Option ℕ → Option Message → Type 0
IsFollowedAs rows number None = number ≡ None
IsFollowedAs rows number (Some m) = (number ≡ Some m.msg) × (trace_of rows m.msg ≡ Some m.trace)

-- the message of an entry is that of its row, and stands where these rows say
abbrev pub IsFollowed : List Event → Entry → Type 0
IsFollowed rows e = IsFollowedAs rows (message_in e.plain.row e.plain.event) e.message

-- so of all these entries
abbrev pub AreFollowed : List Event → List Entry → Type 0
AreFollowed rows entries = (k : ℕ) (e : Entry) → slice_get entries k ≡ Some e → IsFollowed rows e

-- what an entry's row shows, but for what becomes of it, and the row
abbrev pub plain_of : Entry → Shown
plain_of e = e.plain

abbrev pub event_of : Entry → Event
event_of e = e.plain.event

-- what the rows of a window show, where this is known at the first one, but for what becomes of them
abbrev pub plain_rows : KnownAtRow → List Event → List Shown
plain_rows s [] = []
plain_rows s (row ∷ rest) = plain_at s row ∷ plain_rows (seen_after s row) rest

-- what the rows of a window show with what becomes of them by the end of these rows
abbrev pub told_rows : List Event → List Entry → List Shown
told_rows upto [] = []
told_rows upto (e ∷ rest) = told_at upto e.plain (map event_of rest) ∷ told_rows upto rest
