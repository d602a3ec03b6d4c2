-- Where the rows of a message stand in the live histories.
use Rattle.std.specs.Prelude.{ℕ, suc, if◌then◌else◌, Option, Some, None, option_map, List, [], ◌∷◌}
use Rattle.std.specs.Option.{option_flatten}
use Rattle.kt_spacetime.specs.declared.event.Event.{Event}
use Rattle.kt_spacetime.specs.declared.deeds.Deed.{Deed}
use Rattle.kt_spacetime.specs.declared.deeds.Deed.TheVariants as deed
use Rattle.kt_rules.specs.declared.traces.Trace.{Trace}
use Rattle.kt_meaning.specs.Past.{Past, past}
use Rattle.kt_meaning.specs.Legal.{is_deed}
use Rattle.kt_meaning.specs.Messages.{row_at}
use Rattle.kt_rules.specs.Standing.{parties_of_row}

-- the place of a deed in a history, counted from 1
abbrev pub place_of : Deed → List Deed → Option ℕ
place_of d [] = None
place_of d (e ∷ deeds) = if is_deed d e then Some 1 else option_map suc (place_of d deeds)

-- a message of this sender to this receiver, and its places
abbrev pub trace_between : Past → ℕ → Option (ℕ × ℕ) → Option Trace
trace_between s msg None = None
trace_between s msg (Some (p, q)) =
    Some (record {
      from = p;
      to = q;
      sent = place_of (deed.Sent msg q) (s.live p);
      received = place_of (deed.Received msg p) (s.live q);
    })

-- a message and its places after these rows; none where they have no such message
abbrev pub trace_of : List Event → ℕ → Option Trace
trace_of rows msg = trace_between (past rows) msg (option_flatten (option_map parties_of_row (row_at rows msg)))
