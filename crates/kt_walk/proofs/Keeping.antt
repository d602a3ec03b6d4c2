-- What proofs say of the messages that a walk keeps.
use Rattle.std.specs.Prelude.{ℕ, nat_eq, Option, option_map, List}
use Rattle.std.specs.Option.{option_flatten}
use Rattle.std.specs.Map.{lookup}
use Rattle.kt_spacetime.specs.declared.event.Event.{Event}
use Rattle.kt_rules.specs.declared.traces.Trace.{Trace}
use Rattle.kt_meaning.specs.Past.{Past}
use Rattle.kt_meaning.specs.Messages.{row_at}
use Rattle.kt_rules.specs.Standing.{parties_of_row}
use Rattle.kt_rules.specs.Traces.{trace_between}
use Rattle.kt_walk.specs.Keeping.{if_kept}

-- the trace that a list of messages has for a message
abbrev pub kept_at : List (ℕ × Trace) → ℕ → Option Trace
kept_at traces msg = lookup (nat_eq msg) traces

-- who sent a message to whom in these rows
abbrev pub parties_in : List Event → ℕ → Option (ℕ × ℕ)
parties_in rows msg = option_flatten (option_map parties_of_row (row_at rows msg))

-- what is kept of a message between these two
abbrev pub kept_between : Past → ℕ → Option (ℕ × ℕ) → Option Trace
kept_between s msg between = if_kept s msg (trace_between s msg between)
