-- The rules of rollbacks, of one process that made a list of calls on its tables.
use Rattle.std.specs.Prelude.{ℕ, ◌==◌, nat_lt, if◌then◌else◌, Bool, true, false, Option, Some, None, List, [], ◌∷◌}
use Rattle.std.specs.List.{list_any}
use Rattle.kt_base.specs.declared.words.Cause.{Cause}
use Rattle.kt_base.specs.declared.words.Cause.TheVariants.{Busy}
use Rattle.kt_tables.specs.Calls.{Call, on_rollback, parts, receiveds}
use Rattle.kt_process.specs.Answers.{Answer, replies, joins}

-- whether an ask of q with this label makes the process take part: it received a message of q since its last checkpoint that q undoes
unfoldable pub must_join : List Call → ℕ → ℕ → Bool
must_join calls q label = list_any (λ x. nat_lt label x) (receiveds q (parts calls).since)

-- why a process doesn't roll back: it may be down
abbrev pub rollback_refusal : Option ℕ → Option Cause
rollback_refusal (Some current) = Some (Busy current)
rollback_refusal None = None

-- whether it is in this instance
abbrev pub is_in : Option ℕ → ℕ → Bool
is_in (Some current) inst = current == inst
is_in None inst = false

-- what comes of an ask
abbrev pub rollback_answer : Option ℕ → ℕ → Bool → Answer
rollback_answer (Some other) inst must = if other == inst then replies true None else replies false (Some (Busy other))
rollback_answer None inst false = replies true None
rollback_answer None inst true = joins

-- the calls of a decision: an abort makes none
abbrev pub rollback_calls_of_decision : Bool → List Call
rollback_calls_of_decision true = on_rollback ∷ []
rollback_calls_of_decision false = []
