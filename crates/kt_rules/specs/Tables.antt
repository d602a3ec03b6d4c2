-- What rows do to tables.
use Rattle.std.specs.Prelude.{ℕ, if◌then◌else◌, Bool, false, Option, Some, None}

abbrev pub is_committed_decision : Option Bool → Bool
is_committed_decision None = false
is_committed_decision (Some commit) = commit
