-- Instances that a process was unwilling to join.
use Rattle.std.specs.Prelude.{ℕ, ◌==◌, Bool, false, List}
use Rattle.std.specs.List.{list_any}
use Rattle.kt_spacetime.specs.declared.event.Event.{Event}
use Rattle.kt_spacetime.specs.declared.event.Event.TheVariants.{Unwilling}

-- whether a row says that a process was unwilling to join an instance
abbrev pub is_unwilling : ℕ → Event → Bool
is_unwilling k (Unwilling p j cause) = j == k
is_unwilling k _ = false

-- whether a log has such a row of an instance
abbrev pub has_unwilling : List Event → ℕ → Bool
has_unwilling log k = list_any (is_unwilling k) log
