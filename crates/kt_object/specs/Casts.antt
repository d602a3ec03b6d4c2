-- Which objects a plan asks for.
use Rattle.std.specs.Prelude.{◌≡◌, ◌<◌, ◌+◌, ℕ, Bool, true, false, List, [], length, slice_index, slice_index_or, All}
use Rattle.kt_object.specs.declared.held_faults.CastFault.{CastFault}
use Rattle.kt_object.specs.declared.held_faults.CastFault.TheVariants.{Size, Kind, Object, Memory}
use Rattle.kt_plan.specs.Failures.{failures_of}
use Rattle.kt_plan.specs.declared.commands.Command.{Command}

-- the kinds of the objects that are given, by process: each process has an object, and a spare for each of its failures
pub record HasSizes (kinds : List ℕ) (commands : List Command) (given : List (List ℕ)) : Type 0 where
  pub processes : length given ≡ length kinds
  pub objects : (p : ℕ) → p < length kinds → length (slice_index_or given p []) ≡ failures_of commands p + 1

-- all objects that are given for a process are of its kind
abbrev pub HasKind : List ℕ → List (List ℕ) → ℕ → Type 0
HasKind kinds given p = All (λ (kind : ℕ). kind ≡ slice_index kinds p) (slice_index_or given p [])

-- which faults come before anything is saved
abbrev pub is_checked : CastFault → Bool
is_checked Size = true
is_checked (Kind p) = true
is_checked (Object p) = false
is_checked Memory = false
