-- What a run begins with, whatever it is made of.
use Rattle.std.specs.Prelude.{◌≡◌, ◌<◌, ◌+◌, ℕ, List, [], length, slice_index, slice_index_or, All}
use Rattle.kt_plan.specs.declared.commands.Command.{Command}
use Rattle.kt_plan.specs.Failures.{failures_of}

-- by process: what is made for it, and a spare for each of its failures, each made for its kind
pub record IsMadeCast {O : Type 0} (Made : ℕ → O → Type 0) (kinds : List ℕ) (commands : List Command) (cast : List (List O)) : Type 0 where
  pub processes : length cast ≡ length kinds
  pub objects : (p : ℕ) → p < length kinds → length (slice_index_or cast p []) ≡ failures_of commands p + 1
  pub made : (p : ℕ) → p < length kinds → All (Made (slice_index kinds p)) (slice_index_or cast p [])
