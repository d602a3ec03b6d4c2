use Rattle.std.proofs.Common.{◌≡◌, ◌+◌, length, All}
use Rattle.std.specs.Prelude.{Ok}
use Rattle.kt_program.proofs.casts.row_of.Given as goal

abbrev pub invariant-loop-number : goal.invariant-loop-number
invariant-loop-number g l = (length l.row.items ≡ l._number + 1) × All (λ object. (before after : _) × goal.F-step g before l.kind (Ok object) after) l.row.items
