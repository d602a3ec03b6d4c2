use Rattle.std.proofs.Common.{map}
use Rattle.std.specs.Prelude.{Ok}
use Rattle.kt_program.proofs.Casting.{IsBegun}
use Rattle.kt_program.proofs.casts.cast_of.Given as goal

abbrev pub invariant-loop-number : goal.invariant-loop-number
invariant-loop-number g l =
    IsBegun (λ kind object. (before after : _) × goal.F-step g before kind (Ok object) after) l.fn.plan.kinds l.fn.plan.commands l.number (map (λ row. row.items) l.cast.items)
