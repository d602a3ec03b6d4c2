-- The commands of a plan are in phases, and so are those of each process.
use Rattle.std.specs.Prelude.{All, slice_index_or}
use Rattle.std.specs.List.Sorted.{IsNonDecreasingBy}
use Rattle.std.proofs.Common.{◌<◌, ◌≤◌, ℕ, suc, List, [], ◌∷◌, length, arith}
use Rattle.std.proofs.lemmas.List.Elements.{All-head, All-tail}
use Rattle.kt_plan.specs.Limits.{Planned, IsPlan, IsCommandOf}
use Rattle.kt_plan.specs.declared.commands.Command.{Command}
use Rattle.kt_meaning.specs.Follows.{commands_of}
use Rattle.kt_promises.proofs.PhaseOrder.{AreInPhases, Ordered, ordered}

in_phases : (n low : ℕ) (cs : List Command) → All (IsCommandOf n) cs → IsNonDecreasingBy (λ (c : Command). c.phase) cs → ((d : Command) → 0 < length cs → low ≤ (slice_index_or cs 0 d).phase) → AreInPhases n low cs
in_phases n low [] a s f = tt
in_phases n low (c ∷ cs) a s f = let first = All-head (IsCommandOf n) c cs a in (
  first.0,
  first.1,
  f c (omega arith),
  in_phases n c.phase cs (All-tail (IsCommandOf n) c cs a) (λ i j d h l. s (suc i) (suc j) d (omega (arith, h)) (omega (arith, l))) (λ d l. s 0 1 d (omega arith) (omega (arith, l))),
)

pub own_ordered : (plan : Planned) (p : ℕ) → IsPlan plan → Ordered (length plan.names) p 0 (commands_of p plan.commands)
own_ordered plan p i = ordered (length plan.names) p 0 plan.commands (in_phases (length plan.names) 0 plan.commands i.commands i.phases (λ d l. omega arith))
