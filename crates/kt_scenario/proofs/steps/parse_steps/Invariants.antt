use Rattle.std.proofs.Common.{◌≤◌, ◌+◌, length, []}
use Rattle.std.specs.Prelude.{option_map}
use Rattle.kt_scenario.specs.Lines.{lines_of, lines_left}
use Rattle.kt_scenario.specs.Steps.{StepSays}
use Rattle.kt_scenario.proofs.LineFacts.{Gathers, bytes_left}
use Rattle.kt_scenario.proofs.steps.parse_steps.Given as goal

abbrev pub invariant-loop-left : goal.invariant-loop-left
invariant-loop-left l =
    Gathers (StepSays l.fn.plan.names) [] (lines_of l.fn.text) l.steps.items (lines_left (option_map (λ text. text.now) l.left)) l.number
    × (l.number + bytes_left (option_map (λ text. text.now) l.left) ≤ length l.fn.text + 1)

abbrev pub decreases-loop-left : goal.decreases-loop-left
decreases-loop-left l = bytes_left (option_map (λ text. text.now) l.left)
