use Rattle.std.proofs.Common.{[], take}
use Rattle.kt_text.specs.Writing.{Sends}
use Rattle.kt_scenario.specs.Written.{steps_text}
use Rattle.kt_scenario.proofs.writing.write_steps.Given as goal

abbrev pub invariant-loop-step : goal.invariant-loop-step
invariant-loop-step g l = Sends (g.W.Write.contents l.fn.writer) (g.W.Write.contents l.writer) [] l.text.items (steps_text l.names (take l.step-index l.steps))
