use Rattle.std.proofs.Common.{◌≡◌}
use Rattle.worked_runs.proofs.stepping.step_by_turns.Given as goal

abbrev pub invariant-loop-turn : goal.invariant-loop-turn
invariant-loop-turn l = l.world.agenda.plan ≡ l.fn.world.agenda.plan
