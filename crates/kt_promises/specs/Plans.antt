-- Plans: the commands of a process, and their phases.
use Rattle.std.specs.Prelude.{ℕ, List, [], ◌∷◌, max}
use Rattle.kt_plan.specs.declared.commands.Command.{Command}

-- the greatest phase of a command
abbrev pub last_phase : List Command → ℕ
last_phase [] = 0
last_phase (c ∷ cs) = max c.phase (last_phase cs)
