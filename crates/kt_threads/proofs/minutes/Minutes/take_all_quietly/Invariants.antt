use Rattle.kt_threads.specs.Turns.{GoesOnQuietly}
use Rattle.kt_threads.proofs.minutes.Minutes.take_all_quietly.Given as goal

abbrev pub invariant-loop : goal.invariant-loop
invariant-loop g l = GoesOnQuietly l.initial.self l.self
