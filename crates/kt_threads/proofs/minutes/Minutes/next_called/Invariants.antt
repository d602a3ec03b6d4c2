use Rattle.kt_threads.specs.Turns.{GoesOnQuietly}
use Rattle.kt_threads.proofs.minutes.Minutes.next_called.Given as goal

abbrev pub invariant-loop : goal.invariant-loop
invariant-loop g l = GoesOnQuietly l.initial.self l.self
