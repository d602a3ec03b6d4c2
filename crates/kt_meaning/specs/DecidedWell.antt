-- What is so of the log of every run, as far as its certificates need it.
use Rattle.std.specs.Prelude.{List}
use Rattle.kt_spacetime.specs.declared.event.Event.{Event}
use Rattle.kt_meaning.specs.Legal.{IsLegal}
use Rattle.kt_meaning.specs.Throughout.{HasConsistentDecisions}
use Rattle.kt_meaning.specs.Decided.{HasLinkedDecisions, AbortsWhereUnwilling}

-- a log is legal, each committed decision leaves a consistent cut, each decided instance has linked members, and it is
-- aborted exactly where a process was unwilling
pub record IsDecidedWell (log : List Event) : Type 0 where
  pub legal : IsLegal log
  pub consistent : HasConsistentDecisions log
  pub linked : HasLinkedDecisions log
  pub aborts : AbortsWhereUnwilling log
