use Rattle.std.proofs.Common.{rules, of_calls}
use Rattle.kt_walk.proofs.TransitFacts.{taken_at}
use Rattle.kt_walk.proofs.gap_buffer.GapBuffer.take.Goals as goal

pub returns-clause-ok : goal.returns-clause-ok
returns-clause-ok c = search (rules, of_calls, taken_at)
