use Rattle.std.proofs.Common.{rules, of_calls}
use Rattle.kt_walk.proofs.TransitFacts.{take_joined}
use Rattle.kt_walk.proofs.gap_buffer.GapBuffer.truncate.Goals as goal

pub returns : goal.returns
returns c = search (rules, of_calls, take_joined)
