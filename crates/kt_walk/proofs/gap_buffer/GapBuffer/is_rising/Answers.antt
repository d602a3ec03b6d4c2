use Rattle.std.proofs.Common.{arith, suc}
use Rattle.std.proofs.lemmas.Option.{slice_get_within}
use Rattle.kt_walk.proofs.PickFacts.{rising_steps}
use Rattle.kt_walk.proofs.gap_buffer.GapBuffer.is_rising.Goals as goal

pub returns : goal.returns
returns c = λ _. rising_steps c.args.self.now.messages (λ k a b e f. c.loop-index.invariant k a b (omega (arith, slice_get_within c.args.self.now.messages (suc k) b f, c.loop-index-test.false, c.len-index-end.ensures.length)) e f)
