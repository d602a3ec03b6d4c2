use Rattle.kt_histories.proofs.LatestFacts.{live_test}
use Rattle.kt_histories.proofs.replay.Replay.is_live.Goals as goal

pub returns : goal.returns
returns c = λ s h at. live_test _ s c.args.msg c.args.message.now _ _ h.of_messages (h.of_processes.each c.args.message.now.from _ c.process-process.ensures) at c.has_at.ensures
