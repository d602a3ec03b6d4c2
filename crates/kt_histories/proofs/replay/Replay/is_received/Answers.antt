use Rattle.kt_histories.proofs.LatestFacts.{received_test, never_received}
use Rattle.kt_histories.proofs.replay.Replay.is_received.Goals as goal

pub returns-in_default : goal.returns-in_default
returns-in_default c = λ s h at. never_received _ s c.args.msg c.args.message.now h.of_messages at c.in_default.is

pub returns : goal.returns
returns c = λ s h at. received_test _ s c.args.msg c.in-Some.place c.args.message.now _ _ h.of_messages (h.of_processes.each c.args.message.now.to _ c.process-process.ensures) at c.in-Some.is c.has_at.ensures
