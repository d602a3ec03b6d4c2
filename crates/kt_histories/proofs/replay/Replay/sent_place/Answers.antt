use Rattle.kt_histories.proofs.Traced.{sent_placed}
use Rattle.kt_histories.proofs.replay.Replay.sent_place.Goals as goal

pub returns : goal.returns
returns c = λ s h at. sent_placed _ s c.args.msg c.args.message.now _ _ h.of_messages (h.of_processes.each c.args.message.now.from _ c.process-process.ensures) at c.place_if.ensures.there c.place_if.ensures.none
