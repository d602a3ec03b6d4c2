use Rattle.kt_histories.proofs.Traced.{received_placed, received_nowhere}
use Rattle.kt_histories.proofs.replay.Replay.received_place.Goals as goal

pub returns-in_default : goal.returns-in_default
returns-in_default c = λ s h at. received_nowhere _ s c.args.msg c.args.message.now h.of_messages at c.in_default.is

pub returns : goal.returns
returns c = λ s h at. received_placed _ s c.args.msg c.in-Some.place c.args.message.now _ _ h.of_messages (h.of_processes.each c.args.message.now.to _ c.process-process.ensures) at c.in-Some.is c.place_if.ensures.there c.place_if.ensures.none
