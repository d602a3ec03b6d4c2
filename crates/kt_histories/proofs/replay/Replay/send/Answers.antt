use Rattle.std.proofs.Common.{◌≡◌, ◌+◌, length, rules, arith, sym, ◌<◌}
use Rattle.std.proofs.lemmas.Option.{slice_get_read}
use Rattle.kt_histories.proofs.Steps.{shows_sent}
use Rattle.kt_histories.proofs.replay.Replay.send.Goals as goal

pub returns-clause-shows : goal.returns-clause-shows
returns-clause-shows c = λ s body h allowed.
    let low : c.args.p < 64 = omega (arith, c.get.ensures.value, c.get.ensures.in_range) in
    let at = slice_get_read c.args.self.now.processes.items 64 c.get.result c.index_mut-process.result.now (sym c.args.self.now.processes_there) c.get.ensures.in_range c.index_mut-process.ensures.value in
    let number : c.after-msg.result ≡ length c.args.self.now.messages.items + 1 = search rules in
    rw (c.in_ok-push.ensures.items, c.in_ok-send.ensures, c.len-sent.ensures, c.get.ensures.value) (shows_sent _ _ _ _ _ s c.args.p c.args.to body _ _ h low (rw c.get.ensures.value at at) number)
