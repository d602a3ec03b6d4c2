use Rattle.std.proofs.Common.{◌≡◌, arith, sym, ap, ◌∙◌, ◌<◌, length}
use Rattle.std.proofs.lemmas.Option.{slice_get_read}
use Rattle.kt_meaning.proofs.Items.{written}
use Rattle.kt_histories.proofs.Steps.{shows_received}
use Rattle.kt_histories.proofs.replay.Replay.receive.Goals as goal

pub returns-clause-shows : goal.returns-clause-shows
returns-clause-shows c = λ s h allowed.
    let low : c.args.p < 64 = omega (arith, c.get.ensures.value, c.get.ensures.in_range) in
    let at = slice_get_read c.args.self.now.processes.items 64 c.get.result c.index_mut-process.result.now (sym c.args.self.now.processes_there) c.get.ensures.in_range c.index_mut-process.ensures.value in
    let marks = c.mark_received.ensures in
    let was = c.deref_mut.ensures.value in
    let long : length c.mark_received.new.messages ≡ c.args.self.now.messages.len = c.mark_received.auto.messages ∙ (ap length was ∙ sym c.args.self.now.messages.ok.0) in
    let whole = written c.args.self.now.messages.len c.mark_received.new.messages c.args.self.now.messages.items long in
    rw (c.in_ok-count_row.ensures.processes, c.in_ok-count_row.ensures.messages, whole, c.in_ok-count_row.ensures.instances, c.in_ok-count_row.ensures.dead, c.in_ok-count_row.ensures.beginning, c.in_ok-receive.ensures, c.get.ensures.value)
    (shows_received _ _ _ _ _ _ s c.args.p c.args.from c.args.msg _ h allowed low (rw c.get.ensures.value at at) (rw (was, c.len-place.ensures) at marks.marked) (rw was at marks.others) (c.mark_received.auto.messages ∙ ap length was))
