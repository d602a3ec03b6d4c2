use Rattle.std.proofs.Common.{arith, sym, ◌<◌}
use Rattle.std.proofs.lemmas.Option.{slice_get_read}
use Rattle.kt_histories.proofs.InstanceSteps.{shows_failed}
use Rattle.kt_histories.proofs.replay.Replay.fail.Goals as goal

pub returns-clause-shows : goal.returns-clause-shows
returns-clause-shows c = λ s h allowed.
    let low : c.args.p < 64 = omega (arith, c.get.ensures.value, c.get.ensures.in_range) in
    let at = slice_get_read c.args.self.now.processes.items 64 c.get.result c.index_mut-process.result.now (sym c.args.self.now.processes_there) c.get.ensures.in_range c.index_mut-process.ensures.value in
    rw (c.in_ok-count_row.ensures.processes, c.in_ok-count_row.ensures.messages, c.in_ok-count_row.ensures.instances, c.in_ok-count_row.ensures.dead, c.in_ok-count_row.ensures.beginning, c.get.ensures.value) (shows_failed _ _ _ _ _ s c.args.p _ h low (rw c.get.ensures.value at at))
