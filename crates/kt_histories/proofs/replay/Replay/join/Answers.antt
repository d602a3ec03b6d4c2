use Rattle.std.proofs.Common.{◌≡◌, arith, sym, ap, ◌∙◌, ◌<◌, length}
use Rattle.std.proofs.lemmas.Option.{slice_get_read}
use Rattle.kt_meaning.proofs.Items.{written}
use Rattle.kt_histories.proofs.InstanceSteps.{shows_took, shows_ready, took_there, ready_there}
use Rattle.kt_histories.proofs.replay.Replay.join.Goals as goal

pub returns-clause-took : goal.returns-clause-took
returns-clause-took c = λ s h allowed.
    let low : c.args.p < 64 = omega (arith, c.get.ensures.value, c.get.ensures.in_range) in
    let at = slice_get_read c.args.self.now.processes.items 64 c.get.result c.index_mut-process.result.now (sym c.args.self.now.processes_there) c.get.ensures.in_range c.index_mut-process.ensures.value in
    let was = c.deref_mut.ensures.value in
    let long : length c.join.new.instances ≡ c.args.self.now.instances.len = c.join.auto.instances ∙ (ap length was ∙ sym c.args.self.now.instances.ok.0) in
    let whole = written c.args.self.now.instances.len c.join.new.instances c.args.self.now.instances.items long in
    let there = took_there _ _ _ _ _ s c.args.p c.args.inst h allowed in
    let joined = (rw (was, c.len-position.ensures) at c.join.ensures) there.0 there.1 in
    rw (c.in_ok-count_row.ensures.processes, c.in_ok-count_row.ensures.messages, c.in_ok-count_row.ensures.instances, whole, c.in_ok-count_row.ensures.dead, c.in_ok-count_row.ensures.beginning, c.get.ensures.value)
    (shows_took _ _ _ _ _ _ s c.args.p c.args.inst _ _ _ h allowed low (rw c.get.ensures.value at at) joined.1)

pub returns-clause-ready : goal.returns-clause-ready
returns-clause-ready c = λ s h allowed.
    let low : c.args.p < 64 = omega (arith, c.get.ensures.value, c.get.ensures.in_range) in
    let at = slice_get_read c.args.self.now.processes.items 64 c.get.result c.index_mut-process.result.now (sym c.args.self.now.processes_there) c.get.ensures.in_range c.index_mut-process.ensures.value in
    let was = c.deref_mut.ensures.value in
    let long : length c.join.new.instances ≡ c.args.self.now.instances.len = c.join.auto.instances ∙ (ap length was ∙ sym c.args.self.now.instances.ok.0) in
    let whole = written c.args.self.now.instances.len c.join.new.instances c.args.self.now.instances.items long in
    let there = ready_there _ _ _ _ _ s c.args.p c.args.inst h allowed in
    let joined = (rw (was, c.len-position.ensures) at c.join.ensures) there.0 there.1 in
    rw (c.in_ok-count_row.ensures.processes, c.in_ok-count_row.ensures.messages, c.in_ok-count_row.ensures.instances, whole, c.in_ok-count_row.ensures.dead, c.in_ok-count_row.ensures.beginning, c.get.ensures.value)
    (shows_ready _ _ _ _ _ _ s c.args.p c.args.inst _ _ _ h allowed low (rw c.get.ensures.value at at) joined.1)
