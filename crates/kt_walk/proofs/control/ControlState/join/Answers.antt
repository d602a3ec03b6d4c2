use Rattle.std.proofs.Common.{◌≡◌, ◌<◌, length, arith, sym, ap, ◌∙◌}
use Rattle.std.proofs.lemmas.Option.{slice_get_read}
use Rattle.kt_meaning.proofs.Items.{written}
use Rattle.kt_walk.proofs.WalkSteps.{took_row, ready_row}
use Rattle.kt_walk.proofs.control.ControlState.join.Goals as goal

pub returns-clause-took : goal.returns-clause-took
returns-clause-took c = λ rows h unbroken.
    let low : c.args.p < 64 = omega (arith, c.get.ensures.value, c.get.ensures.in_range) in
    let at = slice_get_read c.args.self.now.process_states.items 64 c.get.result c.index_mut-process_state.result.now (sym c.args.self.now.processes_there) c.get.ensures.in_range c.index_mut-process_state.ensures.value in
    let was = c.deref_mut.ensures.value in
    let long : length c.join.new.instances ≡ c.args.self.now.instances.len = c.join.auto.instances ∙ (ap length was ∙ sym c.args.self.now.instances.ok.0) in
    let whole = written c.args.self.now.instances.len c.join.new.instances c.args.self.now.instances.items long in
    rw (c.count_row.ensures, whole, c.get.ensures.value) (took_row _ rows c.args.p c.args.inst _ _ h unbroken low (rw c.get.ensures.value at at) (rw was at c.join.ensures))

pub returns-clause-ready : goal.returns-clause-ready
returns-clause-ready c = λ rows h unbroken.
    let low : c.args.p < 64 = omega (arith, c.get.ensures.value, c.get.ensures.in_range) in
    let at = slice_get_read c.args.self.now.process_states.items 64 c.get.result c.index_mut-process_state.result.now (sym c.args.self.now.processes_there) c.get.ensures.in_range c.index_mut-process_state.ensures.value in
    let was = c.deref_mut.ensures.value in
    let long : length c.join.new.instances ≡ c.args.self.now.instances.len = c.join.auto.instances ∙ (ap length was ∙ sym c.args.self.now.instances.ok.0) in
    let whole = written c.args.self.now.instances.len c.join.new.instances c.args.self.now.instances.items long in
    rw (c.count_row.ensures, whole, c.get.ensures.value) (ready_row _ rows c.args.p c.args.inst _ _ h unbroken low (rw c.get.ensures.value at at) (rw was at c.join.ensures))
