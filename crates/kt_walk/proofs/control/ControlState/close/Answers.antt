use Rattle.std.proofs.Common.{◌<◌, arith, sym}
use Rattle.std.proofs.lemmas.Option.{slice_get_read}
use Rattle.kt_walk.proofs.WalkSteps.{closed_row}
use Rattle.kt_walk.proofs.control.ControlState.close.Goals as goal

pub returns : goal.returns
returns c = λ rows h unbroken.
    let low : c.args.p < 64 = omega (arith, c.get.ensures.value, c.get.ensures.in_range) in
    let at = slice_get_read c.args.self.now.process_states.items 64 c.get.result c.index_mut-process_state.result.now (sym c.args.self.now.processes_there) c.get.ensures.in_range c.index_mut-process_state.ensures.value in
    rw (c.count_row.ensures, c.close-2.ensures, c.get.ensures.value) (closed_row _ rows c.args.p c.args.inst _ c.was_rolled_back-was_rolled_back.result _ h unbroken low (rw c.get.ensures.value at at) c.was_rolled_back-was_rolled_back.ensures c.close.ensures)
