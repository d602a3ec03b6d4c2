use Rattle.std.proofs.Common.{◌<◌, arith, sym}
use Rattle.std.proofs.lemmas.Option.{slice_get_read}
use Rattle.kt_walk.proofs.WalkSteps.{sent_row, received_row, short_process_state}
use Rattle.kt_walk.proofs.control.ControlState.extend.Goals as goal

pub returns-clause-sent : goal.returns-clause-sent
returns-clause-sent c = λ rows to body h unbroken.
    let low : c.args.p < 64 = omega (arith, c.get.ensures.value, c.get.ensures.in_range) in
    let read = slice_get_read c.args.self.now.process_states.items 64 c.get.result c.index_mut.result.now (sym c.args.self.now.processes_there) c.get.ensures.in_range c.index_mut.ensures.value in
    let at = rw c.get.ensures.value at read in
    let longer = c.extend.ensures (omega (arith, short_process_state _ rows c.args.p c.index_mut.result.now h at, c.requires.few)) in
    rw (c.count_row.ensures, longer, c.get.ensures.value) (sent_row _ rows c.args.p to body c.index_mut.result.now h unbroken low at)

pub returns-clause-received : goal.returns-clause-received
returns-clause-received c = λ rows from msg h unbroken.
    let low : c.args.p < 64 = omega (arith, c.get.ensures.value, c.get.ensures.in_range) in
    let read = slice_get_read c.args.self.now.process_states.items 64 c.get.result c.index_mut.result.now (sym c.args.self.now.processes_there) c.get.ensures.in_range c.index_mut.ensures.value in
    let at = rw c.get.ensures.value at read in
    let longer = c.extend.ensures (omega (arith, short_process_state _ rows c.args.p c.index_mut.result.now h at, c.requires.few)) in
    rw (c.count_row.ensures, longer, c.get.ensures.value) (received_row _ rows c.args.p from msg c.index_mut.result.now h unbroken low at)
