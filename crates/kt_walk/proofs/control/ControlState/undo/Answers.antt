use Rattle.std.proofs.Common.{sym}
use Rattle.std.proofs.lemmas.Option.{slice_get_read}
use Rattle.kt_walk.proofs.ControlSteps.{undone_to}
use Rattle.kt_walk.proofs.control.ControlState.undo.Goals as goal

pub returns-clause-undone : goal.returns-clause-undone
returns-clause-undone c = λ s h within.
    let there = slice_get_read c.args.self.now.process_states.items 64 c.args.number c.index_mut.result.now (sym c.args.self.now.processes_there) c.requires c.index_mut.ensures.value in
    undone_to _ s c.args.number c.index_mut.result.now c.cut_back.new.self h c.requires there within c.cut_back.ensures
