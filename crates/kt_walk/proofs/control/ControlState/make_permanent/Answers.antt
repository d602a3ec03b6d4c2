use Rattle.std.proofs.Common.{sym}
use Rattle.std.proofs.lemmas.Option.{slice_get_read}
use Rattle.kt_walk.proofs.ControlSteps.{permanent_to}
use Rattle.kt_walk.proofs.control.ControlState.make_permanent.Goals as goal

pub returns-clause-last_permanent : goal.returns-clause-last_permanent
returns-clause-last_permanent c = λ s h more low.
    let there = slice_get_read c.args.self.now.process_states.items 64 c.args.number c.index_mut.result.now (sym c.args.self.now.processes_there) c.requires c.index_mut.ensures.value in
    permanent_to _ s c.args.number c.args.position c.index_mut.result.now h c.requires there
