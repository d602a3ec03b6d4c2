use Rattle.kt_walk.proofs.WalkRows.{walk_start}
use Rattle.kt_walk.proofs.control.ControlState.new.Goals as goal

pub returns : goal.returns
returns c = rw (c.new-2.ensures.items) (walk_start _ _ c.in_ok-process_states.ensures c.in_ok-drops.ensures)
