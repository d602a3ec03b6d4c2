use Rattle.kt_walk.proofs.WalkRows.{process_state_start, process_states_start}
use Rattle.kt_walk.proofs.control.initial_process_states.Goals as goal

pub returns : goal.returns
returns c =
    let fresh = c.new.ensures in
    rw (c.in_ok-resize.ensures.items, c.new-process_states.ensures.items, c.new-process_states.ensures.len) (process_states_start c.new.result (λ p. process_state_start c.new.result p fresh.0 fresh.1 fresh.2 fresh.3))
