use Rattle.kt_walk.proofs.control.ControlState.rule_context.Goals as goal

pub returns : goal.returns
returns c = λ rows h.
    let g = h.of_processes.each c.args.p c.process_state-process_state.result.now c.process_state-process_state.ensures in
    record {
      of_instances = rw (c.as_slice.ensures.value) h.of_instances;
      of_beginning = h.of_beginning;
      open_in = g.open_in;
      up = g.up;
    }
