use Rattle.std.proofs.Common.{◌<◌, ℕ, subst, arith}
use Rattle.kt_process.specs.ProcessStates.{ProcessState, part_of_side, IsNumbered}
use Rattle.kt_system.specs.Systems.{Whole, state_of}
use Rattle.kt_system.proofs.Turns.{each_state}
use Rattle.kt_system.proofs.system.System.processes.Goals as goal

pub returns-clause-numbered : goal.returns-clause-numbered
returns-clause-numbered c = subst (λ (w : Whole). (p : ℕ) → p < w.size → IsNumbered (part_of_side (state_of w p).side)) c.self.view_is
    (λ p b. each_state (λ (x : ProcessState). IsNumbered (part_of_side x.side)) _ c.self.invariant.numbered p (let k = c.self.invariant.states in omega arith))
