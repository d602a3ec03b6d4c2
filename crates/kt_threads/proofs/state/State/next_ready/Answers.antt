use Rattle.std.proofs.Common.{subst}
use Rattle.kt_threads.specs.Histories.{WorldHistory}
use Rattle.kt_threads.specs.Turns.{IsReadyStep}
use Rattle.kt_threads.proofs.Replay.{ready_step}
use Rattle.kt_threads.proofs.state.State.next_ready.Goals as goal

pub returns-in_ok-ready_found-in-Some-clause-ready : goal.returns-in_ok-ready_found-in-Some-clause-ready
returns-in_ok-ready_found-in-Some-clause-ready c =
    let ready = c.in_ok-ready_found-in-Some.field-0 in
    let found = c.in_ok-ready_found-in-Some.ensures in
    subst (λ (h : WorldHistory). IsReadyStep h.world ready) c.self.view_is
    (ready_step c.self.inside.world ready c.in-Some.step found.step found.ready found.in_runs)
