use Rattle.std.proofs.Common.{subst}
use Rattle.kt_threads.specs.Histories.{WorldHistory}
use Rattle.kt_threads.specs.Turns.{IsReadyStep}
use Rattle.kt_threads.proofs.Replay.{ready_step}
use Rattle.kt_threads.proofs.state.State.make.Goals as goal

pub act-requires : goal.act-requires
act-requires c =
    let found = c.in_ok-ready.ensures in
    subst (λ (h : WorldHistory). IsReadyStep h.world c.in_ok-ready.ready) c.self.view_is
    (ready_step c.self.inside.world c.in_ok-ready.ready c.args.step found.step found.ready found.in_runs)
