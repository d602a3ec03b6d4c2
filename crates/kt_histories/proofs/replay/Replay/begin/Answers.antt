use Rattle.std.proofs.Common.{refl}
use Rattle.kt_histories.proofs.InstanceSteps.{shows_began}
use Rattle.kt_histories.proofs.replay.Replay.begin.Goals as goal

pub returns-clause-shows : goal.returns-clause-shows
returns-clause-shows c = λ s h allowed.
    rw (c.in_ok-count_row.ensures.processes, c.in_ok-count_row.ensures.messages, c.in_ok-count_row.ensures.instances, c.in_ok-count_row.ensures.dead, c.in_ok-push.ensures.items)
    (shows_began _ _ _ _ _ s c.args.p c.args.inst c.args.kind _ h refl refl refl c.empty.ensures refl)
