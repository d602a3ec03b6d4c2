use Rattle.std.proofs.Common.{◌≡◌, ◌||◌, ℕ, true, false, [], subst}
use Rattle.kt_base.specs.Sets.{has}
use Rattle.kt_fifo.specs.Channels.{channel}
use Rattle.kt_fifo.specs.Queues.{has_parcel}
use Rattle.kt_system.specs.Systems.{Whole}
use Rattle.kt_system.proofs.Takes.{some_waits, none_waits, nothing_to_take}
use Rattle.kt_system.proofs.system.System.receivers.Goals as goal
use Rattle.kt_system.proofs.system.System.receivers.Goals.{After-joined}

pub returns-clause-some : goal.returns-clause-some
returns-clause-some c = λ at. subst (λ (w : Whole). has c.joined.result at ≡ true → (from : ℕ) × ((has_parcel (channel w.channels from at) || has_parcel (channel w.held from at)) ≡ true)) c.self.view_is
    (some_waits c.self.inside.channels c.self.inside.held at c.receivers.result c.receivers-2.result c.joined.result (c.joined.ensures at) (c.receivers.ensures.some at) (c.receivers-2.ensures.some at))

none : (c : After-joined) (at from : ℕ) → has c.joined.result at ≡ false → (channel c.args.self.now.channels from at ≡ []) × (channel c.args.self.now.held from at ≡ [])
none c at from gone = subst (λ (w : Whole). (channel w.channels from at ≡ []) × (channel w.held from at ≡ [])) c.self.view_is
    (none_waits c.self.inside.channels c.self.inside.held at c.receivers.result c.receivers-2.result c.joined.result (c.joined.ensures at) from (c.receivers.ensures.none from at) (c.receivers-2.ensures.none from at) gone)

pub returns-clause-none : goal.returns-clause-none
returns-clause-none c = none c

pub returns-clause-others : goal.returns-clause-others
returns-clause-others c = λ at from gone. let t = none c at from gone in nothing_to_take c.args.self.now at from t.0 t.1
