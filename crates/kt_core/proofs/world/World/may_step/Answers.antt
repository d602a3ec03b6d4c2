use Rattle.std.proofs.Common.{subst}
use Rattle.kt_core.specs.Choices.{HasNoOthers}
use Rattle.kt_core.specs.Worlds.{World}
use Rattle.kt_core.proofs.Counted.{movers_are}
use Rattle.kt_core.proofs.world.World.may_step.Goals as goal

pub returns : goal.returns
returns c =
    let w : World = record { agenda = c.self.inside.agenda; system = c.self.inside.system; limit = c.self.inside.limit } in
    subst (λ (v : World). HasNoOthers v c.with_open.result) c.self.view_is
    (movers_are w c.receivers.result c.with_open.result c.self.invariant.size (λ p q. c.receivers.ensures.others p q) c.receivers.ensures.within c.with_open.ensures.members c.with_open.ensures.others)
