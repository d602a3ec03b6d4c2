use Rattle.std.proofs.Common.{sym, ap}
use Rattle.kt_walk.specs.WalkParts.{WalkParts}
use Rattle.kt_walk.proofs.WalkMessages.{none_among, some_among, least_among}
use Rattle.kt_walk.proofs.walk.Walk.orphan_among.Goals as goal

pub returns-clause-none : goal.returns-clause-none
returns-clause-none c = none_among c.orphan_among.result c.args.self.now c.self.inside.pairs c.args.members c.args.cut.now (ap (λ (w : WalkParts). w.pair_states) (sym c.self.view_is)) c.orphan_among.ensures.least

pub returns-clause-orphan : goal.returns-clause-orphan
returns-clause-orphan c = some_among c.orphan_among.result c.args.self.now c.self.inside.pairs c.args.members c.args.cut.now (ap (λ (w : WalkParts). w.pair_states) (sym c.self.view_is)) c.orphan_among.ensures.orphan

pub returns-clause-least : goal.returns-clause-least
returns-clause-least c = least_among c.orphan_among.result c.args.self.now c.self.inside.pairs c.args.members c.args.cut.now (ap (λ (w : WalkParts). w.pair_states) (sym c.self.view_is)) c.orphan_among.ensures.least
