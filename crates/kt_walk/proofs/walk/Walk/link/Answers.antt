use Rattle.std.proofs.Common.{sym, ap}
use Rattle.kt_walk.specs.WalkParts.{WalkParts}
use Rattle.kt_walk.proofs.LinkFacts.{found_here}
use Rattle.kt_walk.proofs.walk.Walk.link.Goals as goal

pub returns : goal.returns
returns c = λ rows h. found_here c.self.inside.pairs c.args.self.now rows c.args.from c.args.to c.args.sent c.args.received c.link.result (ap (λ (w : WalkParts). w.pair_states) (sym c.self.view_is)) h c.link.ensures
