use Rattle.std.proofs.Common.{refl}
use Rattle.std.specs.List.{slice_index}
use Rattle.kt_histories.proofs.OrphanFacts.{orphans_none, orphans_some, orphans_least}
use Rattle.kt_histories.proofs.histories.Histories.first_orphan.Goals as goal

pub returns-clause-none : goal.returns-clause-none
returns-clause-none c = orphans_none c.args.self.now.replay c.first_orphan.result c.args.self.now (slice_index c.args.cut.now) refl c.first_orphan.ensures.least

pub returns-clause-orphan : goal.returns-clause-orphan
returns-clause-orphan c = orphans_some c.args.self.now.replay c.first_orphan.result c.args.self.now (slice_index c.args.cut.now) refl c.first_orphan.ensures.orphan

pub returns-clause-least : goal.returns-clause-least
returns-clause-least c = orphans_least c.args.self.now.replay c.first_orphan.result c.args.self.now (slice_index c.args.cut.now) refl c.first_orphan.ensures.least
