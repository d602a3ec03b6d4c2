use Rattle.std.proofs.Common.{sym}
use Rattle.kt_walk.proofs.TreeFacts.{marks_count}
use Rattle.kt_walk.proofs.counts.Counts.len.Goals as goal

pub returns : goal.returns
returns c = rw (← c.self.view_is) (sym (marks_count c.self.inside.nodes.items c.self.inside.width c.self.inside.base c.self.invariant.leaves))
