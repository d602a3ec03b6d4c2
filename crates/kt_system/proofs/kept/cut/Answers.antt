use Rattle.kt_system.proofs.Ranges.{grown}
use Rattle.kt_system.proofs.kept.cut.Goals as goal

pub returns-in-Some-clause-grows : goal.returns-in-Some-clause-grows
returns-in-Some-clause-grows c = grown _ _ c.args.from c.args.to _ c.drop_above.ensures.spare
