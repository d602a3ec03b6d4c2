use Rattle.worked_runs.proofs.CutFacts as cut
use Rattle.worked_runs.proofs.judging.permanent_orphan.Goals as goal

pub returns-clause-orphan : goal.returns-clause-orphan
returns-clause-orphan c = cut.permanent_orphan c.args.walk.now c.orphan.result c.permanent_cut.result c.permanent_cut.ensures c.orphan.ensures.orphan

pub returns-clause-none : goal.returns-clause-none
returns-clause-none c = cut.none_if_consistent c.args.walk.now c.orphan.result c.permanent_cut.result c.permanent_cut.ensures c.orphan.ensures.none c.orphan.ensures.orphan
