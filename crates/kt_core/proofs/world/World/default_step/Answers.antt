use Rattle.std.proofs.Common.{rules}
use Rattle.kt_core.proofs.Defaults.{default_is}
use Rattle.kt_core.proofs.world.World.default_step.Goals as goal

pub returns-in-Some-clause-in_runs : goal.returns-in-Some-clause-in_runs
returns-in-Some-clause-in_runs c = λ first v r.
    default_is c.laws_of_runs.ensures c.args.self.now first v r _ (search rules) (search rules) (search rules)

pub returns-in-Some-first_do-clause-in_runs : goal.returns-in-Some-first_do-clause-in_runs
returns-in-Some-first_do-clause-in_runs c = λ first v r.
    default_is c.laws_of_runs.ensures c.args.self.now first v r _ (search rules) (search rules) (search rules)

pub returns-in-None-first_do-clause-in_runs : goal.returns-in-None-first_do-clause-in_runs
returns-in-None-first_do-clause-in_runs c = λ first v r.
    default_is c.laws_of_runs.ensures c.args.self.now first v r _ (search rules) (search rules) (search rules)
