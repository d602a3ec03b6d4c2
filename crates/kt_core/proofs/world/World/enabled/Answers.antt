use Rattle.std.proofs.Common.{◌≡◌, ◌∙◌, rules}
use Rattle.kt_core.specs.Worlds.{can_make}
use Rattle.kt_core.proofs.Enabled.{enabled_is}
use Rattle.kt_core.proofs.world.World.enabled.Goals as goal

pub returns-then-is_there-clause-in_runs : goal.returns-then-is_there-clause-in_runs
returns-then-is_there-clause-in_runs c = λ first v r.
    let exact : c.can_do.result ≡ can_make c.args.self.now c.args.step.now = search rules in
    exact ∙ enabled_is c.laws_of_runs.ensures c.args.self.now first v r c.args.step.now

pub returns-then-is_there-3-clause-in_runs : goal.returns-then-is_there-3-clause-in_runs
returns-then-is_there-3-clause-in_runs c = λ first v r.
    let exact : c.can_take.result ≡ can_make c.args.self.now c.args.step.now = search rules in
    exact ∙ enabled_is c.laws_of_runs.ensures c.args.self.now first v r c.args.step.now
