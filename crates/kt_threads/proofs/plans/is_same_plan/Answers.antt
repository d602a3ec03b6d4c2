use Rattle.std.proofs.Common.{rules}
use Rattle.kt_threads.proofs.Reading.{same_plan}
use Rattle.kt_threads.proofs.plans.is_same_plan.Goals as goal

pub returns : goal.returns
returns c = record {
  same = (λ e. same_plan c.args.one.now c.args.other.now (search rules) (search rules) (search rules), λ e. search rules);
}
