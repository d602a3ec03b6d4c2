use Rattle.kt_scenario.specs.Draft.{said_of}
use Rattle.kt_scenario.specs.Lines.{lines_of}
use Rattle.kt_scenario.specs.Said.{nothing_said}
use Rattle.kt_scenario.proofs.PlanFacts.{nothing, kept}
use Rattle.kt_scenario.proofs.scenario.parse.Goals as goal

pub invariant_of-result : goal.invariant_of-result
invariant_of-result c = (kept nothing_said (said_of c.in_ok-draft.draft) (lines_of c.args.text.now) nothing c.in_ok-draft.ensures.found).plan
