use Rattle.kt_scenario.proofs.WrittenFacts.{read_back}
use Rattle.kt_scenario.proofs.laws.steps_are_read_back.Goals as goal

pub returns : goal.returns
returns c = read_back
