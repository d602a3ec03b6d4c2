use Rattle.kt_machine.proofs.SeenActs.{acts_seen}
use Rattle.kt_machine.proofs.due.acts_as_seen.Goals as goal

pub returns : goal.returns
returns c = acts_seen
