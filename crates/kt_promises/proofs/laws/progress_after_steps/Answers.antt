use Rattle.kt_promises.proofs.PhasesOpen.{opening_is, takes_is, does_is}
use Rattle.kt_promises.proofs.laws.progress_after_steps.Goals as goal

pub returns-clause-start : goal.returns-clause-start
returns-clause-start c = opening_is

pub returns-clause-takes : goal.returns-clause-takes
returns-clause-takes c = takes_is

pub returns-clause-does : goal.returns-clause-does
returns-clause-does c = does_is
