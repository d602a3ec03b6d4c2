use Rattle.kt_machine.proofs.Cohorts.{take_is, roll_is, with_cohort, count_far}
use Rattle.kt_machine.proofs.laws.answers_of_tables.Goals as goal

pub returns-clause-take : goal.returns-clause-take
returns-clause-take c = take_is

pub returns-clause-roll : goal.returns-clause-roll
returns-clause-roll c = roll_is

pub returns-clause-cohort : goal.returns-clause-cohort
returns-clause-cohort c = with_cohort

pub returns-clause-count : goal.returns-clause-count
returns-clause-count c = count_far
