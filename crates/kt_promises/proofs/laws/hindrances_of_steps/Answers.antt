use Rattle.kt_promises.proofs.HindrancesOfSteps.{none_exactly, no_command_left, later_phase, in_an_instance, nothing_to_take}
use Rattle.kt_promises.proofs.laws.hindrances_of_steps.Goals as goal

pub returns-clause-none : goal.returns-clause-none
returns-clause-none c = none_exactly

pub returns-clause-no_command : goal.returns-clause-no_command
returns-clause-no_command c = no_command_left

pub returns-clause-later : goal.returns-clause-later
returns-clause-later c = later_phase

pub returns-clause-waits : goal.returns-clause-waits
returns-clause-waits c = in_an_instance

pub returns-clause-no_parcel : goal.returns-clause-no_parcel
returns-clause-no_parcel c = nothing_to_take
