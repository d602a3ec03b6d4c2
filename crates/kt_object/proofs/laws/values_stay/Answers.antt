use Rattle.kt_object.proofs.ValuesStay.{opening-IsValue, after-IsValue, offered-fits}
use Rattle.kt_object.proofs.laws.values_stay.Goals as goal

pub returns-clause-opening : goal.returns-clause-opening
returns-clause-opening c = opening-IsValue

pub returns-clause-after : goal.returns-clause-after
returns-clause-after c = after-IsValue

pub returns-clause-offered : goal.returns-clause-offered
returns-clause-offered c = offered-fits
