use Rattle.kt_object.proofs.SavedOnce.{kind_once, value_once}
use Rattle.kt_object.proofs.laws.saved_once.Goals as goal

pub returns-clause-kind : goal.returns-clause-kind
returns-clause-kind c = kind_once

pub returns-clause-value : goal.returns-clause-value
returns-clause-value c = value_once
