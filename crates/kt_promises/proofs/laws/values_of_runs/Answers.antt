use Rattle.kt_promises.proofs.NeededBodies.{offers_seen}
use Rattle.kt_promises.proofs.WholeLogs.{no_tentative, whole_seen}
use Rattle.kt_promises.proofs.OthersStep.{due_waits}
use Rattle.kt_promises.proofs.ActsOfSteps.{keeps_seen, spares_next, values_lead, values_can, object_seen, tentative_seen, abort_stays}
use Rattle.kt_promises.proofs.FailuresEnough.{spares_seen}
use Rattle.kt_promises.proofs.TakenValues.{taken_seen}
use Rattle.kt_promises.proofs.laws.values_of_runs.Goals as goal

pub returns-clause-lead : goal.returns-clause-lead
returns-clause-lead g c = λ r plan first w x give p i s e. values_lead r plan first w x give p i s e

pub returns-clause-can : goal.returns-clause-can
returns-clause-can g c = λ r plan first w x give p i s e. values_can r plan first w x give p i s e

pub returns-clause-objects : goal.returns-clause-objects
returns-clause-objects g c = λ r plan first w p i s. object_seen r plan first w p i s

pub returns-clause-tentatives : goal.returns-clause-tentatives
returns-clause-tentatives g c = λ r plan first w p i s. tentative_seen r plan first w p i s

pub returns-clause-aborts_objects : goal.returns-clause-aborts_objects
returns-clause-aborts_objects g c = λ r plan first w x give i p k u a b e closed new aborted. (abort_stays r plan first w x give i p k u a b e closed new aborted).0

pub returns-clause-aborts_saved : goal.returns-clause-aborts_saved
returns-clause-aborts_saved g c = λ r plan first w x give i p k u a b e closed new aborted. (abort_stays r plan first w x give i p k u a b e closed new aborted).1

pub returns-clause-spares : goal.returns-clause-spares
returns-clause-spares g c = λ r plan first w p i s. spares_seen r plan first w p i s

pub returns-clause-keeps : goal.returns-clause-keeps
returns-clause-keeps g c = keeps_seen

pub returns-clause-taken : goal.returns-clause-taken
returns-clause-taken g c = λ r plan first w x give p i s e. spares_next r plan first w x give p i s e

pub returns-clause-waits : goal.returns-clause-waits
returns-clause-waits g c = λ r plan first w v p moves i s o h. due_waits r plan first w v p moves i s o h

pub returns-clause-whole_can : goal.returns-clause-whole_can
returns-clause-whole_can g c = λ r plan first w p i s. (whole_seen r plan first w p i s).0

pub returns-clause-whole : goal.returns-clause-whole
returns-clause-whole g c = λ r plan first w p i s. (whole_seen r plan first w p i s).1

pub returns-clause-rested : goal.returns-clause-rested
returns-clause-rested g c = λ r plan first w p i s a. no_tentative r plan first w p i s a

pub returns-clause-offers : goal.returns-clause-offers
returns-clause-offers g c = λ r plan first moves w i e o. offers_seen r plan first i moves w e o

pub returns-clause-as_taken : goal.returns-clause-as_taken
returns-clause-as_taken g c = λ r plan first w n p k i s e o. taken_seen r plan first w n p k i s e o
