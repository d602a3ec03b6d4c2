use Rattle.kt_machine.proofs.ActsAlong.{along}
use Rattle.kt_machine.proofs.RunActs.{step_of_run, whole_run, invariant_late, legal_next}
use Rattle.kt_machine.proofs.StateValues.{due_late}
use Rattle.kt_machine.proofs.StepRows.{has_object, has_tentative}
use Rattle.kt_machine.proofs.Spares.{run_can, step_can, spares_enough}
use Rattle.kt_machine.proofs.OffersSent.{has_offers}
use Rattle.kt_machine.proofs.AbortedSteps.{abort_keeps}
use Rattle.kt_protocol.specs.LateSteps.{late_run}
use Rattle.kt_protocol.specs.States.{opening}
use Rattle.kt_machine.proofs.due.values_of_runs.Goals as goal

pub returns-clause-rows : goal.returns-clause-rows
returns-clause-rows g c = λ r log more p l. along r log more p l

pub returns-clause-steps : goal.returns-clause-steps
returns-clause-steps g c = λ r n steps x p. step_of_run r n steps x p

pub returns-clause-runs : goal.returns-clause-runs
returns-clause-runs g c = λ r n steps p. whole_run r n steps p

pub returns-clause-states : goal.returns-clause-states
returns-clause-states g c = λ r n steps p. due_late n steps r p

pub returns-clause-aborts_objects : goal.returns-clause-aborts_objects
returns-clause-aborts_objects g c = λ r n steps x i p k u e b v. (abort_keeps (late_run (opening n) steps) x (invariant_late n steps) (legal_next n steps x) r i p k u e b v).0

pub returns-clause-aborts_saved : goal.returns-clause-aborts_saved
returns-clause-aborts_saved g c = λ r n steps x i p k u e b v. (abort_keeps (late_run (opening n) steps) x (invariant_late n steps) (legal_next n steps x) r i p k u e b v).1

pub returns-clause-objects : goal.returns-clause-objects
returns-clause-objects g c = λ r n steps p. has_object r n steps p

pub returns-clause-tentatives : goal.returns-clause-tentatives
returns-clause-tentatives g c = λ r n steps p. has_tentative r n steps p

pub returns-clause-can : goal.returns-clause-can
returns-clause-can g c = λ r n steps p. run_can r n steps p

pub returns-clause-can_step : goal.returns-clause-can_step
returns-clause-can_step g c = λ r n steps x p. step_can r n steps x p

pub returns-clause-spares : goal.returns-clause-spares
returns-clause-spares g c = λ r n steps p. spares_enough r n steps p

pub returns-clause-offers : goal.returns-clause-offers
returns-clause-offers g c = λ r marked n steps o. has_offers r marked n steps (invariant_late n) o
