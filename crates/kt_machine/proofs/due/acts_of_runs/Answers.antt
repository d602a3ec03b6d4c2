use Rattle.kt_machine.proofs.DoneAlong.{done_past}
use Rattle.kt_machine.proofs.RunActs.{invariant_late, legal_late, legal_next}
use Rattle.kt_machine.proofs.StateValues.{abort_row, permanent_is, live_is, own_late, positions_late}
use Rattle.kt_machine.proofs.ListedMessages.{body_is, carried_of, in_list}
use Rattle.kt_machine.proofs.RisingLines.{rises_of, kept_is}
use Rattle.kt_machine.proofs.StandsOnce.{stands_once}
use Rattle.kt_machine.proofs.FourRows.{four}
use Rattle.kt_machine.proofs.MarksOfRuns.{newer_are}
use Rattle.kt_machine.proofs.StepRows.{told, by_one}
use Rattle.kt_machine.proofs.ActCases.{two}
use Rattle.kt_machine.proofs.AbortedSteps.{abort_acts}
use Rattle.kt_protocol.specs.LateSteps.{late_run}
use Rattle.kt_protocol.specs.States.{opening}
use Rattle.kt_machine.proofs.due.acts_of_runs.Goals as goal

pub returns-clause-past : goal.returns-clause-past
returns-clause-past c = done_past

pub returns-clause-bodies : goal.returns-clause-bodies
returns-clause-bodies c = body_is

pub returns-clause-live : goal.returns-clause-live
returns-clause-live c = live_is

pub returns-clause-own : goal.returns-clause-own
returns-clause-own c = own_late

pub returns-clause-positions : goal.returns-clause-positions
returns-clause-positions c = positions_late

pub returns-clause-sent : goal.returns-clause-sent
returns-clause-sent c = λ n steps q p i m e. in_list (late_run (opening n) steps).log q p m i (late_run (opening n) steps).channel (carried_of n steps (invariant_late n)).channel e

pub returns-clause-held : goal.returns-clause-held
returns-clause-held c = λ n steps q p i m e. in_list (late_run (opening n) steps).log q p m i (late_run (opening n) steps).held (carried_of n steps (invariant_late n)).held e

pub returns-clause-kept : goal.returns-clause-kept
returns-clause-kept c = λ n steps q p i m e. in_list (late_run (opening n) steps).log q p m i (late_run (opening n) steps).kept (carried_of n steps (invariant_late n)).kept e

pub returns-clause-aborts : goal.returns-clause-aborts
returns-clause-aborts c = λ n steps x i p k e b v. abort_acts (late_run (opening n) steps) x (invariant_late n steps) (legal_next n steps x) i p k e b v

pub returns-clause-one_process : goal.returns-clause-one_process
returns-clause-one_process c = by_one

pub returns-clause-told : goal.returns-clause-told
returns-clause-told c = told

pub returns-clause-two : goal.returns-clause-two
returns-clause-two c = λ n steps x. two (late_run (opening n) steps) x

pub returns-clause-stands_once : goal.returns-clause-stands_once
returns-clause-stands_once c = stands_once

pub returns-clause-rising : goal.returns-clause-rising
returns-clause-rising c = λ n steps p q. rises_of n steps (invariant_late n) (legal_late n steps) p q

pub returns-clause-kept_lists : goal.returns-clause-kept_lists
returns-clause-kept_lists c = λ n steps. kept_is n steps (invariant_late n) (legal_late n steps)

pub returns-clause-permanents : goal.returns-clause-permanents
returns-clause-permanents c = permanent_is

pub returns-clause-aborted_live : goal.returns-clause-aborted_live
returns-clause-aborted_live c = λ log p k q. (abort_row log p k q).0

pub returns-clause-aborted_permanents : goal.returns-clause-aborted_permanents
returns-clause-aborted_permanents c = λ log p k q. (abort_row log p k q).1

pub returns-clause-four : goal.returns-clause-four
returns-clause-four c = λ n steps x. four (late_run (opening n) steps) x

pub returns-clause-marks : goal.returns-clause-marks
returns-clause-marks c = λ n steps p q e. newer_are n steps p e q
