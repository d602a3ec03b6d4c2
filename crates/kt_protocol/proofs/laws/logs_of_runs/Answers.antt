use Rattle.kt_protocol.proofs.laws.logs_of_runs.Goals as goal
use Rattle.kt_protocol.proofs.JustifiedRows.{justified}
use Rattle.kt_protocol.proofs.LawfulSteps.{lawful_after_run}
use Rattle.kt_protocol.proofs.LogMeaning.{aborts, aborts_change_nothing, all_consistent, all_least, all_linked, permanent_consistent, present_consistent}
use Rattle.kt_protocol.proofs.Walk.{invariant_after_run}
use Rattle.kt_protocol.specs.States.{opening}
use Rattle.kt_protocol.specs.Steps.{run}

pub returns-clause-legal : goal.returns-clause-legal
returns-clause-legal c = λ n steps. (lawful_after_run n steps).legal

pub returns-clause-consistent_decisions : goal.returns-clause-consistent_decisions
returns-clause-consistent_decisions c = λ n steps. all_consistent (run (opening n) steps).log (lawful_after_run n steps).legal (invariant_after_run n steps).consistent.rows_hold

pub returns-clause-permanent_cuts : goal.returns-clause-permanent_cuts
returns-clause-permanent_cuts c = λ n steps. permanent_consistent (run (opening n) steps).log (lawful_after_run n steps).legal (invariant_after_run n steps).consistent.rows_hold

pub returns-clause-present_cuts : goal.returns-clause-present_cuts
returns-clause-present_cuts c = λ n steps. present_consistent (run (opening n) steps).log (lawful_after_run n steps).legal (invariant_after_run n steps).consistent.rows_hold

pub returns-clause-linked_decisions : goal.returns-clause-linked_decisions
returns-clause-linked_decisions c = λ n steps. all_linked (run (opening n) steps).log (lawful_after_run n steps).legal (invariant_after_run n steps).consistent.rows_hold

pub returns-clause-least_decisions : goal.returns-clause-least_decisions
returns-clause-least_decisions c = λ n steps. all_least (run (opening n) steps).log (lawful_after_run n steps).legal (invariant_after_run n steps).consistent.rows_hold

pub returns-clause-aborts : goal.returns-clause-aborts
returns-clause-aborts c = λ n steps. aborts (run (opening n) steps).log (invariant_after_run n steps).consistent.rows_hold

pub returns-clause-justified : goal.returns-clause-justified
returns-clause-justified c = λ n steps. justified n steps

pub returns-clause-unchanged : goal.returns-clause-unchanged
returns-clause-unchanged c = λ n steps. aborts_change_nothing (run (opening n) steps).log
