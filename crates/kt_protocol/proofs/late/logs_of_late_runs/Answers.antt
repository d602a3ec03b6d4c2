use Rattle.std.proofs.Common.{ℕ, List, take, subst, sym}
use Rattle.kt_spacetime.specs.declared.event.Event.{Event}
use Rattle.kt_meaning.specs.Past.{past}
use Rattle.kt_meaning.specs.Legal.{IsLegal}
use Rattle.kt_meaning.specs.Cuts.{IsConsistent, permanent_cut, present_cut}
use Rattle.kt_meaning.specs.Throughout.{HasConsistentDecisions}
use Rattle.kt_protocol.proofs.JustifiedRows.{justified}
use Rattle.kt_protocol.proofs.LawfulSteps.{lawful_after_run}
use Rattle.kt_protocol.proofs.LogMeaning.{aborts, aborts_change_nothing, all_consistent, all_least, all_linked, permanent_consistent, present_consistent}
use Rattle.kt_protocol.proofs.Walk.{invariant_after_run}
use Rattle.kt_meaning.specs.Decided.{HasLinkedDecisions, HasLeastDecisions, AbortsWhereUnwilling, AbortsChangeNothing, JustifiesUnwilling}
use Rattle.kt_protocol.specs.States.{ProtocolStep, opening}
use Rattle.kt_protocol.specs.Steps.{run}
use Rattle.kt_protocol.specs.LateSteps.{late_run}
use Rattle.kt_protocol.proofs.LateWholeSteps.{same_log}
use Rattle.kt_protocol.proofs.late.logs_of_late_runs.Goals as goal

-- what holds of the protocol machine's log holds of the late one's
carry : (P : List Event → Type 0) (n : ℕ) (steps : List ProtocolStep) → P (run (opening n) steps).log → P (late_run (opening n) steps).log
carry P n steps x = subst P (sym (same_log n steps)) x

pub returns-clause-legal : goal.returns-clause-legal
returns-clause-legal c = λ n steps. carry IsLegal n steps (lawful_after_run n steps).legal

pub returns-clause-consistent_decisions : goal.returns-clause-consistent_decisions
returns-clause-consistent_decisions c = λ n steps. carry (λ log. HasConsistentDecisions log) n steps (all_consistent (run (opening n) steps).log (lawful_after_run n steps).legal (invariant_after_run n steps).consistent.rows_hold)

pub returns-clause-permanent_cuts : goal.returns-clause-permanent_cuts
returns-clause-permanent_cuts c = λ n steps t. carry (λ log. IsConsistent (past (take t log)) (permanent_cut (past (take t log)))) n steps (permanent_consistent (run (opening n) steps).log (lawful_after_run n steps).legal (invariant_after_run n steps).consistent.rows_hold t)

pub returns-clause-present_cuts : goal.returns-clause-present_cuts
returns-clause-present_cuts c = λ n steps t. carry (λ log. IsConsistent (past (take t log)) (present_cut (past (take t log)))) n steps (present_consistent (run (opening n) steps).log (lawful_after_run n steps).legal (invariant_after_run n steps).consistent.rows_hold t)

pub returns-clause-linked_decisions : goal.returns-clause-linked_decisions
returns-clause-linked_decisions c = λ n steps. carry (λ log. HasLinkedDecisions log) n steps (all_linked (run (opening n) steps).log (lawful_after_run n steps).legal (invariant_after_run n steps).consistent.rows_hold)

pub returns-clause-least_decisions : goal.returns-clause-least_decisions
returns-clause-least_decisions c = λ n steps. carry (λ log. HasLeastDecisions log) n steps (all_least (run (opening n) steps).log (lawful_after_run n steps).legal (invariant_after_run n steps).consistent.rows_hold)

pub returns-clause-aborts : goal.returns-clause-aborts
returns-clause-aborts c = λ n steps. carry (λ log. AbortsWhereUnwilling log) n steps (aborts (run (opening n) steps).log (invariant_after_run n steps).consistent.rows_hold)

pub returns-clause-justified : goal.returns-clause-justified
returns-clause-justified c = λ n steps. carry (λ log. JustifiesUnwilling log) n steps (justified n steps)

pub returns-clause-unchanged : goal.returns-clause-unchanged
returns-clause-unchanged c = λ n steps. carry (λ log. AbortsChangeNothing log) n steps (aborts_change_nothing (run (opening n) steps).log)
