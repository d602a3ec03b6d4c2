use Rattle.std.proofs.Common.{length, List, ◌+◌, false, refl, ap, ◌∙◌, take}
use Rattle.kt_spacetime.specs.declared.event.Event.{Event}
use Rattle.kt_spacetime.specs.declared.event.Event.TheVariants.{Decided}
use Rattle.kt_meaning.proofs.Items.{take_item}
use Rattle.kt_machine.proofs.StateValues.{abort_row}
use Rattle.kt_meaning.specs.Past.{past}
use Rattle.kt_meaning.specs.Legal.{IsLegal}
use Rattle.kt_meaning.specs.Cuts.{IsConsistent, permanent_cut, present_cut}
use Rattle.kt_meaning.specs.Throughout.{HasConsistentDecisions}
use Rattle.kt_protocol.specs.States.{opening}
use Rattle.kt_protocol.specs.Steps.{run}
use Rattle.kt_meaning.specs.Decided.{HasLinkedDecisions, HasLeastDecisions, AbortsWhereUnwilling, AbortsChangeNothing, JustifiesUnwilling}
use Rattle.kt_protocol.proofs.Walk.{invariant_after_run}
use Rattle.kt_protocol.proofs.LawfulSteps.{lawful_after_run}
use Rattle.kt_protocol.proofs.JustifiedRows.{justified}
use Rattle.kt_protocol.proofs.LogMeaning.{all_consistent, all_linked, all_least, permanent_consistent, present_consistent, aborts, aborts_change_nothing}
use Rattle.kt_promises.proofs.ReachedRuns.{log_of}
use Rattle.kt_promises.proofs.laws.logs_of_runs.Goals as goal

pub returns-clause-legal : goal.returns-clause-legal
returns-clause-legal c = λ plan first w i r. log_of plan first w IsLegal i r (λ s. (lawful_after_run (length plan.names) s).legal)

pub returns-clause-consistent_decisions : goal.returns-clause-consistent_decisions
returns-clause-consistent_decisions c = λ plan first w i r. log_of plan first w (λ log. HasConsistentDecisions log) i r (λ s. all_consistent (run (opening (length plan.names)) s).log (lawful_after_run (length plan.names) s).legal (invariant_after_run (length plan.names) s).consistent.rows_hold)

pub returns-clause-permanent_cuts : goal.returns-clause-permanent_cuts
returns-clause-permanent_cuts c = λ plan first w t i r. log_of plan first w (λ log. IsConsistent (past (take t log)) (permanent_cut (past (take t log)))) i r (λ s. permanent_consistent (run (opening (length plan.names)) s).log (lawful_after_run (length plan.names) s).legal (invariant_after_run (length plan.names) s).consistent.rows_hold t)

pub returns-clause-present_cuts : goal.returns-clause-present_cuts
returns-clause-present_cuts c = λ plan first w t i r. log_of plan first w (λ log. IsConsistent (past (take t log)) (present_cut (past (take t log)))) i r (λ s. present_consistent (run (opening (length plan.names)) s).log (lawful_after_run (length plan.names) s).legal (invariant_after_run (length plan.names) s).consistent.rows_hold t)

pub returns-clause-linked_decisions : goal.returns-clause-linked_decisions
returns-clause-linked_decisions c = λ plan first w i r. log_of plan first w (λ log. HasLinkedDecisions log) i r (λ s. all_linked (run (opening (length plan.names)) s).log (lawful_after_run (length plan.names) s).legal (invariant_after_run (length plan.names) s).consistent.rows_hold)

pub returns-clause-least_decisions : goal.returns-clause-least_decisions
returns-clause-least_decisions c = λ plan first w i r. log_of plan first w (λ log. HasLeastDecisions log) i r (λ s. all_least (run (opening (length plan.names)) s).log (lawful_after_run (length plan.names) s).legal (invariant_after_run (length plan.names) s).consistent.rows_hold)

pub returns-clause-aborts : goal.returns-clause-aborts
returns-clause-aborts c = λ plan first w i r. log_of plan first w (λ log. AbortsWhereUnwilling log) i r (λ s. aborts (run (opening (length plan.names)) s).log (invariant_after_run (length plan.names) s).consistent.rows_hold)

pub returns-clause-justified : goal.returns-clause-justified
returns-clause-justified c = λ plan first w i r. log_of plan first w (λ log. JustifiesUnwilling log) i r (λ s. justified (length plan.names) s)

pub returns-clause-aborted_live : goal.returns-clause-aborted_live
returns-clause-aborted_live c = λ plan first w n p k q i r e. ap (λ (l : List Event). (past l).live q) (take_item w.now.log n (n + 1) (Decided p k false) refl e) ∙ (abort_row (take n w.now.log) p k q).0

pub returns-clause-aborted_permanents : goal.returns-clause-aborted_permanents
returns-clause-aborted_permanents c = λ plan first w n p k q i r e. ap (λ (l : List Event). (past l).permanent q) (take_item w.now.log n (n + 1) (Decided p k false) refl e) ∙ (abort_row (take n w.now.log) p k q).1

pub returns-clause-promised : goal.returns-clause-promised
returns-clause-promised c = λ plan first w i r. record {
  legal = returns-clause-legal c plan first w i r;
  least_decisions = returns-clause-least_decisions c plan first w i r;
  linked_decisions = returns-clause-linked_decisions c plan first w i r;
  permanent_cuts = λ t. returns-clause-permanent_cuts c plan first w t i r;
  present_cuts = λ t. returns-clause-present_cuts c plan first w t i r;
  aborts = returns-clause-aborts c plan first w i r;
  justified = returns-clause-justified c plan first w i r;
  unchanged = log_of plan first w (λ log. AbortsChangeNothing log) i r (λ s. aborts_change_nothing (run (opening (length plan.names)) s).log);
}
