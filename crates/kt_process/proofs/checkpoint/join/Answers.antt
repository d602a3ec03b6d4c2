use Rattle.std.proofs.Common.{sym, subst, ◌∙◌, List, ℕ}
use Rattle.kt_tables.specs.Peers.{has_one, label_of, IsCohort}
use Rattle.kt_process.specs.declared.actions.Action.{Action}
use Rattle.kt_machine.specs.CallTests.{is_asked_in_checkpoint, checkpoint_label}
use Rattle.kt_process.specs.CheckpointActions.{AsksCheckpointCohort}
use Rattle.kt_tables.proofs.Cohorts.{cohort_passes}
use Rattle.kt_process.proofs.checkpoint.join.Goals as goal

pub returns-clause-cohort : goal.returns-clause-cohort
unfolding is_asked_in_checkpoint checkpoint_label
returns-clause-cohort c = λ calls h.
    subst (λ (x : Action). AsksCheckpointCohort calls x) (sym c.join.ensures.action)
    (subst (λ (l : List (ℕ × ℕ)). IsCohort l (is_asked_in_checkpoint calls) (checkpoint_label calls)) (sym c.new.ensures) (c.in_ok-pairs.ensures.cohort calls h))

pub returns-clause-asked : goal.returns-clause-asked
returns-clause-asked c q asked =
    let table = c.args.tables.now.last_rcvd in
    let cohort = subst (λ (l : List (ℕ × ℕ)). IsCohort l (has_one table) (label_of table)) (sym c.new.ensures) c.in_ok-pairs.ensures.labels in
    cohort_passes _ _ _ cohort q (sym (c.join.ensures.part.asked q) ∙ asked)
