use Rattle.std.proofs.Common.{◌<◌, ◌∙◌, sym, subst, ap, List, ℕ}
use Rattle.std.specs.Prelude.{All}
use Rattle.kt_base.specs.Sets.{has}
use Rattle.kt_tables.specs.Peers.{IsCohort, has_one, label_of}
use Rattle.kt_tables.proofs.Cohorts.{cohort_passes}
use Rattle.kt_process.specs.Joins.{Joins}
use Rattle.kt_process.specs.Parts.{Part}
use Rattle.kt_process.specs.declared.actions.Action.{Action}
use Rattle.kt_machine.specs.CallTests.{is_asked_in_rollback, rollback_label}
use Rattle.kt_process.specs.RollbackActions.{AsksRollbackCohort}
use Rattle.kt_process.proofs.rollback.join.Goals as goal

pub returns-clause-joins : goal.returns-clause-joins
returns-clause-joins c =
    let n = c.args.tables.now.processes in
    subst (λ (x : Part). Joins n c.args.inst c.args.parent x c.join-part.result.1) (sym c.new-3.ensures.part)
    (c.join-part.ensures.joins n (subst (λ (l : List (ℕ × ℕ)). All (λ ask. ask.0 < n) l) (sym c.new-2.ensures) c.in_ok-pairs.ensures.within))

pub returns-clause-cohort : goal.returns-clause-cohort
unfolding is_asked_in_rollback rollback_label
returns-clause-cohort c = λ calls h.
    subst (λ (x : Action). AsksRollbackCohort calls x) (sym c.join-part.ensures.action)
    (subst (λ (l : List (ℕ × ℕ)). IsCohort l (is_asked_in_rollback calls) (rollback_label calls)) (sym c.new-2.ensures) (c.in_ok-pairs.ensures.cohort calls h))

pub returns-clause-asked : goal.returns-clause-asked
returns-clause-asked c q asked =
    let tables = c.args.tables.now in
    let cohort = subst (λ (l : List (ℕ × ℕ)). IsCohort l (has_one tables.first_sent) (label_of tables.last_sent)) (sym c.new-2.ensures) c.in_ok-pairs.ensures.labels in
    let same = ap (λ (x : Part). has x.asked q) c.new-3.ensures.part in
    cohort_passes _ _ _ cohort q (sym (c.join-part.ensures.part.asked q) ∙ (sym same ∙ asked))
