use Rattle.std.proofs.Common.{◌<◌, ℕ, subst}
use Rattle.kt_machine.proofs.Bounds.{processes_are}
use Rattle.kt_machine.proofs.RunFacts.{near_save, near_roll, part_asks, part_answers, part_none}
use Rattle.kt_machine.proofs.laws.parts_of_runs.Goals as goal

pub returns-clause-processes : goal.returns-clause-processes
returns-clause-processes c = processes_are

pub returns-clause-would_ask_in_checkpoint : goal.returns-clause-would_ask_in_checkpoint
returns-clause-would_ask_in_checkpoint c = λ n first steps p q o e. subst (λ (x : ℕ). q < x) (processes_are n steps) (near_save n first steps p q o e)

pub returns-clause-would_ask_in_rollback : goal.returns-clause-would_ask_in_rollback
returns-clause-would_ask_in_rollback c = λ n first steps p q o e. subst (λ (x : ℕ). q < x) (processes_are n steps) (near_roll n first steps p q o e)

pub returns-clause-no_part : goal.returns-clause-no_part
returns-clause-no_part c = part_none

pub returns-clause-asked : goal.returns-clause-asked
returns-clause-asked c = λ n first steps p q e. subst (λ (x : ℕ). q < x) (processes_are n steps) (part_asks n first steps p q e)

pub returns-clause-parent : goal.returns-clause-parent
returns-clause-parent c = λ n first steps p to e. subst (λ (x : ℕ). to < x) (processes_are n steps) (part_answers n first steps p to e)
