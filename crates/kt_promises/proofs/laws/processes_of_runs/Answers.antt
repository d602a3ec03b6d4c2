use Rattle.std.proofs.Common.{length, ◌≡◌, ◌+◌}
use Rattle.kt_machine.specs.Messages.{sends_of}
use Rattle.kt_machine.proofs.LogFacts.{used_is}
use Rattle.kt_protocol.specs.LateSteps.{late_run}
use Rattle.kt_protocol.specs.States.{opening}
use Rattle.kt_promises.proofs.ReachedRuns.{seen_of}
use Rattle.kt_promises.proofs.StatesKeep.{processes_seen, speaks_seen, speaks_next_seen, no_part_seen, would_ask_in_checkpoint_seen, would_ask_in_rollback_seen, asked_seen, parent_seen}
use Rattle.kt_promises.proofs.laws.processes_of_runs.Goals as goal

pub returns-clause-processes : goal.returns-clause-processes
returns-clause-processes c = processes_seen

pub returns-clause-used : goal.returns-clause-used
returns-clause-used c = λ plan first w p i r. seen_of plan first w (λ v. (v.states p).used ≡ first + sends_of p v.log) i r (λ s. used_is first (late_run (opening (length plan.names)) s).log p)

pub returns-clause-speaks : goal.returns-clause-speaks
returns-clause-speaks c = λ plan first w p i r. speaks_seen plan first w i r p

pub returns-clause-speaks_next : goal.returns-clause-speaks_next
returns-clause-speaks_next c = λ plan first w x p i r. speaks_next_seen plan first w i r x p

pub returns-clause-no_part : goal.returns-clause-no_part
returns-clause-no_part c = λ plan first w p i r e. no_part_seen plan first w i r p e

pub returns-clause-would_ask_in_checkpoint : goal.returns-clause-would_ask_in_checkpoint
returns-clause-would_ask_in_checkpoint c = λ plan first w p q i r o e. would_ask_in_checkpoint_seen plan first w i r p q o e

pub returns-clause-would_ask_in_rollback : goal.returns-clause-would_ask_in_rollback
returns-clause-would_ask_in_rollback c = λ plan first w p q i r o e. would_ask_in_rollback_seen plan first w i r p q o e

pub returns-clause-asked : goal.returns-clause-asked
returns-clause-asked c = λ plan first w p q i r e. asked_seen plan first w i r p q e

pub returns-clause-parent : goal.returns-clause-parent
returns-clause-parent c = λ plan first w p to i r e. parent_seen plan first w i r p to e
