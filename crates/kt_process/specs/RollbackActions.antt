-- What a process does with the command to begin an instance of rollback, and with an ask.
use Rattle.std.specs.Prelude.{◌≡◌, ℕ, Option, Some, None, List}
use Rattle.kt_base.specs.declared.words.Standing.{Standing}
use Rattle.kt_tables.specs.Calls.{Call}
use Rattle.kt_tables.specs.Peers.{IsCohort}
use Rattle.kt_process.specs.Answers.{replies, joins}
use Rattle.kt_process.specs.declared.actions.Action.{Action}
use Rattle.kt_process.specs.declared.actions.Action.TheVariants.{Refuse, Join, Reply}
use Rattle.kt_process.specs.RollingSides.{RollSide}
use Rattle.kt_machine.specs.CallTests.{is_asked_in_rollback, rollback_label}
use Rattle.kt_process.specs.RollbackRules.{must_join, rollback_refusal, rollback_answer}

-- it asks exactly its cohort
abbrev pub AsksRollbackCohort : List Call → Action → Type 0
AsksRollbackCohort calls (Join asks goes) = IsCohort asks (is_asked_in_rollback calls) (rollback_label calls)
AsksRollbackCohort calls action = ⊥

-- it joins where nothing forbids that
abbrev pub IsRollbackStart : Standing → Option RollSide → Action → Type 0
IsRollbackStart s None (Refuse cause) = rollback_refusal s.in_inst ≡ Some cause
IsRollbackStart s (Some side) (Join asks goes) = rollback_refusal s.in_inst ≡ None
IsRollbackStart s side action = ⊥

-- it replies to the asker, or joins, as the rule says
abbrev pub IsRollbackAnswer : List Call → Standing → ℕ → ℕ → ℕ → Option RollSide → Action → Type 0
IsRollbackAnswer calls s inst from label None (Reply to willing cause) = (to ≡ from) × (rollback_answer s.in_inst inst (must_join calls from label) ≡ replies willing cause)
IsRollbackAnswer calls s inst from label (Some side) (Join asks goes) = rollback_answer s.in_inst inst (must_join calls from label) ≡ joins
IsRollbackAnswer calls s inst from label side action = ⊥
