-- What a process does with the command to begin an instance of checkpoint, and with an ask.
use Rattle.std.specs.Prelude.{◌≡◌, ℕ, Option, Some, None, List}
use Rattle.kt_base.specs.declared.words.Standing.{Standing}
use Rattle.kt_tables.specs.Calls.{Call}
use Rattle.kt_tables.specs.Peers.{IsCohort}
use Rattle.kt_process.specs.Parts.{Part}
use Rattle.kt_process.specs.Answers.{replies, joins}
use Rattle.kt_process.specs.declared.actions.Action.{Action}
use Rattle.kt_process.specs.declared.actions.Action.TheVariants.{Refuse, Join, Reply}
use Rattle.kt_machine.specs.CallTests.{is_asked_in_checkpoint, checkpoint_label}
use Rattle.kt_process.specs.CheckpointRules.{must_join, checkpoint_refusal, checkpoint_answer}

-- it asks exactly its cohort
abbrev pub AsksCheckpointCohort : List Call → Action → Type 0
AsksCheckpointCohort calls (Join asks goes) = IsCohort asks (is_asked_in_checkpoint calls) (checkpoint_label calls)
AsksCheckpointCohort calls action = ⊥

-- it joins where nothing forbids that
abbrev pub IsCheckpointStart : Standing → Option Part → Action → Type 0
IsCheckpointStart s None (Refuse cause) = checkpoint_refusal s.in_inst s.up s.able ≡ Some cause
IsCheckpointStart s (Some side) (Join asks goes) = checkpoint_refusal s.in_inst s.up s.able ≡ None
IsCheckpointStart s side action = ⊥

-- it replies to the asker, or joins, as the rule says
abbrev pub IsCheckpointAnswer : List Call → Standing → ℕ → ℕ → ℕ → Option Part → Action → Type 0
IsCheckpointAnswer calls s inst from label None (Reply to willing cause) = (to ≡ from) × (checkpoint_answer s.in_inst s.up s.able inst (must_join calls from label) ≡ replies willing cause)
IsCheckpointAnswer calls s inst from label (Some side) (Join asks goes) = checkpoint_answer s.in_inst s.up s.able inst (must_join calls from label) ≡ joins
IsCheckpointAnswer calls s inst from label side action = ⊥
