-- What a list of calls on a process's tables says at an ask and at a decision.
use Rattle.std.specs.Prelude.{ℕ, ◌&&◌, nat_lt, nat_le, Bool, true, false, List}
use Rattle.kt_tables.specs.Calls.{Call, on_commit, on_abort, parts, sents, receiveds}
use Rattle.kt_tables.specs.Labels.{has_label, least, greatest}

-- an ask of q with this label makes the process take a checkpoint: it sent q a message since its last one, and the first
-- such message's label is not above it
unfoldable pub must_take : List Call → ℕ → ℕ → Bool
must_take calls q label = nat_lt 0 (least (sents q (parts calls).since)) && nat_le (least (sents q (parts calls).since)) label

-- an ask of q with this label makes it roll back: it received of q a later message since its last checkpoint
unfoldable pub must_roll : List Call → ℕ → ℕ → Bool
must_roll calls q label = nat_lt label (greatest (receiveds q (parts calls).since))

-- whom it asks when it takes its tentative checkpoint, those of which it received since its last one, and with which label
unfoldable pub is_asked_in_checkpoint : List Call → ℕ → Bool
is_asked_in_checkpoint calls q = has_label (receiveds q (parts calls).since)

unfoldable pub checkpoint_label : List Call → ℕ → ℕ
checkpoint_label calls q = greatest (receiveds q (parts calls).since)

-- whom it asks when it gets ready to roll back, those to which it sent since its last checkpoint, and with which label
unfoldable pub is_asked_in_rollback : List Call → ℕ → Bool
is_asked_in_rollback calls q = has_label (sents q (parts calls).since)

unfoldable pub rollback_label : List Call → ℕ → ℕ
rollback_label calls q = greatest (sents q (parts calls).before)

-- the call when it closes a checkpoint
abbrev pub call_of_decision : Bool → Call
call_of_decision true = on_commit
call_of_decision false = on_abort
