-- The rules of beginning and joining an instance, of replying and of noting an ask.
use Rattle.std.specs.Prelude.{ℕ, ◌+◌, Bool, true, false, if◌then◌else◌, Option, Some, [], ◌∷◌, ◌++◌, length}
use Rattle.kt_base.specs.declared.words.Kind.TheVariants.{Checkpoint, Rollback}
use Rattle.kt_tables.specs.Calls.{on_tentative}
use Rattle.kt_protocol.specs.Joining.{kind_for}
use Rattle.kt_machine.specs.CallTests.{is_asked_in_checkpoint, checkpoint_label, is_asked_in_rollback, rollback_label}
use Rattle.kt_machine.specs.SeenJoining.{new_part, no_note, part_after_ask}
use Rattle.kt_machine.specs.Values.{Keep}
use Rattle.kt_spacetime.specs.declared.names.InstName.{InstName}
use Rattle.kt_spacetime.specs.declared.named_rows.NamedCause.{NamedCause}
use Rattle.kt_spacetime.specs.declared.named_rows.NamedEvent.TheVariants.{Began, Took, Ready, Unwilling}
use Rattle.kt_manager.specs.declared.parcels.NodeParcel.TheVariants.{Ask, Reply}
use Rattle.kt_manager.specs.Nodes.{NodeState, Doing, nothing, putting, with_one}

-- it begins instance k
abbrev pub beginning : InstName → NodeState → Bool → Doing
beginning k y roll = record (nothing (record y { begun = y.begun + 1 })) { rows = Began k (kind_for roll) ∷ [] }

-- it joins checkpoint k: it takes a tentative checkpoint, marks what it keeps, and asks those of which it received since its
-- last one
abbrev pub joining_checkpoint : InstName → Option ℕ → Doing → Doing
joining_checkpoint k parent d = let y = d.state in record {
  state = record y { calls = y.calls ++ on_tentative ∷ []; inst = Some k; part = new_part y.processes false parent (is_asked_in_checkpoint y.calls) no_note (λ q. length (y.kept q)); answered = λ q. false };
  puts = putting (is_asked_in_checkpoint y.calls) (λ q. Ask k Checkpoint (checkpoint_label y.calls q)) d.puts;
  rows = d.rows ++ Took k ∷ [];
  acts = d.acts ++ Keep ∷ [];
}

-- it joins rollback k with these labels noted, and asks those to which it sent since its last checkpoint
abbrev pub joining_rollback : InstName → Option ℕ → (ℕ → Option ℕ) → Doing → Doing
joining_rollback k parent noted d = let y = d.state in record d {
  state = record y { inst = Some k; part = new_part y.processes true parent (is_asked_in_rollback y.calls) noted (λ q. 0); answered = λ q. false };
  puts = putting (is_asked_in_rollback y.calls) (λ q. Ask k Rollback (rollback_label y.calls q)) d.puts;
  rows = d.rows ++ Ready k ∷ [];
}

-- it replies to q's ask at once
abbrev pub replying : NodeState → ℕ → InstName → Bool → Doing
replying y q k willing = record (nothing y) { puts = with_one q (Reply k willing) (λ u. []) }

-- it is unwilling to join k, and tells q so
abbrev pub unwilling : NodeState → ℕ → InstName → NamedCause → Doing
unwilling y q k cause = record (replying y q k false) { rows = Unwilling k cause ∷ [] }

-- it notes the label of q's ask to join the rollback that it is in
abbrev pub noting : NodeState → Bool → ℕ → ℕ → NodeState
noting y roll q label = record y { part = if roll then part_after_ask y.part q label else y.part }
