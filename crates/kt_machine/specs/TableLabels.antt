-- What a state knows of a process's messages, by labels, and what tables keep of a list of calls.
use Rattle.std.specs.Prelude.{◌≡◌, ℕ, true, List}
use Rattle.kt_tables.specs.Calls.{Call, parts, sents, receiveds}
use Rattle.kt_tables.specs.Labels.{least, greatest}
use Rattle.kt_protocol.specs.States.{State}
use Rattle.kt_protocol.specs.KeptInOrder.{is_in_checkpoint}

-- the labels of the messages that the state has of p and each other process are those of the parts of p's calls
pub record HasTableLabels (label : ℕ → ℕ) (calls : List Call) (s : State) (p : ℕ) : Type 0 where
  pub is_open : (parts calls).is_open ≡ is_in_checkpoint s.so_far p
  -- the first sent and the last received since the last checkpoint, tentative or permanent
  pub first_sent : (q : ℕ) → label (s.first_sent p q) ≡ least (sents q (parts calls).since)
  pub last_received : (q : ℕ) → label (s.last_received p q) ≡ greatest (receiveds q (parts calls).since)
  -- what these were before the tentative checkpoint
  pub first_sent_aside : is_in_checkpoint s.so_far p ≡ true → (q : ℕ) → label (s.first_sent_aside p q) ≡ least (sents q (parts calls).aside)
  pub last_received_aside : is_in_checkpoint s.so_far p ≡ true → (q : ℕ) → label (s.last_received_aside p q) ≡ greatest (receiveds q (parts calls).aside)
  -- the last sent, and the last sent before the permanent checkpoint
  pub latest_sent : (q : ℕ) → label (s.latest_sent p q) ≡ greatest (sents q calls)
  pub last_sent : (q : ℕ) → label (s.last_sent p q) ≡ greatest (sents q (parts calls).before)
