-- What one process keeps of its messages.
use Rattle.std.specs.Prelude.{ℕ, Bool}
use Rattle.kt_tables.specs.Peers.{LabelTable}

-- how many processes there are, whether a tentative checkpoint is open, and a table for each kind of label
pub record State : Type 0 where
  pub processes : ℕ
  pub is_tentative : Bool
  -- the last received and the first sent since the last permanent or tentative checkpoint
  pub last_rcvd : LabelTable
  pub first_sent : LabelTable
  -- the same two as they were kept aside by the open tentative checkpoint
  pub kept_rcvd : LabelTable
  pub kept_sent : LabelTable
  -- the last sent before the permanent checkpoint, and the last sent
  pub last_sent : LabelTable
  pub last_out : LabelTable
