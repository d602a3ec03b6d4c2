-- The same net where each process counts its messages on from a label of its own.
use Rattle.std.specs.Prelude.{ℕ, zero, suc, ◌+◌, option_map, map}
use Rattle.kt_base.specs.declared.words.Kind.{Kind}
use Rattle.kt_base.specs.declared.words.Kind.TheVariants.{Checkpoint, Rollback}
use Rattle.kt_tables.specs.Calls.{Call, sent, received, on_tentative, on_commit, on_abort, on_rollback}
use Rattle.kt_machine.specs.Seen.{SeenPart}
use Rattle.kt_manager.specs.declared.parcels.NodeParcel.{NodeParcel}
use Rattle.kt_manager.specs.declared.parcels.NodeParcel.TheVariants.{App, Ask, Reply, Decide}
use Rattle.kt_manager.specs.Nodes.{NodeState}
use Rattle.kt_node.specs.Nets.{Net}
use Rattle.kt_node.specs.Erasing.{rows_relabelled}

-- a label that counted on from 0, where labels count on from this one; 0 is none
abbrev pub raised : ℕ → ℕ → ℕ
raised first zero = zero
raised first (suc label) = suc label + first

-- a call on the tables of p
abbrev pub raised_call : (ℕ → ℕ) → ℕ → Call → Call
raised_call first p (sent q label) = sent q (raised (first p) label)
raised_call first p (received q label) = received q (raised (first q) label)
raised_call first p on_tentative = on_tentative
raised_call first p on_commit = on_commit
raised_call first p on_abort = on_abort
raised_call first p on_rollback = on_rollback

-- whose message an ask of q to p names: one of p to join a checkpoint, and one of q to join a rollback
abbrev pub sender_asked : Kind → ℕ → ℕ → ℕ
sender_asked Checkpoint q p = p
sender_asked Rollback q p = q

-- a parcel of q to p
abbrev pub raised_parcel : (ℕ → ℕ) → ℕ → ℕ → NodeParcel → NodeParcel
raised_parcel first q p (App label body) = App (raised (first q) label) body
raised_parcel first q p (Ask k kind label) = Ask k kind (raised (first (sender_asked kind q p)) label)
raised_parcel first q p (Reply k w) = Reply k w
raised_parcel first q p (Decide k c) = Decide k c

-- node p
abbrev pub raised_part : (ℕ → ℕ) → SeenPart → SeenPart
raised_part first part = record part { noted = λ q. option_map (raised (first q)) (part.noted q) }

abbrev pub raised_node : (ℕ → ℕ) → ℕ → NodeState → NodeState
raised_node first p y = record y {
  calls = map (raised_call first p) y.calls;
  used = y.used + first p;
  part = raised_part first y.part;
  held = λ q. map (raised_parcel first q p) (y.held q);
  kept = λ q. map (raised_parcel first q p) (y.kept q);
}

abbrev pub raised_net : (ℕ → ℕ) → Net → Net
raised_net first w = record {
  nodes = λ p. raised_node first p (w.nodes p);
  channel = λ p q. map (raised_parcel first p q) (w.channel p q);
  rows = rows_relabelled (λ q label. raised (first q) label) w.rows;
}
