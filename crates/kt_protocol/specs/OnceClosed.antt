-- What a state becomes once each process in a committed instance does what the commit asks of it.
use Rattle.std.specs.Prelude.{ℕ, ◌==◌, ◌&&◌, not, if◌then◌else◌, Bool, List, [], ◌++◌}
use Rattle.kt_protocol.specs.Parcels.{Parcel, messages_where}
use Rattle.kt_protocol.specs.Summary.{Summary}
use Rattle.kt_protocol.specs.States.{State}
use Rattle.kt_protocol.specs.LateClosing.{is_newer, is_within_label}

-- p is in a committed instance, which it has not closed
abbrev pub has_to_close : Summary → ℕ → Bool
has_to_close h p = not (h.open_in p == 0) && (h.is_decided (h.open_in p) && h.is_committed (h.open_in p))

-- it is a checkpoint
abbrev pub has_to_save : Summary → ℕ → Bool
has_to_save h p = has_to_close h p && not (h.is_rollback (h.open_in p))

-- it is a rollback
abbrev pub has_to_restore : Summary → ℕ → Bool
has_to_restore h p = has_to_close h p && h.is_rollback (h.open_in p)

-- what is kept: a checkpoint forgets what is not newer, and a rollback everything
abbrev pub kept_once_closed : Bool → Bool → (ℕ → Bool) → List Parcel → List Parcel
kept_once_closed saves restores newer kept = if saves then messages_where newer kept else if restores then [] else kept

-- what is held: a rollback puts back what was kept, and then what was held, as far as it is within the label
abbrev pub held_once_closed : Bool → (ℕ → Bool) → List Parcel → List Parcel → List Parcel
held_once_closed restores within kept held = if restores then messages_where within kept ++ messages_where within held else held

-- each process that has to close an instance has done what its commit asks
abbrev pub once_closed : State → State
once_closed s = record s {
  first_sent = λ u v. if has_to_restore s.so_far u then 0 else s.first_sent u v;
  last_received = λ u v. if has_to_restore s.so_far u then 0 else s.last_received u v;
  last_sent = λ u v. if has_to_save s.so_far u then s.latest_sent u v else s.last_sent u v;
  kept = λ q u. kept_once_closed (has_to_save s.so_far u) (has_to_restore s.so_far u) (is_newer s u) (s.kept q u);
  held = λ q u. held_once_closed (has_to_restore s.so_far u) (is_within_label s (s.so_far.open_in u) u q) (s.kept q u) (s.held q u);
}
