use Rattle.std.proofs.Common.{◌≡◌, ◌≤◌, ℕ, true, length}
use Rattle.kt_base.specs.Sets.{has, count_of}
use Rattle.kt_fifo.specs.Queues.{has_parcel}
use Rattle.kt_fifo.specs.Channels.{channel, spare_of}
use Rattle.kt_process.specs.Turns.{noted_by}
use Rattle.kt_system.specs.Kept.{lowered}
use Rattle.kt_system.proofs.Ranges.{in_front, nothing_left}
use Rattle.kt_system.proofs.Trimmed.{changed}
use Rattle.kt_system.proofs.kept.restore.Given as goal

abbrev pub invariant-loop-from : goal.invariant-loop-from
invariant-loop-from l = record {
  processes : l.held.processes ≡ l.fn.held.processes;
  kept_processes : l.kept.processes ≡ l.fn.kept.processes;
  held : channel l.held ≡ changed (has l.rest) l.p (in_front l.p (noted_by l.process.side) (channel l.fn.kept)) (lowered l.p (noted_by l.process.side) (channel l.fn.held));
  kept : channel l.kept ≡ changed (has l.rest) l.p nothing_left (channel l.fn.kept);
  senders : (q : ℕ) → has l.rest q ≡ true → has_parcel (channel l.fn.kept q l.p) ≡ true;
  room : (q : ℕ) → has l.rest q ≡ true → length (channel l.fn.kept q l.p) ≤ spare_of l.held q l.p;
}

abbrev pub decreases-loop-from : goal.decreases-loop-from
decreases-loop-from l = count_of l.rest
