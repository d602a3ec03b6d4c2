use Rattle.std.proofs.Common.{◌≡◌, ℕ, true, false, length}
use Rattle.kt_base.specs.Sets.{has, count_of}
use Rattle.kt_fifo.specs.Queues.{has_parcel}
use Rattle.kt_fifo.specs.Channels.{channel}
use Rattle.kt_process.specs.Shown.{mark_of}
use Rattle.kt_system.proofs.kept.marks_of.Given as goal

abbrev pub invariant-loop-from : goal.invariant-loop-from
invariant-loop-from l = record {
  size : length l.marks.items ≡ l.kept.processes;
  rest : (q : ℕ) → has l.rest q ≡ true → has_parcel (channel l.kept q l.p) ≡ true;
  marks : (q : ℕ) → has l.rest q ≡ false → mark_of l.marks.items q ≡ length (channel l.kept q l.p);
}

abbrev pub decreases-loop-from : goal.decreases-loop-from
decreases-loop-from l = count_of l.rest
