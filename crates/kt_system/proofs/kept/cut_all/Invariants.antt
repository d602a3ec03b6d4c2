use Rattle.std.proofs.Common.{◌≡◌, ◌≤◌, ℕ, true}
use Rattle.kt_base.specs.Sets.{has, count_of}
use Rattle.kt_fifo.specs.Queues.{has_parcel}
use Rattle.kt_fifo.specs.Channels.{channel, spare_of}
use Rattle.kt_process.specs.Turns.{noted_by}
use Rattle.kt_machine.specs.ListChanges.{low}
use Rattle.kt_system.proofs.Trimmed.{changed}
use Rattle.kt_system.proofs.kept.cut_all.Given as goal

abbrev pub invariant-loop-from : goal.invariant-loop-from
invariant-loop-from l = record {
  processes : l.channels.processes ≡ l.fn.channels.processes;
  lists : channel l.channels ≡ changed (has l.rest) l.p (λ q parcels. low (noted_by l.process.side q) parcels) (channel l.fn.channels);
  senders : (q : ℕ) → has l.rest q ≡ true → has_parcel (channel l.fn.channels q l.p) ≡ true;
  grows : (u v : ℕ) → spare_of l.fn.channels u v ≤ spare_of l.channels u v;
}

abbrev pub decreases-loop-from : goal.decreases-loop-from
decreases-loop-from l = count_of l.rest
