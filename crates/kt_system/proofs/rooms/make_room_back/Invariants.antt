use Rattle.std.proofs.Common.{◌≡◌, ◌≤◌, ℕ, true, false, length}
use Rattle.kt_base.specs.Sets.{has, count_of}
use Rattle.kt_fifo.specs.Queues.{has_parcel}
use Rattle.kt_fifo.specs.Channels.{channel, spare_of}
use Rattle.kt_system.proofs.rooms.make_room_back.Given as goal

abbrev pub invariant-loop-from : goal.invariant-loop-from
invariant-loop-from l = record {
  processes : l.held.processes ≡ l.fn.held.processes;
  lists : channel l.held ≡ channel l.fn.held;
  rest : (q : ℕ) → has l.rest q ≡ true → has_parcel (channel l.kept q l.p) ≡ true;
  room : (q : ℕ) → has l.rest q ≡ false → length (channel l.kept q l.p) ≤ spare_of l.held q l.p;
}

abbrev pub decreases-loop-from : goal.decreases-loop-from
decreases-loop-from l = count_of l.rest
