use Rattle.std.proofs.Common.{◌≡◌, ◌≤◌, ℕ, true, false}
use Rattle.kt_base.specs.Sets.{has, count_of}
use Rattle.kt_fifo.specs.Channels.{channel, spare_of}
use Rattle.kt_system.proofs.rooms.make_room.Given as goal

abbrev pub invariant-loop-to : goal.invariant-loop-to
invariant-loop-to l = record {
  processes : l.channels.processes ≡ l.fn.channels.processes;
  lists : channel l.channels ≡ channel l.fn.channels;
  grows : (u v : ℕ) → spare_of l.fn.channels u v ≤ spare_of l.channels u v;
  rest : (q : ℕ) → has l.rest q ≡ true → has l.fn.targets q ≡ true;
  room : (q : ℕ) → has l.fn.targets q ≡ true → has l.rest q ≡ false → l.count ≤ spare_of l.channels l.p q;
}

abbrev pub decreases-loop-to : goal.decreases-loop-to
decreases-loop-to l = count_of l.rest
