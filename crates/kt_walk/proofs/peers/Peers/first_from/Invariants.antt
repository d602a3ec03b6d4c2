use Rattle.std.proofs.Common.{◌≡◌, ℕ, ◌+◌, ◌*◌, ◌<◌, ◌≤◌, false}
use Rattle.kt_walk.specs.Peers.{is_in}
use Rattle.kt_walk.proofs.peers.Peers.first_from.Given as goal

abbrev pub invariant-loop-receiver : goal.invariant-loop-receiver
invariant-loop-receiver l = record {
  low : l.start < 64;
  from : l.place ≤ l.receiver * 64 + l.start;
  none : (k : ℕ) → l.place ≤ k → k < l.receiver * 64 + l.start → is_in l.self-inside.senders k ≡ false;
}
