use Rattle.std.proofs.Common.{◌≡◌, ℕ, ◌<◌, ◌≤◌, true}
use Rattle.kt_base.specs.Sets.{has}
use Rattle.kt_fifo.specs.Channels.{channel, spare_of, IsTarget}
use Rattle.kt_fifo.proofs.channels.Channels.reserve.Given as goal

abbrev pub invariant-loop-number : goal.invariant-loop-number
invariant-loop-number l = record {
  processes : l.self.processes ≡ l.initial.self.processes;
  lists : channel l.self ≡ channel l.initial.self;
  grows : (p q : ℕ) → spare_of l.initial.self p q ≤ spare_of l.self p q;
  others : (p q : ℕ) → ¬ IsTarget l.from l.targets p q → spare_of l.self p q ≡ spare_of l.initial.self p q;
  done : (to : ℕ) → to < l.number → has l.targets to ≡ true → 1 ≤ spare_of l.self l.from to;
}
