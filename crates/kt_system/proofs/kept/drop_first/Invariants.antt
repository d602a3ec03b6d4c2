use Rattle.std.proofs.Common.{◌≡◌, drop}
use Rattle.kt_fifo.specs.Channels.{channel, at_pair}
use Rattle.kt_system.proofs.kept.drop_first.Given as goal

abbrev pub invariant-loop-one : goal.invariant-loop-one
invariant-loop-one l = record {
  processes : l.channels.processes ≡ l.fn.channels.processes;
  lists : channel l.channels ≡ at_pair l.from l.to (drop l._one (channel l.fn.channels l.from l.to)) (channel l.fn.channels);
}
