use Rattle.std.proofs.Common.{◌≡◌, length}
use Rattle.std.specs.Prelude.{All}
use Rattle.kt_process.specs.Turns.{IsFresh}
use Rattle.kt_system.proofs.system.fresh_processes.Given as goal

abbrev pub invariant-loop-number : goal.invariant-loop-number
invariant-loop-number l = record {
  length : length l.list.items ≡ l._number;
  fresh : All (IsFresh l.processes l.used) l.list.items;
}
