use Rattle.std.proofs.Common.{◌≡◌, ℕ, Some, take}
use Rattle.std.specs.List.{slice_get, Contains}
use Rattle.kt_spacetime.specs.declared.deeds.Deed.TheVariants as deed
use Rattle.kt_histories.specs.declared.process.Process.{Process}
use Rattle.kt_histories.specs.Standing.{message_at, receiving}
use Rattle.kt_histories.proofs.tables.add_undone_received.Given as goal

abbrev pub invariant-loop-msg : goal.invariant-loop-msg
invariant-loop-msg l = record {
  kept : (m : ℕ) → Contains l.initial.dead m → Contains l.dead m;
  buried : (p i m q : ℕ) (v : Process) → Contains (take l.msg-index l.msg-items) m → receiving (message_at l.messages m) ≡ Some (p, q, Some i) → slice_get l.processes p ≡ Some v → slice_get v.history i ≡ Some (deed.Received m q) → Contains l.dead m;
}
