use Rattle.std.proofs.Common.{◌≡◌, ℕ, ◌≤◌, ◌<◌, true, Some, length}
use Rattle.std.specs.List.{slice_get, Contains}
use Rattle.kt_base.specs.Sets.{has}
use Rattle.kt_spacetime.specs.declared.deeds.Deed.TheVariants as deed
use Rattle.kt_histories.specs.declared.process.Process.{Process}
use Rattle.kt_histories.specs.Tables.{rolled}
use Rattle.kt_histories.proofs.tables.roll_back.Given as goal

abbrev pub invariant-loop-number : goal.invariant-loop-number
invariant-loop-number l = record {
  all : length l.processes ≡ 64;
  low : l.number ≤ 64;
  done : (q : ℕ) (v : Process) → q < l.number → slice_get l.initial.processes q ≡ Some v → slice_get l.processes q ≡ Some (rolled l.instance q v);
  to_do : (q : ℕ) (v : Process) → l.number ≤ q → slice_get l.initial.processes q ≡ Some v → slice_get l.processes q ≡ Some v;
  undone : (q i m to : ℕ) (v : Process) → q < l.number → slice_get l.initial.processes q ≡ Some v → has l.instance.joined q ≡ true → slice_get v.history i ≡ Some (deed.Sent m to) → v.permanent ≤ i → Contains l.undone m;
}
