use Rattle.std.proofs.Common.{◌≡◌, ◌≤◌, length, take}
use Rattle.kt_meaning.specs.Past.{past}
use Rattle.kt_histories.proofs.breach.before.begun_in.Given as goal

abbrev pub invariant-loop-place : goal.invariant-loop-place
invariant-loop-place l = record { begun : l.count ≡ length (past (take l.place l.rows)).begun; few : l.count ≤ l.place }
