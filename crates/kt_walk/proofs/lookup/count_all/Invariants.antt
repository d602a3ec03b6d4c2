use Rattle.std.proofs.Common.{◌≡◌, ◌<◌, ◌^◌, length, take}
use Rattle.kt_walk.specs.TraceEntries.{entries_of_all}
use Rattle.kt_walk.proofs.lookup.count_all.Given as goal

abbrev pub invariant-loop-pair : goal.invariant-loop-pair
invariant-loop-pair l = record {
  count : length (entries_of_all (take l.pair-index l.pairs)) < 2 ^ 64 → l.count ≡ length (entries_of_all (take l.pair-index l.pairs));
}
