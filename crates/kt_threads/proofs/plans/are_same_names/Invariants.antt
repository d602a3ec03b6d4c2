use Rattle.std.proofs.Common.{◌≡◌, take, map, string_bytes}
use Rattle.kt_threads.proofs.plans.are_same_names.Given as goal

abbrev pub invariant-loop-i : goal.invariant-loop-i
invariant-loop-i l = map string_bytes (take l.i l.one) ≡ map string_bytes (take l.i l.other)
