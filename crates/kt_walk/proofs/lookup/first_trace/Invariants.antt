use Rattle.std.proofs.Common.{◌≡◌, ℕ, ◌<◌, Some}
use Rattle.std.specs.List.{slice_get}
use Rattle.kt_rules.specs.declared.traces.Trace.{Trace}
use Rattle.kt_walk.specs.TransitList.{IsBySend}
use Rattle.kt_walk.specs.Arrivals.{Has, AreRisingArrivals}
use Rattle.kt_walk.specs.TraceEntries.{entries_of}
use Rattle.kt_walk.specs.Pairs.{PairState}
use Rattle.kt_walk.proofs.lookup.first_trace.Given as goal

abbrev pub invariant-loop-pair : goal.invariant-loop-pair
invariant-loop-pair l = record {
  none : (i : ℕ) (v : PairState) (t : Trace) → i < l.pair-index → slice_get l.pairs i ≡ Some v → IsBySend v.in_transit → AreRisingArrivals v.received_from.arrivals → Has (entries_of v) (l.msg, t) → ⊥;
}
