use Rattle.std.proofs.Common.{◌≡◌, ℕ, ◌-◌, ◌<◌, ◌≤◌, Some}
use Rattle.std.specs.List.{slice_get}
use Rattle.kt_walk.specs.declared.in_transit.Sent.{Sent}
use Rattle.kt_walk.specs.TransitList.{IsBySend}
use Rattle.kt_walk.specs.Marks.{ones, pick}
use Rattle.kt_walk.proofs.in_transit.count_marked_before.Given as goal

abbrev pub invariant-loop-low : goal.invariant-loop-low
invariant-loop-low l = record {
  order : l.low ≤ l.high;
  within : l.high ≤ ones l.marks.marks;
  before : IsBySend (pick l.marks.marks l.slots.messages) → (k : ℕ) (a : Sent) → k < l.low → slice_get (pick l.marks.marks l.slots.messages) k ≡ Some a → a.place < l.place;
  not_before : IsBySend (pick l.marks.marks l.slots.messages) → (k : ℕ) (a : Sent) → l.high ≤ k → slice_get (pick l.marks.marks l.slots.messages) k ≡ Some a → l.place ≤ a.place;
}

abbrev pub decreases-loop-low : goal.decreases-loop-low
decreases-loop-low l = l.high - l.low
