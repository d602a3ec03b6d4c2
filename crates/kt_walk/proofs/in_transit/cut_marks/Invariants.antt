use Rattle.std.proofs.Common.{◌≡◌, ℕ, ◌<◌, ◌≤◌, false, length, get_or}
use Rattle.kt_walk.proofs.in_transit.cut_marks.Given as goal

abbrev pub invariant-loop-slot : goal.invariant-loop-slot
invariant-loop-slot l = record {
  len : length l.marks.marks ≡ length l.initial.marks.marks;
  kept : (k : ℕ) → k < l.from → get_or l.marks.marks k false ≡ get_or l.initial.marks.marks k false;
  cut : (k : ℕ) → l.from ≤ k → k < l.slot → get_or l.marks.marks k false ≡ false;
  past : (k : ℕ) → l.slot ≤ k → get_or l.marks.marks k false ≡ get_or l.initial.marks.marks k false;
}
