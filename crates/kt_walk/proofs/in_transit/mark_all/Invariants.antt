use Rattle.std.proofs.Common.{◌≡◌, ℕ, ◌<◌, ◌≤◌, true, false, length, get_or}
use Rattle.kt_walk.proofs.in_transit.mark_all.Given as goal

abbrev pub invariant-loop-slot : goal.invariant-loop-slot
invariant-loop-slot l = record {
  len : length l.marks.marks ≡ length l.initial.marks.marks;
  set : (k : ℕ) → k < l.slot → get_or l.marks.marks k false ≡ true;
  past : (k : ℕ) → l.slot ≤ k → get_or l.marks.marks k false ≡ false;
}
