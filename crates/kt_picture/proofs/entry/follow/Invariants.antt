use Rattle.std.proofs.Common.{◌≡◌, ◌≤◌, ◌<◌, ◌++◌, ◌∷◌, [], ℕ, Some, List, length, map}
use Rattle.std.specs.List.{slice_get}
use Rattle.kt_spacetime.specs.declared.event.Event.{Event}
use Rattle.kt_walk.specs.WalkOf.{WalkOf}
use Rattle.kt_picture.specs.declared.entry.Entry.{Entry}
use Rattle.kt_picture.specs.Followed.{AreFollowed, IsFollowed, plain_of}
use Rattle.kt_picture.proofs.entry.follow.Given as goal

abbrev pub invariant-loop-entry : goal.invariant-loop-entry
invariant-loop-entry l = record {
  all : length l.entries ≡ length l.initial.entries;
  plain : map plain_of l.entries ≡ map plain_of l.initial.entries;
  done : (rows : List Event) (k : ℕ) (e : Entry) → WalkOf l.walk (rows ++ l.row ∷ []) → AreFollowed rows l.initial.entries → k < l.entry-index → slice_get l.entries k ≡ Some e → IsFollowed (rows ++ l.row ∷ []) e;
  to_do : (k : ℕ) → l.entry-index ≤ k → slice_get l.entries k ≡ slice_get l.initial.entries k;
}
