use Rattle.std.proofs.Common.{◌≡◌, ◌≤◌, ◌<◌, ℕ, List, length, get_or}
use Rattle.kt_spacetime.specs.declared.event.Event.{Event}
use Rattle.kt_meaning.specs.Past.{past}
use Rattle.kt_walk.specs.WalkOf.{WalkOf}
use Rattle.kt_picture.specs.KnownAtRow.{place_after}
use Rattle.kt_picture.proofs.window.Known.promoted.Given as goal

abbrev pub invariant-loop-number : goal.invariant-loop-number
invariant-loop-number l = record {
  all : length l.after ≡ 64;
  low : l.number ≤ 64;
  done : (rows : List Event) (q : ℕ) → WalkOf l.walk rows → q < l.number → get_or l.after q 0 ≡ place_after (past rows) l.inst l.self.taken l.self.places q;
  to_do : (q : ℕ) → l.number ≤ q → get_or l.after q 0 ≡ get_or l.self.places q 0;
}
