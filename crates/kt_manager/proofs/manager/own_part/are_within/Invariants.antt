use Rattle.std.proofs.Common.{◌<◌, ◌≤◌, ℕ, length}
use Rattle.kt_manager.specs.Inboxes.{kept_of}
use Rattle.kt_process.specs.Shown.{mark_of}
use Rattle.kt_manager.proofs.manager.own_part.are_within.Given as goal

abbrev pub invariant-loop-number : goal.invariant-loop-number
invariant-loop-number l = (q : ℕ) → q < l.number → mark_of l.marks q ≤ length (kept_of l.inbox q)
