use Rattle.std.proofs.Common.{ℕ, IfSome, take}
use Rattle.std.specs.List.{slice_index, Contains}
use Rattle.kt_meaning.specs.Past.{Past}
use Rattle.kt_rules.specs.Orphans.{IsOrphanBetween, IsAtMost}
use Rattle.kt_histories.specs.Standing.{ShowsPast}
use Rattle.kt_histories.proofs.replay.Replay.first_dead.Given as goal

abbrev pub invariant-loop-msg : goal.invariant-loop-msg
invariant-loop-msg l = record {
  orphan : IfSome l.least (λ msg. (s : Past) → ShowsPast l.self s → (p : ℕ) × (q : ℕ) × IsOrphanBetween s (slice_index l.cut) p q msg);
  least : (s : Past) (p q msg : ℕ) → Contains (take l.msg-index l.msg-items) msg → ShowsPast l.self s → IsOrphanBetween s (slice_index l.cut) p q msg → IsAtMost l.least msg;
}
