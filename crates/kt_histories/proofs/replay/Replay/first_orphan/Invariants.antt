use Rattle.std.proofs.Common.{◌≡◌, ℕ, ◌<◌, true, IfSome}
use Rattle.std.specs.List.{slice_index, Contains}
use Rattle.kt_spacetime.specs.declared.deeds.Deed.TheVariants as deed
use Rattle.kt_meaning.specs.Past.{Past}
use Rattle.kt_meaning.specs.Legal.{has_deed}
use Rattle.kt_rules.specs.Orphans.{IsOrphanBetween, IsAtMost}
use Rattle.kt_histories.specs.Standing.{ShowsPast}
use Rattle.kt_histories.proofs.replay.Replay.first_orphan.Given as goal

abbrev pub invariant-loop-number : goal.invariant-loop-number
invariant-loop-number l = record {
  orphan : IfSome l.least (λ msg. (s : Past) → ShowsPast l.self s → (p : ℕ) × (q : ℕ) × IsOrphanBetween s (slice_index l.cut) p q msg);
  dead : (s : Past) (p q msg : ℕ) → ShowsPast l.self s → Contains l.self.dead msg → IsOrphanBetween s (slice_index l.cut) p q msg → IsAtMost l.least msg;
  live : (s : Past) (p q msg : ℕ) → p < l.number → ShowsPast l.self s → IsOrphanBetween s (slice_index l.cut) p q msg → has_deed (deed.Sent msg p) (s.live q) ≡ true → IsAtMost l.least msg;
}
