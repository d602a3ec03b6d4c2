use Rattle.std.proofs.Common.{◌≡◌, ℕ, ◌<◌, true, IfSome}
use Rattle.std.specs.List.{slice_index}
use Rattle.kt_spacetime.specs.declared.deeds.Deed.TheVariants as deed
use Rattle.kt_meaning.specs.Past.{Past}
use Rattle.kt_meaning.specs.Legal.{has_deed}
use Rattle.kt_rules.specs.Orphans.{IsOrphanBetween, IsAtMost}
use Rattle.kt_histories.specs.Standing.{ShowsPast}
use Rattle.kt_histories.proofs.replay.Replay.first_of_receiver.Given as goal

abbrev pub invariant-loop-number : goal.invariant-loop-number
invariant-loop-number l = record {
  orphan : IfSome l.least (λ msg. (s : Past) → ShowsPast l.self s → (q : ℕ) × IsOrphanBetween s (slice_index l.cut) l.p q msg);
  least : (s : Past) (q msg : ℕ) → q < l.number → ShowsPast l.self s → IsOrphanBetween s (slice_index l.cut) l.p q msg → has_deed (deed.Sent msg l.p) (s.live q) ≡ true → IsAtMost l.least msg;
}
