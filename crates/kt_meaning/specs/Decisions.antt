-- What a certificate says of a decision in a log.
use Rattle.std.specs.Prelude.{◌≡◌, ℕ, Bool, true, false, Some, List, [], map, take, slice_get}
use Rattle.kt_spacetime.specs.declared.event.Event.{Event}
use Rattle.kt_spacetime.specs.declared.event.Event.TheVariants.{Decided}
use Rattle.kt_meaning.specs.Past.{past, kind_of, initiator_of}
use Rattle.kt_meaning.specs.Chains.{members}
use Rattle.kt_spacetime.specs.declared.certificate.Certificate.{Certificate}

-- a certificate says what the row after the first n rows decides, and what these rows say of the instance
pub record IsOfDecision (log : List Event) (n : ℕ) (c : Certificate) : Type 0 where
  pub process : ℕ
  pub decided : slice_get log n ≡ Some (Decided process c.inst c.commit)
  pub kind : kind_of (past (take n log)) c.inst ≡ Some c.kind
  pub initiator : initiator_of (past (take n log)) c.inst ≡ Some c.initiator
  pub listed : c.commit ≡ true → map (λ m. m.0) c.members ≡ members (take n log) c.inst
  pub no_members : c.commit ≡ false → c.members ≡ []

-- whether a row commits an instance
abbrev pub is_commit : Event → Bool
is_commit (Decided p k commit) = commit
is_commit _ = false
