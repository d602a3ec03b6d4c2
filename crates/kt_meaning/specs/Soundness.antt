-- What a yes of the checker means.
use Rattle.std.specs.Prelude.{◌≡◌, ℕ, Bool, true, not, Some, List, take, slice_get}
use Rattle.kt_spacetime.specs.declared.event.Event.{Event}
use Rattle.kt_spacetime.specs.declared.event.Event.TheVariants.{Decided}
use Rattle.kt_meaning.specs.Past.{past, is_checkpoint, is_rollback}
use Rattle.kt_meaning.specs.Legal.{IsLegal}
use Rattle.kt_meaning.specs.Cuts.{IsConsistent, permanent_cut, present_cut}
use Rattle.kt_meaning.specs.Least.{IsLeastCheckpointSet, IsLeastRollbackSet}
use Rattle.kt_spacetime.specs.declared.certificate.Certificate.{Certificate}
use Rattle.kt_meaning.specs.Unwilling.{has_unwilling}
use Rattle.kt_meaning.specs.Passing.{Passes, AreComplete}

-- a log and certificates are sound: the log is legal, each certificate passes, and each decided instance has one; each
-- committed instance took the least set; an instance is aborted exactly where a process was unwilling; and at every row
-- neither the permanent cut nor the present one has an orphan
pub record IsSound (log : List Event) (certificates : List Certificate) : Type 0 where
  pub legal : IsLegal log
  pub passes : (i : ℕ) (certificate : Certificate) → slice_get certificates i ≡ Some certificate → Passes log certificate
  pub complete : AreComplete log certificates
  pub checkpoints : (n p k : ℕ) → slice_get log n ≡ Some (Decided p k true) → is_checkpoint (past (take n log)) k ≡ true → IsLeastCheckpointSet (past (take n log)) k
  pub rollbacks : (n p k : ℕ) → slice_get log n ≡ Some (Decided p k true) → is_rollback (past (take n log)) k ≡ true → IsLeastRollbackSet (past (take n log)) k
  pub aborts : (n p k : ℕ) (commit : Bool) → slice_get log n ≡ Some (Decided p k commit) → has_unwilling log k ≡ not commit
  pub permanent : (n : ℕ) → IsConsistent (past (take n log)) (permanent_cut (past (take n log)))
  pub present : (n : ℕ) → IsConsistent (past (take n log)) (present_cut (past (take n log)))
