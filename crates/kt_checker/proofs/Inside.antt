-- The cut of an undecided instance keeps the permanent parts, and differs from a consistent one where it is decided.
use Rattle.std.proofs.Common.{◌≡◌, ℕ, ◌≤◌, ◌<◌, Bool, true, false, Option, Some, None, List, length, if◌then◌else◌, unwrap_or, refl, arith}
use Rattle.std.specs.List.{slice_index}
use Rattle.kt_base.specs.declared.words.Kind.{Kind}
use Rattle.kt_base.specs.declared.words.Kind.TheVariants.{Checkpoint, Rollback}
use Rattle.kt_spacetime.specs.declared.event.Event.{Event}
use Rattle.kt_meaning.specs.Past.{past}
use Rattle.kt_meaning.specs.Legal.{IsLegal, is_undecided}
use Rattle.kt_meaning.specs.Cuts.{IsConsistent, permanent_cut, present_cut}
use Rattle.kt_meaning.specs.Throughout.{HasConsistentDecisions}
use Rattle.kt_meaning.proofs.Consistency.{consistent, sound_log}
use Rattle.kt_walk.specs.Arrivals.{KeepsPermanent}
use Rattle.kt_walk.proofs.WalkLinks.{new_between, permanent_inside}
use Rattle.kt_meaning.specs.Passing.{decided_cut, earlier_cut}

decided_inside : (rows : List Event) (k : ℕ) (kind : Kind) (p : ℕ) → IsLegal rows → is_undecided (past rows) k ≡ true → (past rows).permanent p ≤ decided_cut (past rows) k kind p
decided_inside rows k Checkpoint p l u = at_new ((past rows).new k p) refl
  where
    at_new : (o : Option ℕ) → (past rows).new k p ≡ o → (past rows).permanent p ≤ unwrap_or o ((past rows).permanent p)
    at_new None e = omega arith
    at_new (Some n) e = (new_between rows l k p n u e).0
decided_inside rows k Rollback p l u = at_ready ((past rows).ready k p)
  where
    at_ready : (b : Bool) → (past rows).permanent p ≤ (if b then (past rows).permanent p else length ((past rows).live p))
    at_ready true = omega arith
    at_ready false = permanent_inside rows l p

pub keeps_permanent : (rows : List Event) (k : ℕ) (kind : Kind) (cut : List ℕ) → IsLegal rows → is_undecided (past rows) k ≡ true → ((p : ℕ) → p < 64 → slice_index cut p ≡ decided_cut (past rows) k kind p) → KeepsPermanent (past rows) cut
keeps_permanent rows k kind cut l u same = record { each = λ q low. omega (arith, same q low, decided_inside rows k kind q l u) }

-- where each committed decision left a consistent cut, so is the cut that a decision begins with
pub earlier_consistent : (rows : List Event) (kind : Kind) → IsLegal rows → HasConsistentDecisions rows → IsConsistent (past rows) (earlier_cut (past rows) kind)
earlier_consistent rows Checkpoint l d = consistent (past rows) (permanent_cut (past rows)) (sound_log rows l d).permanent
earlier_consistent rows Rollback l d = consistent (past rows) (present_cut (past rows)) (sound_log rows l d).present
