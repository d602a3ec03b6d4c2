-- Worked instances that are least, and that are not.
use Rattle.std.proofs.Common.{◌≡◌, ℕ, zero, suc, ◌≤◌, ◌<◌, Bool, true, false, Some, [], ◌∷◌, length, take, refl, arith, subst}
use Rattle.std.specs.Prelude.{nat_lt, ◌==◌}
use Rattle.std.proofs.lemmas.Bool.Decides.{nat_tests}
use Rattle.kt_meaning.specs.Past.{past}
use Rattle.kt_meaning.specs.Cuts.{IsConsistent, checkpoint_cut, rollback_cut}
use Rattle.kt_meaning.specs.Chains.{LinksCheckpoint, LinksRollback}
use Rattle.kt_meaning.specs.Least.{IsCheckpointChoice, IsLeastCheckpointSet, cut_without, IsLeastRollbackSet, LinksEarlier, EachLinks}
use Rattle.kt_meaning.specs.WorkedRows.{two_processes_checkpoint, rollback_after_a_failure, without_the_sender, with_a_needless_member, without_the_receiver, with_a_needless_rollback}
use Rattle.kt_meaning.proofs.Leastness.{least_checkpoint_by_links, least_rollback_by_links}

-- a process with a greater number is another
other : (p k : ℕ) → k < p → (p == k) ≡ false
other p k l = grind (arith, nat_tests)

greater : (p : ℕ) → 1 < p → nat_lt p 2 ≡ false
greater p l = grind (arith, nat_tests)

two_consistent : IsConsistent (past (take 5 two_processes_checkpoint)) (checkpoint_cut (past (take 5 two_processes_checkpoint)) 1)
two_consistent zero = refl
two_consistent (suc zero) = refl
two_consistent (suc (suc p)) = simp (other (suc (suc p)) 0 (omega arith), other (suc (suc p)) 1 (omega arith))

two_linked : EachLinks (LinksCheckpoint (past (take 5 two_processes_checkpoint)) 1) (Some 1) (1 ∷ 0 ∷ [])
two_linked zero p e n = absurd (n e)
two_linked (suc zero) p e n =
    let same : 0 ≡ p = cc in
    subst (λ (q : ℕ). LinksEarlier (LinksCheckpoint (past (take 5 two_processes_checkpoint)) 1) (1 ∷ 0 ∷ []) 1 q) same
    (record { earlier = 0; before = omega arith; other = 1; there = refl; msg = 1; links = record { sent = refl; member = refl; received = refl } })
two_linked (suc (suc i)) p e n = absurd (cc)

pub two_least : IsLeastCheckpointSet (past (take 5 two_processes_checkpoint)) 1
two_least = least_checkpoint_by_links (take 5 two_processes_checkpoint) 1 two_consistent two_linked

-- the first two processes
abbrev first_two : ℕ → Bool
first_two p = nat_lt p 2

needless_consistent : IsConsistent (past (take 6 with_a_needless_member)) (checkpoint_cut (past (take 6 with_a_needless_member)) 1)
needless_consistent zero = refl
needless_consistent (suc zero) = refl
needless_consistent (suc (suc zero)) = refl
needless_consistent (suc (suc (suc p))) = simp (other (suc (suc (suc p))) 0 (omega arith), other (suc (suc (suc p))) 1 (omega arith), other (suc (suc (suc p))) 2 (omega arith))

needless_choice : IsCheckpointChoice (past (take 6 with_a_needless_member)) 1 first_two (checkpoint_cut (past (take 6 with_a_needless_member)) 1)
needless_choice = record {
  initiator = λ p e. let same : 1 ≡ p = cc in subst (λ (q : ℕ). first_two q ≡ true) same refl;
  within = is_within;
  outside = is_outside;
  inside = λ p e. omega arith;
}
  where
    is_within : (p : ℕ) → checkpoint_cut (past (take 6 with_a_needless_member)) 1 p ≤ length ((past (take 6 with_a_needless_member)).live p)
    is_within zero = omega arith
    is_within (suc zero) = omega arith
    is_within (suc (suc zero)) = omega arith
    is_within (suc (suc (suc p))) = simp (other (suc (suc (suc p))) 0 (omega arith), other (suc (suc (suc p))) 1 (omega arith), other (suc (suc (suc p))) 2 (omega arith)) (omega arith)

    is_outside : (p : ℕ) → first_two p ≡ false → checkpoint_cut (past (take 6 with_a_needless_member)) 1 p ≡ (past (take 6 with_a_needless_member)).permanent p
    is_outside zero e = absurd (cc)
    is_outside (suc zero) e = absurd (cc)
    is_outside (suc (suc zero)) e = refl
    is_outside (suc (suc (suc p))) e = simp (other (suc (suc (suc p))) 0 (omega arith), other (suc (suc (suc p))) 1 (omega arith), other (suc (suc (suc p))) 2 (omega arith))

pub needless_not_least : IsLeastCheckpointSet (past (take 6 with_a_needless_member)) 1 → ⊥
needless_not_least h =
    let third : false ≡ true = h.least first_two (checkpoint_cut (past (take 6 with_a_needless_member)) 1) needless_choice needless_consistent 2 refl in
    absurd (cc)

pub alone_not_consistent : IsConsistent (past (take 4 without_the_sender)) (checkpoint_cut (past (take 4 without_the_sender)) 1) → ⊥
alone_not_consistent h = let orphan = h 1 in absurd (cc)

rollback_consistent : IsConsistent (past (take 6 rollback_after_a_failure)) (rollback_cut (past (take 6 rollback_after_a_failure)) 1)
rollback_consistent zero = refl
rollback_consistent (suc zero) = refl
rollback_consistent (suc (suc p)) = simp (other (suc (suc p)) 0 (omega arith), other (suc (suc p)) 1 (omega arith))

rollback_linked : EachLinks (LinksRollback (past (take 6 rollback_after_a_failure))) (Some 0) (0 ∷ 1 ∷ [])
rollback_linked zero p e n = absurd (n e)
rollback_linked (suc zero) p e n =
    let same : 1 ≡ p = cc in
    subst (λ (q : ℕ). LinksEarlier (LinksRollback (past (take 6 rollback_after_a_failure))) (0 ∷ 1 ∷ []) 1 q) same
    (record { earlier = 0; before = omega arith; other = 0; there = refl; msg = 1; links = record { sent = refl; received = refl } })
rollback_linked (suc (suc i)) p e n = absurd (cc)

pub rollback_least : IsLeastRollbackSet (past (take 6 rollback_after_a_failure)) 1
rollback_least = least_rollback_by_links (take 6 rollback_after_a_failure) 1 rollback_consistent rollback_linked

first_two_consistent : IsConsistent (past (take 8 with_a_needless_rollback)) (cut_without (past (take 8 with_a_needless_rollback)) first_two)
first_two_consistent zero = refl
first_two_consistent (suc zero) = refl
first_two_consistent (suc (suc zero)) = refl
first_two_consistent (suc (suc (suc p))) = simp (greater (suc (suc (suc p))) (omega arith), other (suc (suc (suc p))) 0 (omega arith), other (suc (suc (suc p))) 1 (omega arith), other (suc (suc (suc p))) 2 (omega arith))

pub needless_rollback_not_least : IsLeastRollbackSet (past (take 8 with_a_needless_rollback)) 1 → ⊥
needless_rollback_not_least h =
    let third : false ≡ true = h.least first_two (λ p e. let same : 0 ≡ p = cc in subst (λ (q : ℕ). first_two q ≡ true) same refl) first_two_consistent 2 refl in
    absurd (cc)

pub rollback_alone_not_consistent : IsConsistent (past (take 5 without_the_receiver)) (rollback_cut (past (take 5 without_the_receiver)) 1) → ⊥
rollback_alone_not_consistent h = let orphan = h 1 in absurd (cc)
