-- Orphans of a cut that an instance's decision makes.
use Rattle.std.proofs.Common.{◌≡◌, ℕ, zero, suc, ◌<◌, ◌≤◌, true, false, Bool, Some, List, [], length, take, refl, subst, sym, ap, ◌∙◌, inl, inr}
use Rattle.std.specs.List.{slice_get}
use Rattle.std.specs.Prelude.{if◌then◌else◌, Contains}
use Rattle.std.proofs.lemmas.Bool.{cases_lt}
use Rattle.kt_base.specs.declared.words.Kind.TheVariants.{Rollback}
use Rattle.kt_spacetime.specs.declared.event.Event.{Event}
use Rattle.kt_spacetime.specs.declared.deeds.Deed.{Deed}
use Rattle.kt_spacetime.specs.declared.deeds.Deed.TheVariants as deed
use Rattle.kt_meaning.specs.Past.{Past, past, kind_of, is_rollback, is_rollback_kind, is_member}
use Rattle.kt_meaning.specs.Legal.{IsLegal, has_deed}
use Rattle.kt_meaning.specs.Cuts.{part, IsOrphan, rollback_cut}
use Rattle.kt_meaning.specs.Least.{cut_without}
use Rattle.kt_meaning.specs.Chains.{members}
use Rattle.kt_meaning.proofs.Leastness.{members_cut}
use Rattle.kt_meaning.proofs.Members.{contains_member, member_contained}
use Rattle.kt_rules.proofs.OrphanFacts.{between_of, orphan_of}
use Rattle.kt_base.specs.declared.words.Kind.{Kind}
use Rattle.kt_meaning.specs.Passing.{decided_cut}
use Rattle.kt_explain.specs.declared.orphans.Orphan.{Orphan}
use Rattle.kt_explain.specs.Told.{HasParts, IsLeastOrphan, IsOrphanTold}

take_none : (n : ℕ) → take n (let l : List Deed = [] in l) ≡ []
take_none zero = refl
take_none (suc n) = refl

module _ (s : Past) (a b : ℕ → ℕ) (same : (p : ℕ) → p < 64 → a p ≡ b p) (none : (p : ℕ) → 64 ≤ p → s.live p ≡ []) where
  parts : (p : ℕ) → part s a p ≡ part s b p
  parts p = elim (cases_lt p 64) [
    | inl low ↦ ap (λ (n : ℕ). take n (s.live p)) (same p low)
    | inr high ↦ ap (take (a p)) (none p high) ∙ (take_none (a p) ∙ (sym (take_none (b p)) ∙ ap (take (b p)) (sym (none p high))))
  ]

  there : (m : ℕ) → IsOrphan s a m → IsOrphan s b m
  there m orphan =
      let h = between_of s a m orphan in
      let o = h.2 in
      orphan_of s b h.0 h.1 m (record {
        place = o.place;
        received = ap (λ (l : List Deed). slice_get l o.place) (sym (parts h.0)) ∙ o.received;
        unsent = ap (has_deed (deed.Sent m h.0)) (sym (parts h.1)) ∙ o.unsent;
      })

-- cuts that agree on the processes have the same least orphan
pub least_same : (s : Past) (a b : ℕ → ℕ) → ((p : ℕ) → p < 64 → a p ≡ b p) → ((p : ℕ) → 64 ≤ p → s.live p ≡ []) → (m : ℕ) → IsOrphan s a m → ((other : ℕ) → IsOrphan s a other → m ≤ other) → IsLeastOrphan s b m
least_same s a b same none m orphan least = record {
  orphan = there s a b same none m orphan;
  least = λ other h. least other (there s b a (λ p low. sym (same p low)) none other h);
}

-- cuts that agree on the processes have the same orphans
pub same_orphan : (s : Past) (a b : ℕ → ℕ) → ((p : ℕ) → p < 64 → a p ≡ b p) → ((p : ℕ) → 64 ≤ p → s.live p ≡ []) → (m : ℕ) → IsOrphan s b m → IsOrphan s a m
same_orphan s a b same none m h = there s b a (λ p low. sym (same p low)) none m h

rolls : (log : List Event) (k : ℕ) → kind_of (past log) k ≡ Some Rollback → is_rollback (past log) k ≡ true
rolls log k e = ap is_rollback_kind e

cut_at : (s : Past) (k p : ℕ) (b : Bool) → is_member s k p ≡ b → cut_without s (is_member s k) p ≡ (if b then s.permanent p else length (s.live p))
cut_at s k p b e = ap (λ (x : Bool). if x then s.permanent p else length (s.live p)) e

-- who joined a rollback is cut back to its permanent position
pub inside_cut : (log : List Event) (k p : ℕ) → IsLegal log → kind_of (past log) k ≡ Some Rollback → Contains (members log k) p → (past log).permanent p ≡ rollback_cut (past log) k p
inside_cut log k p l kind joined = sym (cut_at (past log) k p true (member_contained log k p joined)) ∙ members_cut log k p l (rolls log k kind)

-- who did not keeps its whole history
pub outside_cut : (log : List Event) (k p : ℕ) → IsLegal log → kind_of (past log) k ≡ Some Rollback → (Contains (members log k) p → ⊥) → length ((past log).live p) ≡ rollback_cut (past log) k p
outside_cut log k p l kind other = sym (cut_at (past log) k p false (is_not (is_member (past log) k p) refl)) ∙ members_cut log k p l (rolls log k kind)
  where
    is_not : (b : Bool) → is_member (past log) k p ≡ b → is_member (past log) k p ≡ false
    is_not true e = absurd (other (contains_member log k p e))
    is_not false e = e

-- what is told of the least orphan
pub told_least : (rows : List Event) (k : ℕ) (kind : Kind) (joined : List ℕ) (msg : ℕ) (o : Orphan) → joined ≡ members rows k → IsLeastOrphan (past rows) (decided_cut (past rows) k kind) msg → HasParts rows joined msg o
    → IsOrphanTold rows k kind o
told_least rows k kind joined msg o same least h = record {
  least = subst (IsLeastOrphan (past rows) (decided_cut (past rows) k kind)) (sym h.msg_is) least;
  parts = subst (λ (m : ℕ). HasParts rows (members rows k) m o) (sym h.msg_is) (subst (λ (list : List ℕ). HasParts rows list msg o) same h);
}
