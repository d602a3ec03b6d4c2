-- Orphans of a cut that agrees with the permanent one on all processes.
use Rattle.std.proofs.Common.{◌≡◌, ◌<◌, ◌≤◌, ◌↔◌, [], ℕ, zero, suc, List, Option, Some, None, IfSome, IfNone, IsNone, refl, sym, ap, inl, inr, ◌∙◌, arith, take, slice_get}
use Rattle.std.specs.List.{slice_index}
use Rattle.std.proofs.lemmas.Bool.{cases_lt}
use Rattle.kt_spacetime.specs.declared.event.Event.{Event}
use Rattle.kt_spacetime.specs.declared.deeds.Deed.{Deed}
use Rattle.kt_spacetime.specs.declared.deeds.Deed.TheVariants as deed
use Rattle.kt_meaning.specs.Past.{Past, past}
use Rattle.kt_meaning.specs.Legal.{has_deed}
use Rattle.kt_meaning.specs.Cuts.{IsOrphan, IsConsistent, part, permanent_cut}
use Rattle.kt_rules.proofs.OrphanFacts.{between_of, orphan_of}
use Rattle.kt_walk.specs.Arrivals.{KeepsPermanent}
use Rattle.kt_walk.specs.WalkOf.{WalkOf}
use Rattle.kt_walk.specs.WalkParts.{WalkParts}
use Rattle.kt_checker.proofs.Chaining.{consistent_of}
use Rattle.kt_checker.proofs.Answering.{orphan_refutes}

take_none : (n : ℕ) → take n (let l : List Deed = [] in l) ≡ []
take_none zero = refl
take_none (suc n) = refl

-- cuts that agree on a process keep the same part of it
same_part : (s : Past) (a b : ℕ → ℕ) (p : ℕ) → (p < 64 → a p ≡ b p) → (64 ≤ p → s.live p ≡ []) → part s a p ≡ part s b p
same_part s a b p same none = elim (cases_lt p 64) [
  | inl low ↦ ap (λ (n : ℕ). take n (s.live p)) (same low)
  | inr high ↦ ap (take (a p)) (none high) ∙ (take_none (a p) ∙ (sym (take_none (b p)) ∙ ap (take (b p)) (sym (none high))))
]

-- cuts that agree on the processes have the same orphans
orphan_along : (s : Past) (a b : ℕ → ℕ) (msg : ℕ) → ((p : ℕ) → p < 64 → a p ≡ b p) → ((p : ℕ) → 64 ≤ p → s.live p ≡ []) → IsOrphan s a msg → IsOrphan s b msg
orphan_along s a b msg same none orphan =
    let o = between_of s a msg orphan in
    orphan_of s b o.0 o.1 msg (record {
      place = o.2.place;
      received = ap (λ (l : List Deed). slice_get l o.2.place) (sym (parts o.0)) ∙ o.2.received;
      unsent = ap (has_deed (deed.Sent msg o.0)) (sym (parts o.1)) ∙ o.2.unsent;
    })
  where
    parts : (p : ℕ) → part s a p ≡ part s b p
    parts p = same_part s a b p (same p) (none p)

-- a cut that is the permanent one, of all rows that a walk may stand for
abbrev pub IsPermanentCut : WalkParts → List ℕ → Type 0
IsPermanentCut w cut = (rows : List Event) (p : ℕ) → WalkOf w rows → p < 64 → slice_index cut p ≡ permanent_cut (past rows) p

pub permanent_orphan : (w : WalkParts) (o : Option ℕ) (cut : List ℕ) → IsPermanentCut w cut → IfSome o (λ msg. (rows : List Event) → WalkOf w rows → IsOrphan (past rows) (slice_index cut) msg)
    → IfSome o (λ msg. (rows : List Event) → WalkOf w rows → IsOrphan (past rows) (permanent_cut (past rows)) msg)
permanent_orphan w None cut same orphan = tt
permanent_orphan w (Some msg) cut same orphan = λ rows h.
    orphan_along (past rows) (slice_index cut) (permanent_cut (past rows)) msg (λ p low. same rows p h low) h.control.no_more (orphan rows h)

pub none_if_consistent : (w : WalkParts) (o : Option ℕ) (cut : List ℕ) → IsPermanentCut w cut
    → IfNone o ((rows : List Event) (msg : ℕ) → WalkOf w rows → KeepsPermanent (past rows) cut → IsOrphan (past rows) (slice_index cut) msg → ⊥)
    → IfSome o (λ msg. (rows : List Event) → WalkOf w rows → IsOrphan (past rows) (slice_index cut) msg)
    → (rows : List Event) → WalkOf w rows → IsNone o ↔ IsConsistent (past rows) (permanent_cut (past rows))
none_if_consistent w None cut same none orphan rows h =
    let keeps : KeepsPermanent (past rows) cut = record { each = λ q low. omega (arith, same rows q h low) } in
    (λ is. consistent_of (past rows) (slice_index cut) (permanent_cut (past rows)) (λ p low. same rows p h low) h.control.no_more (λ msg o. none rows msg h keeps o), λ c. refl)
none_if_consistent w (Some msg) cut same none orphan rows h =
    (λ is. cc, λ c. absurd (orphan_refutes (past rows) (slice_index cut) (permanent_cut (past rows)) msg (λ p low. same rows p h low) h.control.no_more (orphan rows h) c))
