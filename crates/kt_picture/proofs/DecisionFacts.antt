-- How instances are decided by the rows of a legal log.
use Rattle.std.proofs.Common.{◌≡◌, ◌∙◌, ◌+◌, ◌⊎◌, inl, inr, ℕ, zero, suc, Bool, Some, None, List, [], ◌∷◌, ◌++◌, refl, sym, ap, subst, take, drop, fold}
use Rattle.std.specs.Prelude.{slice_get, Contains, ◌↔◌}
use Rattle.std.proofs.lemmas.Bool.{cases_eq}
use Rattle.std.proofs.lemmas.List.{take-append-drop}
use Rattle.std.proofs.lemmas.List.Sums.{fold-append}
use Rattle.std.proofs.lemmas.Option.{slice_get_within, get_or_from_slice_get}
use Rattle.std.proofs.Math.Seq.{take-add}
use Rattle.kt_spacetime.specs.declared.event.Event.{Event}
use Rattle.kt_spacetime.specs.declared.event.Event.TheVariants.{Sent, Received, Dropped, Began, Took, Ready, Unwilling, Decided, Closed, Failed, Refused}
use Rattle.kt_meaning.specs.Past.{Past, past, start, after, at_one}
use Rattle.kt_meaning.specs.Legal.{IsLegal, IsLegalAfter, broken_rule}
use Rattle.kt_meaning.proofs.RowRules.{may_decide}
use Rattle.kt_meaning.proofs.Shown.{at_same, at_other}
use Rattle.kt_picture.proofs.ShownFacts.{place_in}

-- a row decides an instance so, or leaves its decision as it was
pub data Decides (s : Past) (row : Event) (k : ℕ) : Type 0 where
  now : (p : ℕ) (commit : Bool) → row ≡ Decided p k commit → (after s row).decision k ≡ Some commit → Decides s row k
  kept : (after s row).decision k ≡ s.decision k → Decides s row k

pub decides : (s : Past) (row : Event) (k : ℕ) → Decides s row k
decides s (Decided p j commit) k = elim (cases_eq k j) [
  | inl e ↦ now p commit (ap (λ (i : ℕ). Decided p i commit) (sym e)) (ap (at_one j (Some commit) s.decision) e ∙ at_same j (Some commit) s.decision)
  | inr n ↦ kept (at_other j k (Some commit) s.decision n)
]
decides s (Sent p to body) k = kept refl
decides s (Received p from msg) k = kept refl
decides s (Dropped p from msg) k = kept refl
decides s (Began p j kind) k = kept refl
decides s (Took p j) k = kept refl
decides s (Ready p j) k = kept refl
decides s (Unwilling p j cause) k = kept refl
decides s (Closed p j) k = kept refl
decides s (Failed p) k = kept refl
decides s (Refused p verb cause) k = kept refl

-- a decision is not taken again
pub decision_stays : (s : Past) (row : Event) (k : ℕ) (commit : Bool) → broken_rule s row ≡ None → s.decision k ≡ Some commit → (after s row).decision k ≡ Some commit
decision_stays s row k commit unbroken was = at_row (decides s row k)
  where
    at_row : Decides s row k → (after s row).decision k ≡ Some commit
    at_row (kept e) = e ∙ was
    at_row (now p c is e) =
        let may = may_decide s p k c (subst (λ (x : Event). broken_rule s x ≡ None) is unbroken) in
        let none : s.decision k ≡ None = may.undecided in
        absurd (cc)

pub decision_kept : (s : Past) (rest : List Event) (k : ℕ) (commit : Bool) → IsLegalAfter s rest → s.decision k ≡ Some commit → (fold after s rest).decision k ≡ Some commit
decision_kept s [] k commit l e = e
decision_kept s (row ∷ rest) k commit l e = decision_kept (after s row) rest k commit l.1 (decision_stays s row k commit l.0 e)

-- an instance that is decided by the end was decided, or one of these rows decides it so
pub decided_by : (s : Past) (rest : List Event) (k : ℕ) (commit : Bool) → (fold after s rest).decision k ≡ Some commit
    → (s.decision k ≡ Some commit) ⊎ ((p : ℕ) × (i : ℕ) × (slice_get rest i ≡ Some (Decided p k commit)))
decided_by s [] k commit e = inl e
decided_by s (row ∷ rest) k commit e = elim (decided_by (after s row) rest k commit e) [
  | inl was ↦ at_row (decides s row k) was
  | inr later ↦ inr (later.0, suc later.1, later.2)
]
  where
    at_row : Decides s row k → (after s row).decision k ≡ Some commit → (s.decision k ≡ Some commit) ⊎ ((p : ℕ) × (i : ℕ) × (slice_get (row ∷ rest) i ≡ Some (Decided p k commit)))
    at_row (kept same) was = inl (sym same ∙ was)
    at_row (now p c is so) was =
        let same : c ≡ commit = cc in
        inr (p, 0, ap (λ (x : Event). Some x) is ∙ ap (λ (b : Bool). Some (Decided p k b)) same)

-- what a row decides stays so
pub decides_for_good : (s : Past) (rest : List Event) (i p k : ℕ) (commit : Bool) → IsLegalAfter s rest → slice_get rest i ≡ Some (Decided p k commit) → (fold after s rest).decision k ≡ Some commit
decides_for_good s [] i p k commit l e = absurd (cc)
decides_for_good s (row ∷ rest) zero p k commit l e =
    let is : row ≡ Decided p k commit = cc in
    let so : (after s row).decision k ≡ Some commit = ap (λ (x : Event). (after s x).decision k) is ∙ at_same k (Some commit) s.decision in
    decision_kept (after s row) rest k commit l.1 so
decides_for_good s (row ∷ rest) (suc i) p k commit l e = decides_for_good (after s row) rest i p k commit l.1 e

legal_rest : (s : Past) (log more : List Event) → IsLegalAfter s (log ++ more) → IsLegalAfter (fold after s log) more
legal_rest s [] more l = l
legal_rest s (row ∷ log) more l = legal_rest (after s row) log more l.1

legal_after_front : (s : Past) (log more : List Event) → IsLegalAfter s (log ++ more) → IsLegalAfter s log
legal_after_front s [] more l = tt
legal_after_front s (row ∷ log) more l = (l.0, legal_after_front (after s row) log more l.1)

contained : {X : Type 0} (xs : List X) (i : ℕ) (x : X) → slice_get xs i ≡ Some x → Contains xs x
contained xs i x e = (i, slice_get_within xs i x e, get_or_from_slice_get xs i x x e)

-- an instance that is undecided at a row of the window is decided by its end exactly where one of its rows decides it so
pub decided_in_window : (rows : List Event) (before i k : ℕ) (commit : Bool) → IsLegal rows → (past (take (before + i) rows)).decision k ≡ None
    → ((past rows).decision k ≡ Some commit) ↔ ((p : ℕ) × Contains (drop before rows) (Decided p k commit))
decided_in_window rows before i k commit l undecided = (found, λ h. decided h.0 (place_in (drop before rows) (Decided h.0 k commit) h.1))
  where
    split : past rows ≡ fold after (past (take before rows)) (drop before rows)
    split = ap past (sym (take-append-drop before rows)) ∙ fold-append after start (take before rows) (drop before rows)

    legal : IsLegalAfter (past (take before rows)) (drop before rows)
    legal = legal_rest start (take before rows) (drop before rows) (subst IsLegal (sym (take-append-drop before rows)) l)

    upto : past (take (before + i) rows) ≡ fold after (past (take before rows)) (take i (drop before rows))
    upto = ap past (take-add before i rows) ∙ fold-append after start (take before rows) (take i (drop before rows))

    not_before : (past (take before rows)).decision k ≡ Some commit → ⊥
    not_before was =
        let front = legal_after_front (past (take before rows)) (take i (drop before rows)) (drop i (drop before rows)) (subst (IsLegalAfter (past (take before rows))) (sym (take-append-drop i (drop before rows))) legal) in
        let still = decision_kept (past (take before rows)) (take i (drop before rows)) k commit front was in
        let at : (past (take (before + i) rows)).decision k ≡ Some commit = ap (λ (s : Past). s.decision k) upto ∙ still in
        absurd (cc)

    found : (past rows).decision k ≡ Some commit → (p : ℕ) × Contains (drop before rows) (Decided p k commit)
    found e = elim (decided_by (past (take before rows)) (drop before rows) k commit (ap (λ (s : Past). s.decision k) (sym split) ∙ e)) [
      | inl was ↦ absurd (not_before was)
      | inr row ↦ (row.0, contained (drop before rows) row.1 (Decided row.0 k commit) row.2)
    ]

    decided : (p : ℕ) → (j : ℕ) × (slice_get (drop before rows) j ≡ Some (Decided p k commit)) → (past rows).decision k ≡ Some commit
    decided p h = ap (λ (s : Past). s.decision k) split ∙ decides_for_good (past (take before rows)) (drop before rows) h.0 p k commit legal h.1
