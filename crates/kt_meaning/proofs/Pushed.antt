-- What one more row does to decisions and certificates.
use Rattle.std.proofs.Common.{◌≡◌, ℕ, zero, suc, ◌≤◌, Bool, Option, Some, None, option_map, List, [], ◌∷◌, ◌++◌, length, take, refl, sym, ap, ◌∙◌, arith, inl, inr}
use Rattle.std.specs.List.{slice_get}
use Rattle.std.proofs.Math.Seq.{take-append_seam}
use Rattle.std.proofs.lemmas.Bool.{cases_eq}
use Rattle.std.proofs.lemmas.Bool.Decides.{nat_tests}
use Rattle.std.proofs.lemmas.Option.{slice_get_within}
use Rattle.kt_spacetime.specs.declared.event.Event.{Event}
use Rattle.kt_spacetime.specs.declared.event.Event.TheVariants.{Sent, Received, Dropped, Began, Took, Ready, Unwilling, Decided, Closed, Failed, Refused}
use Rattle.kt_meaning.specs.Past.{Past, past, decision_after}
use Rattle.kt_meaning.specs.Legal.{IsLegal, broken_rule}
use Rattle.kt_meaning.proofs.Items.{get_push}
use Rattle.kt_meaning.proofs.LegalLogs.{past_push, legal_last, legal_log_induction}
use Rattle.kt_meaning.proofs.RowRules.{may_decide}
use Rattle.kt_meaning.specs.Certificates.{certified_after, decision_by, decision_in, certificate_of}
use Rattle.kt_meaning.proofs.Decisions.{first_decision, certified_by, decision_is, decision_of_row}

pub decision_stays : (k : ℕ) (log : List Event) (row : Event) (d : ℕ × Bool) → decision_in k log ≡ Some d → decision_in k (log ++ row ∷ []) ≡ Some d
decision_stays k [] row d e = absurd (cc)
decision_stays k (x ∷ log) row d e = from (decision_by k x) (decision_in k log) refl e (λ c f. decision_stays k log row c f)
  where
    from : (v : Option Bool) (o : Option (ℕ × Bool)) → decision_in k log ≡ o → first_decision v o ≡ Some d → ((c : ℕ × Bool) → decision_in k log ≡ Some c → decision_in k (log ++ row ∷ []) ≡ Some c) → first_decision v (decision_in k (log ++ row ∷ [])) ≡ Some d
    from (Some c) o f e rest = e
    from None None f e rest = absurd (cc)
    from None (Some c) f e rest = ap (first_decision None) (rest c f) ∙ e

pub decision_new : (k : ℕ) (log : List Event) (row : Event) → decision_in k log ≡ None → decision_in k (log ++ row ∷ []) ≡ option_map (λ commit. (length log, commit)) (decision_by k row)
decision_new k [] row e = from (decision_by k row)
  where
    from : (v : Option Bool) → first_decision v None ≡ option_map (λ commit. (0, commit)) v
    from None = refl
    from (Some c) = refl
decision_new k (x ∷ log) row e = from (decision_by k x) (decision_in k log) refl e (λ f. decision_new k log row f)
  where
    next : (v : Option Bool) → first_decision None (option_map (λ commit. (length log, commit)) v) ≡ option_map (λ commit. (suc (length log), commit)) v
    next None = refl
    next (Some c) = refl

    from : (v : Option Bool) (o : Option (ℕ × Bool)) → decision_in k log ≡ o → first_decision v o ≡ None → (decision_in k log ≡ None → decision_in k (log ++ row ∷ []) ≡ option_map (λ commit. (length log, commit)) (decision_by k row))
        → first_decision v (decision_in k (log ++ row ∷ [])) ≡ option_map (λ commit. (suc (length log), commit)) (decision_by k row)
    from (Some c) o f e rest = absurd (cc)
    from None (Some c) f e rest = absurd (cc)
    from None None f e rest = ap (first_decision None) (rest f) ∙ next (decision_by k row)

take_front : (log : List Event) (row : Event) (n : ℕ) → n ≤ length log → take n (log ++ row ∷ []) ≡ take n log
take_front log row zero low = refl
take_front [] row (suc n) low = absurd (omega (arith, low))
take_front (x ∷ log) row (suc n) low = ap (λ (l : List Event). x ∷ l) (take_front log row n (omega (arith, low)))

-- a row that doesn't decide an instance leaves its certificate
pub certificate_stays : (log : List Event) (row : Event) (k : ℕ) → decision_by k row ≡ None → certificate_of (log ++ row ∷ []) k ≡ certificate_of log k
certificate_stays log row k quiet = from (decision_in k log) refl
  where
    from : (o : Option (ℕ × Bool)) → decision_in k log ≡ o → certificate_of (log ++ row ∷ []) k ≡ certificate_of log k
    from None e = ap (certified_by (log ++ row ∷ []) k) (decision_new k log row e ∙ ap (option_map (λ commit. (length log, commit))) quiet) ∙ sym (ap (certified_by log k) e)
    from (Some d) e =
        let low = slice_get_within log d.0 _ (decision_is k log d e).1 in
        ap (certified_by (log ++ row ∷ []) k) (decision_stays k log row d e)
        ∙ (ap (λ (l : List Event). certified_after l k d.1) (take_front log row d.0 (omega (arith, low))) ∙ sym (ap (certified_by log k) e))

-- an instance that is not decided after a row was not before, and the row does not decide it
undecided_before : (s : Past) (row : Event) (k : ℕ) → decision_after s row k ≡ None → (s.decision k ≡ None) × (decision_by k row ≡ None)
undecided_before s (Decided p j commit) k none = elim (cases_eq k j) [
  | inl same ↦ absurd (here same)
  | inr other ↦ (grind (arith, nat_tests, other, none), grind (arith, nat_tests, other))
]
  where
    here : k ≡ j → ⊥
    here same = grind (arith, nat_tests, same, none)
undecided_before s (Sent p to body) k none = (none, refl)
undecided_before s (Received p from msg) k none = (none, refl)
undecided_before s (Dropped p from msg) k none = (none, refl)
undecided_before s (Began p j kind) k none = (none, refl)
undecided_before s (Took p j) k none = (none, refl)
undecided_before s (Ready p j) k none = (none, refl)
undecided_before s (Unwilling p j cause) k none = (none, refl)
undecided_before s (Closed p j) k none = (none, refl)
undecided_before s (Failed p) k none = (none, refl)
undecided_before s (Refused p verb cause) k none = (none, refl)

-- an instance that was found to be decided is known to be
known_undecided : (k : ℕ) (log : List Event) → IsLegal log → (past log).decision k ≡ None → decision_in k log ≡ None
known_undecided k log l = legal_log_induction (λ (rows : List Event). (past rows).decision k ≡ None → decision_in k rows ≡ None)
    (λ none. refl)
    (λ rows row lawful unbroken h none.
    let after_row : decision_after (past rows) row k ≡ None = sym (ap (λ (s : Past). s.decision k) (past_push rows row)) ∙ none in
    let before = undecided_before (past rows) row k after_row in
    decision_new k rows row (h before.0) ∙ ap (option_map (λ commit. (length rows, commit))) before.1)
    log l

-- a row that decides an instance makes its certificate
undecided_yet : (log : List Event) (p k : ℕ) (commit : Bool) → IsLegal (log ++ Decided p k commit ∷ []) → decision_in k log ≡ None
undecided_yet log p k commit l =
    let last = legal_last log (Decided p k commit) l in
    known_undecided k log last.0 (may_decide (past log) p k commit last.1).undecided

pub certificate_new : (log : List Event) (p k : ℕ) (commit : Bool) → IsLegal (log ++ Decided p k commit ∷ []) → certificate_of (log ++ Decided p k commit ∷ []) k ≡ certified_after log k commit
certificate_new log p k commit l =
    ap (certified_by (log ++ Decided p k commit ∷ []) k) (decision_new k log (Decided p k commit) (undecided_yet log p k commit l) ∙ ap (option_map (λ c. (length log, c))) (decision_of_row p k commit))
    ∙ ap (λ (x : List Event). certified_after x k commit) (take-append_seam log (Decided p k commit ∷ []))

-- where a row of a legal log decides an instance, it is found
pub decision_known : (k : ℕ) (log : List Event) → IsLegal log → (n p : ℕ) (commit : Bool) → slice_get log n ≡ Some (Decided p k commit) → decision_in k log ≡ Some (n, commit)
decision_known k log l = legal_log_induction (λ (rows : List Event). (n p : ℕ) (commit : Bool) → slice_get rows n ≡ Some (Decided p k commit) → decision_in k rows ≡ Some (n, commit))
    (λ n p commit e. absurd (cc))
    (λ rows row lawful unbroken h n p commit e. elim (get_push rows row n (Decided p k commit) e) [
      | inl old ↦ decision_stays k rows row (n, commit) (h n p commit old)
      | inr new ↦ now rows row n p commit lawful unbroken new.0 (sym new.1)
    ])
    log l
  where
    now : (rows : List Event) (row : Event) (n p : ℕ) (commit : Bool) → IsLegal rows → broken_rule (past rows) row ≡ None → n ≡ length rows → row ≡ Decided p k commit → decision_in k (rows ++ row ∷ []) ≡ Some (n, commit)
    now rows row n p commit lawful unbroken place is =
        let undecided = (may_decide (past rows) p k commit (ap (broken_rule (past rows)) (sym is) ∙ unbroken)).undecided in
        decision_new k rows row (known_undecided k rows lawful undecided)
        ∙ (ap (option_map (λ c. (length rows, c))) (ap (decision_by k) is ∙ decision_of_row p k commit)
        ∙ ap (λ (m : ℕ). Some (m, commit)) (sym place))
