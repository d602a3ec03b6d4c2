-- The own histories are those that live histories are told by.
use Rattle.std.proofs.Common.{◌≡◌, ℕ, ◌+◌, Bool, true, false, Option, Some, None, List, [], ◌∷◌, ◌++◌, take, refl, sym, ap, subst, ◌∙◌}
use Rattle.std.specs.Prelude.{◌&&◌, if◌then◌else◌, unwrap_or, is_some}
use Rattle.std.proofs.lemmas.Grind.{fold-append}
use Rattle.kt_spacetime.specs.declared.event.Event.{Event}
use Rattle.kt_spacetime.specs.declared.event.Event.TheVariants.{Sent, Received, Dropped, Began, Took, Ready, Unwilling, Decided, Closed, Failed, Refused}
use Rattle.kt_spacetime.specs.declared.deeds.Deed.{Deed}
use Rattle.kt_spacetime.specs.declared.deeds.Deed.TheVariants as deed
use Rattle.kt_meaning.specs.Past.{Past, past, at_one, is_rollback, is_committed}
use Rattle.kt_meaning.specs.Legal.{IsLegal, has_begun, broken_rule}
use Rattle.kt_meaning.proofs.LegalLogs.{kept, legal_log_induction}
use Rattle.kt_meaning.proofs.RowRules.{may_close}
use Rattle.kt_meaning.proofs.Positions.{Positions, one_kind}
use Rattle.kt_protocol.specs.Summary.{Summary, summary, summary_start, summary_after}
use Rattle.kt_protocol.specs.SummaryMeaning.{AgreesWith}
use Rattle.kt_protocol.proofs.SummaryTies.{tied}
use Rattle.kt_protocol.specs.OwnHistories.{OwnHistories, own_histories, own_histories_after, own_after}
use Rattle.kt_machine.specs.Done.{Done, done, done_after}
use Rattle.kt_machine.proofs.DoneAlong.{done_past, done_more}
use Rattle.kt_machine.proofs.LegalFacts.{sound}

-- no new position in a rollback
pub no_new : (s : Past) → Positions s → (k p : ℕ) → is_rollback s k ≡ true → s.new k p ≡ None
no_new s g k p r = go (s.new k p) refl
  where
    go : (o : Option ℕ) → s.new k p ≡ o → s.new k p ≡ None
    go None e = e
    go (Some n) e = absurd (one_kind s k (g.took_kind p k n e) r)

pub tied_done : (log : List Event) → IsLegal log → AgreesWith (summary log) (done log).past
tied_done log l = subst (AgreesWith (summary log)) (sym (done_past log)) (tied log l)

-- a closed row's instance, by both
pub closed_kind : (log : List Event) (p k : ℕ) → IsLegal log → broken_rule (past log) (Closed p k) ≡ None → (is_rollback (done log).past k ≡ (summary log).is_rollback k) × (is_committed (done log).past k ≡ (summary log).is_committed k)
closed_kind log p k l e =
    let t = tied_done log l in
    let e' : broken_rule (done log).past (Closed p k) ≡ None = ap (λ (s : Past). broken_rule s (Closed p k)) (done_past log) ∙ e in
    let m = may_close (done log).past p k e' in
    let b : has_begun (done log).past k ≡ true = (kept (done log).past (Closed p k) e').numbers in
    (t.rollback k b, go ((summary log).is_decided k) refl (ap is_some (sym (t.decision k)) ∙ m.decided) ((ap (λ (o : Option Bool). unwrap_or o false) (t.decision k))))
  where
    go : (b : Bool) → (summary log).is_decided k ≡ b → is_some (if (summary log).is_decided k then Some ((summary log).is_committed k) else None) ≡ true → is_committed (done log).past k ≡ unwrap_or (if (summary log).is_decided k then Some ((summary log).is_committed k) else None) false → is_committed (done log).past k ≡ (summary log).is_committed k
    go true d s v = v ∙ rw d refl
    go false d s v = absurd (let x = rw d at s in cc (x))

own_row : (log : List Event) (row : Event) → IsLegal log → broken_rule (past log) row ≡ None → own_after (summary log) (done log).own row ≡ (done_after (done log) row).own
own_row log (Sent p q body) l e = ap (λ (n : ℕ). at_one p ((done log).own p ++ deed.Sent (n + 1) q ∷ []) (done log).own) (tied_done log l).rows
own_row log (Closed p k) l e = ap (λ (t : List Deed). at_one p t (done log).own) (go ((summary log).is_rollback k) ((summary log).is_committed k) f.0 f.1)
  where
    f : (is_rollback (done log).past k ≡ (summary log).is_rollback k) × (is_committed (done log).past k ≡ (summary log).is_committed k)
    f = closed_kind log p k l e

    place : is_rollback (done log).past k ≡ true → (summary log).permanent p ≡ (done log).permanent p
    place r =
        let s = sound log l in
        let e' : broken_rule (done log).past (Closed p k) ≡ None = ap (λ (x : Past). broken_rule x (Closed p k)) (done_past log) ∙ e in
        let m = may_close (done log).past p k e' in
        (tied_done log l).permanent p ∙ (s.owns.place_in p k m.inside ∙ (ap (λ (o : Option ℕ). if is_committed (done log).past k then unwrap_or o ((done log).permanent p) else (done log).permanent p) (no_new (done log).past s.positions k p r) ∙ flat (is_committed (done log).past k)))
      where
        flat : (b : Bool) → (if b then (done log).permanent p else (done log).permanent p) ≡ (done log).permanent p
        flat true = refl
        flat false = refl

    go : (r w : Bool) → is_rollback (done log).past k ≡ r → is_committed (done log).past k ≡ w → (if w && r then take ((summary log).permanent p) ((done log).own p) else (done log).own p) ≡ (if is_rollback (done log).past k && is_committed (done log).past k then take ((done log).permanent p) ((done log).own p) else (done log).own p)
    go true true a b = rw (a, b) (ap (λ (n : ℕ). take n ((done log).own p)) (place a))
    go true false a b = rw (a, b) refl
    go false true a b = rw a refl
    go false false a b = rw a refl
own_row log (Received p q m) l e = refl
own_row log (Dropped p q m) l e = refl
own_row log (Began p k kind) l e = refl
own_row log (Took p k) l e = refl
own_row log (Ready p k) l e = refl
own_row log (Unwilling p k cause) l e = refl
own_row log (Decided p k c) l e = refl
own_row log (Failed p) l e = refl
own_row log (Refused p v cause) l e = refl

record Same (log : List Event) : Type 0 where
  same : own_histories log ≡ record { so_far = summary log; own = (done log).own }

pub owned_same : (log : List Event) → IsLegal log → own_histories log ≡ record { so_far = summary log; own = (done log).own }
owned_same log l = (legal_log_induction Same (record { same = refl }) (λ log row l e i. record { same = more log row l e i.same }) log l).same
  where
    pair : {h g : Summary} {a b : ℕ → List Deed} → h ≡ g → a ≡ b → ◌≡◌ {A = OwnHistories} (record { so_far = h; own = a }) (record { so_far = g; own = b })
    pair e f = λ i. record { so_far = e i; own = f i }

    more : (log : List Event) (row : Event) → IsLegal log → broken_rule (past log) row ≡ None → own_histories log ≡ record { so_far = summary log; own = (done log).own } → own_histories (log ++ row ∷ []) ≡ record { so_far = summary (log ++ row ∷ []); own = (done (log ++ row ∷ [])).own }
    more log row l e i =
        fold-append own_histories_after (record { so_far = summary_start; own = λ p. [] }) log (row ∷ [])
        ∙ (ap (λ (o : OwnHistories). own_histories_after o row) i
        ∙ pair (sym (fold-append summary_after summary_start log (row ∷ []))) (own_row log row l e ∙ ap (λ (d : Done). d.own) (sym (done_more log (row ∷ [])))))
