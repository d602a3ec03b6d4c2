-- The rows of what is in live histories.
use Rattle.std.proofs.Common.{◌≡◌, ℕ, zero, suc, ◌+◌, Bool, true, false, Some, None, List, [], ◌∷◌, ◌++◌, length, refl, ap, ◌∙◌, subst, arith}
use Rattle.std.specs.List.{slice_get}
use Rattle.std.specs.Prelude.{ℤ}
use Rattle.std.proofs.lemmas.Bool.Decides.{nat_tests}
use Rattle.kt_histories.specs.Finding.{HasNoRow, receives}
use Rattle.kt_spacetime.specs.declared.event.Event.{Event}
use Rattle.kt_spacetime.specs.declared.event.Event.TheVariants.{Received, Sent}
use Rattle.kt_spacetime.specs.declared.deeds.Deed.TheVariants as deed
use Rattle.kt_meaning.specs.Past.{Past, past}
use Rattle.kt_meaning.specs.Legal.{IsLegal, broken_rule, has_deed}
use Rattle.kt_meaning.specs.Cuts.{part, IsOrphan, IsConsistent}
use Rattle.kt_meaning.specs.Messages.{IsMessage}
use Rattle.kt_meaning.proofs.LegalLogs.{past_push, legal_log_induction}
use Rattle.kt_meaning.proofs.Lists.{get_kept, get_last, deed_place}
use Rattle.kt_meaning.proofs.Places.{Comes, old, sent, received, comes, rowed, one_message}
use Rattle.kt_rules.proofs.OrphanFacts.{between_of, received_of, orphan_of}
use Rattle.kt_meaning.proofs.Consistency.{consistent_from}

-- after a legal log: what is in a live history as received has a row
pub record ReceivedRows (log : List Event) : Type 0 where
  pub row : (p i m from : ℕ) → slice_get ((past log).live p) i ≡ Some (deed.Received m from) → (n : ℕ) × (slice_get log n ≡ Some (Received p from m))

received_rows_start : ReceivedRows []
received_rows_start = record { row = λ p i m from e. absurd (cc) }

received_rows_keep : (log : List Event) (row : Event) → IsLegal log → broken_rule (past log) row ≡ None → ReceivedRows log → ReceivedRows (log ++ row ∷ [])
received_rows_keep log row l unbroken g = record { row = λ p i m from e. at p i m from (comes (past log) row p i (deed.Received m from) (rw (past_push log row) at e)) }
  where
    at : (p i m from : ℕ) → Comes (past log) row p i (deed.Received m from) → (n : ℕ) × (slice_get (log ++ row ∷ []) n ≡ Some (Received p from m))
    at p i m from (old e) = let a = g.row p i m from e in (a.0, get_kept log row a.0 (Received p from m) a.1)
    at p i m from (received from2 msg r d n) =
        let row_is : row ≡ Received p from m = cc in
        (length log, get_last log row ∙ ap (λ (x : Event). Some x) row_is)
    at p i m from (sent t body r d n) = absurd (cc)

-- the message of an orphan, and a row in which it was received
pub record OrphanRows (log : List Event) (m : ℕ) : Type 0 where
  pub to : ℕ
  pub from : ℕ
  pub message : IsMessage log m from to
  pub place : ℕ
  pub received_in : slice_get log place ≡ Some (Received to from m)

pub orphan_rows : (log : List Event) (cut : ℕ → ℕ) (m : ℕ) → IsLegal log → IsOrphan (past log) cut m → OrphanRows log m
orphan_rows log cut m l orphan =
    let h = between_of (past log) cut m orphan in
    let at = received_of (past log) cut h.0 h.1 m h.2 in
    let g = legal_log_induction ReceivedRows received_rows_start received_rows_keep log l in
    let there = g.row h.0 h.2.place m h.1 at.0 in
    let wrote = rowed log l in
    record {
      to = h.0;
      from = h.1;
      message = wrote.received h.0 h.2.place m h.1 at.0;
      place = there.0;
      received_in = there.1;
    }

-- a cut with no orphan is consistent
pub consistent_without : (s : Past) (cut : ℕ → ℕ) → ((m : ℕ) → IsOrphan s cut m → ⊥) → IsConsistent s cut
consistent_without s cut none = consistent_from s cut (λ p q i m there. at p q i m there (has_deed (deed.Sent m p) (part s cut q)) refl)
  where
    at : (p q i m : ℕ) → slice_get (part s cut p) i ≡ Some (deed.Received m q) → (b : Bool) → has_deed (deed.Sent m p) (part s cut q) ≡ b → has_deed (deed.Sent m p) (part s cut q) ≡ true
    at p q i m there true e = e
    at p q i m there false e = absurd (none m (orphan_of s cut p q m (record { place = i; received = there; unsent = e })))

-- the row of a message stands at its index
pub message_index : (rows : List Event) (msg index from to : ℕ) → index + 1 ≡ msg → (h : IsMessage rows msg from to) → slice_get rows index ≡ Some (Sent from to h.0)
message_index rows zero index from to e h = absurd (omega (arith, e))
message_index rows (suc m) index from to e h =
    let same : index ≡ m = omega (arith, e) in
    ap (slice_get rows) same ∙ h.1

pub index_message : (rows : List Event) (msg index from to : ℕ) (body : ℤ) → index + 1 ≡ msg → slice_get rows index ≡ Some (Sent from to body) → IsMessage rows msg from to
index_message rows zero index from to body e there = absurd (omega (arith, e))
index_message rows (suc m) index from to body e there =
    let same : m ≡ index = omega (arith, e) in
    (body, ap (slice_get rows) same ∙ there)

-- a row by which a process receives a message passes
pub receives_itself : (to from msg : ℕ) → receives to from msg (Received to from msg) ≡ true
receives_itself to from msg = grind (arith, nat_tests)

-- the row of an orphan's receive is found
pub no_lost_orphan : (rows : List Event) (cut : ℕ → ℕ) (msg from to : ℕ) → IsLegal rows → IsOrphan (past rows) cut msg → IsMessage rows msg from to → HasNoRow (receives to from msg) rows → ⊥
no_lost_orphan rows cut msg from to l orphan message none =
    let h = orphan_rows rows cut msg l orphan in
    let one = one_message rows msg h.from from h.to to h.message message in
    none h.place (Received h.to h.from msg) h.received_in
    (subst (λ (f : ℕ). receives to f msg (Received h.to h.from msg) ≡ true) one.0
    (subst (λ (t : ℕ). receives t h.from msg (Received h.to h.from msg) ≡ true) one.1 (receives_itself h.to h.from msg)))

-- what is in a live history as received is found among the rows
pub no_lost_receive : (rows : List Event) (p from msg : ℕ) → IsLegal rows → has_deed (deed.Received msg from) ((past rows).live p) ≡ true → HasNoRow (receives p from msg) rows → ⊥
no_lost_receive rows p from msg l has none =
    let at = deed_place (deed.Received msg from) ((past rows).live p) has in
    let there = (legal_log_induction ReceivedRows received_rows_start received_rows_keep rows l).row p at.0 msg from at.1 in
    none there.0 (Received p from msg) there.1 (receives_itself p from msg)
