-- How an instance began, by the rows of a legal log.
use Rattle.std.proofs.Common.{◌≡◌, ◌⊎◌, ℕ, zero, suc, ◌+◌, ◌==◌, Bool, true, false, Option, Some, None, List, [], ◌∷◌, ◌++◌, length, take, refl, ap, ◌∙◌, inl, inr, arith}
use Rattle.std.specs.Prelude.{nat_le}
use Rattle.std.specs.List.{slice_get}
use Rattle.std.proofs.lemmas.Bool.{and_parts}
use Rattle.std.proofs.lemmas.Bool.Decides.{nat_tests}
use Rattle.std.proofs.lemmas.Option.{slice_get_within}
use Rattle.kt_base.specs.declared.words.Kind.{Kind}
use Rattle.kt_spacetime.specs.declared.event.Event.{Event}
use Rattle.kt_spacetime.specs.declared.event.Event.TheVariants.{Sent, Received, Dropped, Began, Took, Ready, Unwilling, Decided, Closed, Failed, Refused}
use Rattle.kt_meaning.specs.Past.{Past, Beginning, past, after, beginning_of}
use Rattle.kt_meaning.specs.Legal.{IsLegal, broken_rule, has_begun}
use Rattle.kt_meaning.proofs.Items.{item_there, take_item}
use Rattle.kt_meaning.proofs.LegalLogs.{past_push, legal_log_induction, next_unbroken}
use Rattle.kt_meaning.proofs.Lists.{get_push, get_kept, get_last}
use Rattle.kt_meaning.proofs.RowRules.{may_begin}
use Rattle.kt_meaning.proofs.Deciding.{beginning_stays}
use Rattle.kt_histories.specs.Finding.{HasNoRow, begins_inst}

itself : (a : ℕ) → (a == a) ≡ true
itself a = grind (arith, nat_tests)

-- after a legal log: what is known to have begun has a row
pub record BegunRows (log : List Event) : Type 0 where
  pub row : (k : ℕ) (b : Beginning) → beginning_of (past log) k ≡ Some b → (n : ℕ) × (slice_get log n ≡ Some (Began b.initiator k b.kind))

begun_rows_start : BegunRows []
begun_rows_start = record { row = λ k b e. none k b e }
  where
    none : (k : ℕ) (b : Beginning) → beginning_of (past []) k ≡ Some b → (n : ℕ) × (slice_get (let l : List Event = [] in l) n ≡ Some (Began b.initiator k b.kind))
    none zero b e = absurd (cc)
    none (suc k) b e = absurd (cc)

-- an instance that is known after a row was known before it, or the row begins it
begins_now : (s : Past) (row : Event) (k : ℕ) (b : Beginning) → broken_rule s row ≡ None → beginning_of (after s row) k ≡ Some b → (beginning_of s k ≡ Some b) ⊎ (row ≡ Began b.initiator k b.kind)
begins_now s row zero b unbroken e = absurd (cc)
begins_now s (Began p j kind) (suc k) b unbroken e = elim (get_push s.begun (record { initiator = p; kind = kind }) k b e) [
  | inl before ↦ inl before
  | inr now ↦
      let number : j ≡ suc k = omega (arith, (may_begin s p j kind unbroken).0, now.0) in
      inr (λ i. Began ((now.1 i).initiator) (number i) ((now.1 i).kind))
]
begins_now s (Sent p to body) (suc k) b unbroken e = inl e
begins_now s (Received p from msg) (suc k) b unbroken e = inl e
begins_now s (Dropped p from msg) (suc k) b unbroken e = inl e
begins_now s (Took p j) (suc k) b unbroken e = inl e
begins_now s (Ready p j) (suc k) b unbroken e = inl e
begins_now s (Unwilling p j cause) (suc k) b unbroken e = inl e
begins_now s (Decided p j commit) (suc k) b unbroken e = inl e
begins_now s (Closed p j) (suc k) b unbroken e = inl e
begins_now s (Failed p) (suc k) b unbroken e = inl e
begins_now s (Refused p verb cause) (suc k) b unbroken e = inl e

begun_rows_keep : (log : List Event) (row : Event) → IsLegal log → broken_rule (past log) row ≡ None → BegunRows log → BegunRows (log ++ row ∷ [])
begun_rows_keep log row l unbroken g = record {
  row = λ k b e. elim (begins_now (past log) row k b unbroken (rw (past_push log row) at e)) [
    | inl before ↦ (let a = g.row k b before in (a.0, get_kept log row a.0 (Began b.initiator k b.kind) a.1))
    | inr now ↦ (length log, get_last log row ∙ ap (λ (x : Event). Some x) now)
  ];
}

-- what a row that begins an instance says of it
begun_after_row : (s : Past) (p k : ℕ) (kind : Kind) → broken_rule s (Began p k kind) ≡ None → beginning_of (after s (Began p k kind)) k ≡ Some (record { initiator = p; kind = kind })
begun_after_row s p zero kind unbroken = absurd (omega (arith, (may_begin s p zero kind unbroken).0))
begun_after_row s p (suc k) kind unbroken =
    let number : k ≡ length s.begun = omega (arith, (may_begin s p (suc k) kind unbroken).0) in
    rw number (get_last s.begun (record { initiator = p; kind = kind }))

pub begun_by_row : (log : List Event) (n p k : ℕ) (kind : Kind) → IsLegal log → slice_get log n ≡ Some (Began p k kind) → beginning_of (past log) k ≡ Some (record { initiator = p; kind = kind })
begun_by_row log n p k kind l e =
    let then : past (take (n + 1) log) ≡ after (past (take n log)) (Began p k kind) = ap past (take_item log n (n + 1) (Began p k kind) refl e) ∙ past_push (take n log) (Began p k kind) in
    beginning_stays log (n + 1) k (record { initiator = p; kind = kind })
    (ap (λ (s : Past). beginning_of s k) then ∙ begun_after_row (past (take n log)) p k kind (next_unbroken log n (Began p k kind) l e))

-- a decided instance had begun before
begun_before : (s : Past) (k : ℕ) → has_begun s k ≡ true → (b : Beginning) × (beginning_of s k ≡ Some b)
begun_before s zero e =
    let no_such : false ≡ true = e in
    absurd (cc)
begun_before s (suc k) e =
    let parts = and_parts (nat_le 1 (suc k)) (nat_le (suc k) (length s.begun)) e in
    item_there s.begun k (grind (arith, nat_tests, parts.1))

-- an instance that no row begins has not begun
pub unbegun : (log : List Event) (k : ℕ) → IsLegal log → HasNoRow (begins_inst k) log → has_begun (past log) k ≡ false
unbegun log k l none = at (has_begun (past log) k) refl
  where
    at : (b : Bool) → has_begun (past log) k ≡ b → has_begun (past log) k ≡ false
    at false is = is
    at true is =
        let known = begun_before (past log) k is in
        let a = (legal_log_induction BegunRows begun_rows_start begun_rows_keep log l).row k known.0 known.1 in
        absurd (none a.0 (Began known.0.initiator k known.0.kind) a.1 (itself k))

-- an instance of which it is known how it began has begun
pub has_begun_by : (s : Past) (k : ℕ) (b : Beginning) → beginning_of s k ≡ Some b → has_begun s k ≡ true
has_begun_by s zero b e = absurd (cc)
has_begun_by s (suc k) b e =
    let low = slice_get_within s.begun k b e in
    grind (arith, nat_tests, low)

-- of one that has not begun nothing is known
pub not_known : (s : Past) (k : ℕ) → has_begun s k ≡ false → beginning_of s k ≡ None
not_known s k e = at (beginning_of s k) refl
  where
    at : (o : Option Beginning) → beginning_of s k ≡ o → beginning_of s k ≡ None
    at None is = is
    at (Some b) is = absurd (cc (has_begun_by s k b is, e))
