-- Legal logs: what a row that breaks no rule keeps, induction over legal logs, prefixes, the first broken rule.
use Rattle.std.proofs.Common.{◌≡◌, ℕ, zero, suc, ◌+◌, Bool, true, false, Option, Some, None, List, [], ◌∷◌, ◌++◌, length, take, refl, arith, ap, ◌∙◌, append_assoc, subst}
use Rattle.std.specs.Prelude.{fold, find, not, cond, slice_get}
use Rattle.std.proofs.lemmas.List.{append-nil}
use Rattle.std.proofs.lemmas.Grind.{fold-append}
use Rattle.kt_spacetime.specs.declared.event.Event.{Event}
use Rattle.kt_spacetime.specs.declared.rules.Rule.{Rule}
use Rattle.kt_spacetime.specs.declared.rules.Rule.TheVariants.{Numbers, Message, Order, Sending, Receiving, Joining, Deciding, Closing, Causes}
use Rattle.kt_meaning.specs.Past.{Past, start, after, past}
use Rattle.kt_meaning.specs.Legal.{keeps, keeps_numbers, keeps_message, keeps_order, keeps_sending, keeps_receiving, keeps_joining, keeps_deciding, keeps_closing, keeps_causes, broken_rule, IsLegalAfter, IsLegal, or_later, first_broken_after}
use Rattle.std.specs.List.{slice_get}
use Rattle.kt_meaning.proofs.Items.{take_item}

-- what a row that breaks no rule keeps
pub record Kept (s : Past) (row : Event) : Type 0 where
  pub numbers : keeps_numbers s row ≡ true
  pub message : keeps_message s row ≡ true
  pub order : keeps_order s row ≡ true
  pub sending : keeps_sending s row ≡ true
  pub receiving : keeps_receiving s row ≡ true
  pub joining : keeps_joining s row ≡ true
  pub deciding : keeps_deciding s row ≡ true
  pub closing : keeps_closing s row ≡ true
  pub causes : keeps_causes s row ≡ true

-- a search that finds nothing passes over its first element
none_first : {X : Type 0} (test : X → Bool) (x : X) (xs : List X) → find (λ y. not (test y)) (x ∷ xs) ≡ None → (test x ≡ true) × (find (λ y. not (test y)) xs ≡ None)
none_first test x xs e = at_test (test x) refl e
  where
    at_test : (b : Bool) → test x ≡ b → cond (not b) (Some x) (find (λ y. not (test y)) xs) ≡ None → (test x ≡ true) × (find (λ y. not (test y)) xs ≡ None)
    at_test true t f = (t, f)
    at_test false t f = absurd (cc)

pub kept : (s : Past) (row : Event) → broken_rule s row ≡ None → Kept s row
kept s row e =
    let test : Rule → Bool = λ rule. keeps rule s row in
    let a = none_first test Numbers (Message ∷ Order ∷ Sending ∷ Receiving ∷ Joining ∷ Deciding ∷ Closing ∷ Causes ∷ []) e in
    let b = none_first test Message (Order ∷ Sending ∷ Receiving ∷ Joining ∷ Deciding ∷ Closing ∷ Causes ∷ []) a.1 in
    let c = none_first test Order (Sending ∷ Receiving ∷ Joining ∷ Deciding ∷ Closing ∷ Causes ∷ []) b.1 in
    let d = none_first test Sending (Receiving ∷ Joining ∷ Deciding ∷ Closing ∷ Causes ∷ []) c.1 in
    let f = none_first test Receiving (Joining ∷ Deciding ∷ Closing ∷ Causes ∷ []) d.1 in
    let g = none_first test Joining (Deciding ∷ Closing ∷ Causes ∷ []) f.1 in
    let h = none_first test Deciding (Closing ∷ Causes ∷ []) g.1 in
    let i = none_first test Closing (Causes ∷ []) h.1 in
    let j = none_first test Causes [] i.1 in
    record { numbers = a.0; message = b.0; order = c.0; sending = d.0; receiving = f.0; joining = g.0; deciding = h.0; closing = i.0; causes = j.0 }

-- a log and one more row
pub past_push : (log : List Event) (row : Event) → past (log ++ row ∷ []) ≡ after (past log) row
past_push log row = fold-append after start log (row ∷ [])

-- what each row keeps holds after every log
pub past_induction : (P : Past → Type 0) → ((s : Past) (row : Event) → P s → P (after s row)) → (s : Past) (log : List Event) → P s → P (fold after s log)
past_induction P keep s [] h = h
past_induction P keep s (row ∷ rows) h = past_induction P keep (after s row) rows (keep s row h)

-- what each row that breaks no rule keeps holds after a legal log
pub legal_induction : (P : Past → Type 0) → ((s : Past) (row : Event) → broken_rule s row ≡ None → P s → P (after s row)) → (s : Past) (log : List Event) → IsLegalAfter s log → P s → P (fold after s log)
legal_induction P keep s [] l h = h
legal_induction P keep s (row ∷ rows) l h = legal_induction P keep (after s row) rows l.1 (keep s row l.0 h)

-- the rows of the one log, and then those of the other
legal_append : (s : Past) (log more : List Event) → IsLegalAfter s log → IsLegalAfter (fold after s log) more → IsLegalAfter s (log ++ more)
legal_append s [] more l m = m
legal_append s (row ∷ rows) more l m = (l.0, legal_append (after s row) rows more l.1 m)

legal_parts : (s : Past) (log more : List Event) → IsLegalAfter s (log ++ more) → IsLegalAfter s log × IsLegalAfter (fold after s log) more
legal_parts s [] more l = (tt, l)
legal_parts s (row ∷ rows) more l = let h = legal_parts (after s row) rows more l.1 in ((l.0, h.0), h.1)

-- a log with one more row is legal where the log is and the row breaks no rule
pub legal_push : (log : List Event) (row : Event) → IsLegal log → broken_rule (past log) row ≡ None → IsLegal (log ++ row ∷ [])
legal_push log row l e = legal_append start log (row ∷ []) l (e, tt)

pub legal_last : (log : List Event) (row : Event) → IsLegal (log ++ row ∷ []) → IsLegal log × (broken_rule (past log) row ≡ None)
legal_last log row l = let h = legal_parts start log (row ∷ []) l in (h.0, h.1.0)

pub legal_front : (log more : List Event) → IsLegal (log ++ more) → IsLegal log
legal_front log more l = (legal_parts start log more l).0

pub legal_take : (n : ℕ) (log : List Event) → IsLegal log → IsLegal (take n log)
legal_take n log l = at_front start n log l
  where
    at_front : (s : Past) (n : ℕ) (log : List Event) → IsLegalAfter s log → IsLegalAfter s (take n log)
    at_front s zero log l = tt
    at_front s (suc n) [] l = tt
    at_front s (suc n) (row ∷ rows) l = (l.0, at_front (after s row) n rows l.1)

-- the same for what is said of the log itself
pub legal_log_induction : (P : List Event → Type 0) → P [] → ((log : List Event) (row : Event) → IsLegal log → broken_rule (past log) row ≡ None → P log → P (log ++ row ∷ [])) → (log : List Event) → IsLegal log → P log
legal_log_induction P none more log l = from [] log tt l none
  where
    from : (done rest : List Event) → IsLegal done → IsLegalAfter (past done) rest → P done → P (done ++ rest)
    from done [] d l h = rw append-nil h
    from done (row ∷ rest) d l h =
        let next : IsLegalAfter (past (done ++ row ∷ [])) rest = rw (past_push done row) l.1 in
        rw (← append_assoc done (row ∷ []) rest) (from (done ++ row ∷ []) rest (legal_push done row d l.0) next (more done row d l.0 h))

-- how many rows there are
pub rows_length : (log : List Event) → (past log).rows ≡ length log
rows_length log = omega (arith, from start log)
  where
    from : (s : Past) (log : List Event) → (fold after s log).rows ≡ s.rows + length log
    from s [] = omega arith
    from s (row ∷ rows) = omega (arith, from (after s row) rows)

-- a log with no first broken rule is legal, and the other way round
pub legal_unbroken : (s : Past) (log : List Event) → IsLegalAfter s log → first_broken_after s log ≡ None
legal_unbroken s [] l = refl
legal_unbroken s (row ∷ rows) l = rw l.0 (legal_unbroken (after s row) rows l.1)

pub unbroken_legal : (s : Past) (log : List Event) → first_broken_after s log ≡ None → IsLegalAfter s log
unbroken_legal s [] e = tt
unbroken_legal s (row ∷ rows) e = let f = at_rule (broken_rule s row) refl e in (f.0, unbroken_legal (after s row) rows f.1)
  where
    at_rule : (o : Option Rule) → broken_rule s row ≡ o → or_later o (s.rows + 1) (first_broken_after (after s row) rows) ≡ None → (broken_rule s row ≡ None) × (first_broken_after (after s row) rows ≡ None)
    at_rule None b f = (b, f)
    at_rule (Some rule) b f = absurd (cc)

-- the first row that breaks a rule
pub first_broken_at : (s : Past) (log : List Event) (n : ℕ) (row : Event) (rule : Rule) → IsLegalAfter s (take n log) → slice_get log n ≡ Some row → broken_rule (fold after s (take n log)) row ≡ Some rule → first_broken_after s log ≡ Some (s.rows + (n + 1), rule)
first_broken_at s [] n row rule l g b = absurd (cc)
first_broken_at s (x ∷ rows) zero row rule l g b =
    let same : x ≡ row = cc in
    let broken : broken_rule s x ≡ Some rule = rw same b in
    rw broken refl
first_broken_at s (x ∷ rows) (suc n) row rule l g b =
    let rest = first_broken_at (after s x) rows n row rule l.1 g b in
    let number : s.rows + 1 + (n + 1) ≡ s.rows + (suc n + 1) = omega arith in
    rw l.0 (rest ∙ ap (λ (m : ℕ). Some (m, rule)) number)

-- the next row of a legal log breaks no rule
pub next_unbroken : (rows : List Event) (i : ℕ) (row : Event) → IsLegal rows → slice_get rows i ≡ Some row → broken_rule (past (take i rows)) row ≡ None
next_unbroken rows i row l e = (legal_last (take i rows) row (subst IsLegal (take_item rows i (i + 1) row refl e) (legal_take (i + 1) rows l))).1
