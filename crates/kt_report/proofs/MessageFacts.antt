-- The bodies of messages, and how many are lost.
use Rattle.std.proofs.Common.{arith, ◌≡◌, ◌∙◌, ◌+◌, ℕ, ℤ, zero, suc, Bool, cond, List, [], ◌∷◌, ◌++◌, Some, ap, sym}
use Rattle.std.specs.Prelude.{slice_get, count_by}
use Rattle.std.specs.List.{range_with_len}
use Rattle.std.proofs.lemmas.List.Sums.{sum_by_push}
use Rattle.kt_spacetime.specs.declared.event.Event.{Event}
use Rattle.kt_spacetime.specs.declared.event.Event.TheVariants.{Sent, Received}
use Rattle.kt_spacetime.specs.declared.deeds.Deed.TheVariants as deed
use Rattle.kt_meaning.specs.Past.{past}
use Rattle.kt_meaning.specs.Legal.{IsLegal}
use Rattle.kt_meaning.specs.Messages.{row_at, IsMessage}
use Rattle.kt_meaning.proofs.LegalLogs.{legal_last}
use Rattle.kt_meaning.proofs.Lists.{deed_place}
use Rattle.kt_meaning.proofs.Places.{rowed}
use Rattle.kt_meaning.proofs.RowRules.{may_receive}
use Rattle.kt_machine.specs.Done.{done}
use Rattle.kt_machine.proofs.ListedMessages.{body_is}

-- a row by its number
pub row_at_place : (rows : List Event) (i n : ℕ) → i + 1 ≡ n → row_at rows n ≡ slice_get rows i
row_at_place rows i zero e = absurd (omega (arith, e))
row_at_place rows i (suc n) e = let same : n ≡ i = omega (arith, e) in ap (slice_get rows) same

-- a message that may be received was sent, and its body is known
pub sent_before : (rows : List Event) (p from msg i : ℕ) → i + 1 ≡ msg → IsLegal (rows ++ Received p from msg ∷ [])
    → (body : ℤ) × (slice_get rows i ≡ Some (Sent from p body)) × ((done rows).body msg ≡ body)
sent_before rows p from msg i e legal =
    let last = legal_last rows (Received p from msg) legal in
    let place = deed_place (deed.Sent msg p) ((past rows).live from) (may_receive (past rows) p from msg last.1).sent in
    let sent : IsMessage rows msg from p = (rowed rows last.0).sent from place.0 msg p place.1 in
    let there : slice_get rows i ≡ Some (Sent from p sent.0) = sym (row_at_place rows i msg e) ∙ sent.1 in
    (sent.0, there, ap (done rows).body (sym e) ∙ body_is rows i from p sent.0 there)

-- one more number
counting-more : (a n j : ℕ) → a + n ≡ j → range_with_len a (n + 1) ≡ range_with_len a n ++ j ∷ []
counting-more a n j e = let on : n + 1 ≡ suc n = omega arith in ap (range_with_len a) on ∙ last a n j e
  where
    last : (a n j : ℕ) → a + n ≡ j → range_with_len a (suc n) ≡ range_with_len a n ++ j ∷ []
    last a zero j e = let same : a ≡ j = omega (arith, e) in ap (λ (k : ℕ). k ∷ []) same
    last a (suc n) j e = ap (λ (l : List ℕ). a ∷ l) (last (a + 1) n j (omega (arith, e)))

-- one more number is counted
pub count-more : (test : ℕ → Bool) (a n j : ℕ) → a + n ≡ j → count_by test (range_with_len a (n + 1)) ≡ count_by test (range_with_len a n) + cond (test j) 1 0
count-more test a n j e = let at : range_with_len a (n + 1) ≡ range_with_len a n ++ j ∷ [] = counting-more a n j e in ap (count_by test) at ∙ sum_by_push (λ k. cond (test k) 1 0) (range_with_len a n) j
