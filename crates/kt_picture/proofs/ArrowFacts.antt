-- What became of the messages that rows of a legal log take.
use Rattle.std.proofs.Common.{◌≡◌, ◌≢◌, ◌∙◌, ◌≤◌, ◌+◌, ◌-◌, inl, inr, ℕ, zero, suc, Bool, true, false, not, Some, None, List, [], ◌∷◌, length, refl, sym, ap, subst, take, drop, fold, arith}
use Rattle.std.specs.Prelude.{slice_get, ◌==◌, ◌||◌, ◌↔◌, if◌then◌else◌}
use Rattle.std.specs.List.{list_any}
use Rattle.std.proofs.lemmas.Bool.{cases_Bool}
use Rattle.std.proofs.lemmas.Bool.Decides.{nat_tests}
use Rattle.std.proofs.lemmas.List.{take-append-drop, take_all, drop-drop}
use Rattle.std.proofs.lemmas.List.Sums.{fold-append}
use Rattle.kt_spacetime.specs.declared.event.Event.{Event}
use Rattle.kt_spacetime.specs.declared.event.Event.TheVariants.{Sent, Received, Dropped, Began, Took, Ready, Unwilling, Decided, Closed, Failed, Refused}
use Rattle.kt_spacetime.specs.declared.deeds.Deed.TheVariants as deed
use Rattle.kt_meaning.specs.Past.{Past, past, start, after}
use Rattle.kt_meaning.specs.Legal.{IsLegal, has_deed, is_undelivered}
use Rattle.kt_meaning.specs.Messages.{row_at, IsMessage}
use Rattle.kt_rules.specs.Traces.{trace_of}
use Rattle.kt_meaning.proofs.LegalLogs.{kept, legal_take, next_unbroken}
use Rattle.kt_meaning.proofs.Lists.{get_drop, get_take, any_at, deed_place, has_from_place}
use Rattle.kt_meaning.proofs.Places.{Comes, old, sent, received, comes, rowed, one_message}
use Rattle.kt_meaning.proofs.RowRules.{both, neither, may_receive}
use Rattle.kt_picture.specs.declared.window.Shown.{Shown}
use Rattle.kt_picture.specs.Arrows.{StaysReceived, has_arrow}
use Rattle.kt_picture.specs.Fates.{is_send_undone, has_no_receive, receives, is_receive_undone, is_sent_in_transit}
use Rattle.kt_picture.specs.Marks.{arrow_at, short_arrow}
use Rattle.kt_picture.specs.View.{View}
use Rattle.kt_picture.proofs.LawFacts.{no_place, trace_is}

from_not : (b : Bool) → not b ≡ false → b ≡ true
from_not true e = refl
from_not false e = absurd (cc)

row_of_take : (rows : List Event) (n m : ℕ) (row : Event) → row_at (take n rows) m ≡ Some row → row_at rows m ≡ Some row
row_of_take rows n zero row e = absurd (cc)
row_of_take rows n (suc m) row e = (get_take n rows m row e).0

-- what is undelivered before a row was sent by an earlier one
pub undelivered_message : (rows : List Event) (j p q msg : ℕ) → IsLegal rows → is_undelivered (past (take j rows)) p q msg ≡ true → IsMessage rows msg q p
undelivered_message rows j p q msg l e =
    let a = both _ _ e in
    let b = both _ _ a.0 in
    let place = deed_place (deed.Sent msg p) ((past (take j rows)).live q) b.0 in
    let g = rowed (take j rows) (legal_take j rows l) in
    let h = g.sent q place.0 msg p place.1 in
    (h.0, row_of_take rows j msg (Sent q p h.0) h.1)

-- so was what a row of a legal log receives
pub received_message : (rows : List Event) (j p q msg : ℕ) → IsLegal rows → slice_get rows j ≡ Some (Received p q msg) → IsMessage rows msg q p
received_message rows j p q msg l at =
    let k = kept (past (take j rows)) (Received p q msg) (next_unbroken rows j (Received p q msg) l at) in
    undelivered_message rows j p q msg l k.message

-- or drops
pub dropped_message : (rows : List Event) (j p q msg : ℕ) → IsLegal rows → slice_get rows j ≡ Some (Dropped p q msg) → IsMessage rows msg q p
dropped_message rows j p q msg l at =
    let k = kept (past (take j rows)) (Dropped p q msg) (next_unbroken rows j (Dropped p q msg) l at) in
    undelivered_message rows j p q msg l k.message

-- the send of a message is undone where it is not live
pub undone_is : (rows : List Event) (msg q p : ℕ) → IsMessage rows msg q p → is_send_undone (trace_of rows msg) ≡ not (has_deed (deed.Sent msg p) ((past rows).live q))
undone_is rows msg q p h = ap is_send_undone (trace_is rows msg q p h.0 h.1) ∙ no_place (deed.Sent msg p) ((past rows).live q)

-- a message has no receive where that is not live
pub unreceived_is : (rows : List Event) (msg q p : ℕ) → IsMessage rows msg q p → has_no_receive (trace_of rows msg) ≡ not (has_deed (deed.Received msg q) ((past rows).live p))
unreceived_is rows msg q p h = ap has_no_receive (trace_is rows msg q p h.0 h.1) ∙ no_place (deed.Received msg q) ((past rows).live p)

any_later : (msg : ℕ) (rows : List Event) (n : ℕ) → list_any (receives msg) rows ≡ false → list_any (receives msg) (drop n rows) ≡ false
any_later msg [] zero e = e
any_later msg [] (suc n) e = e
any_later msg (row ∷ rows) zero e = e
any_later msg (row ∷ rows) (suc n) e = any_later msg rows n (second (receives msg row) (list_any (receives msg) rows) e)
  where
    second : (a b : Bool) → (a || b) ≡ false → b ≡ false
    second true b e = absurd (cc)
    second false b e = e

-- a receive that is live after a row which receives no such message was live before it
was_live : (s : Past) (row : Event) (msg p q : ℕ) → receives msg row ≡ false → has_deed (deed.Received msg q) ((after s row).live p) ≡ true → has_deed (deed.Received msg q) (s.live p) ≡ true
was_live s row msg p q other live =
    let place = deed_place (deed.Received msg q) ((after s row).live p) live in
    at_place place.0 (comes s row p place.0 (deed.Received msg q) place.1)
  where
    at_place : (i : ℕ) → Comes s row p i (deed.Received msg q) → has_deed (deed.Received msg q) (s.live p) ≡ true
    at_place i (old e) = has_from_place (deed.Received msg q) (s.live p) i e
    at_place i (sent to body r d n) = absurd (cc)
    at_place i (received from m r d n) =
        let same : m ≡ msg = cc in
        let no_more : (m == msg) ≡ false = ap (receives msg) (sym r) ∙ other in
        absurd (let t : (m == msg) ≡ true = grind (arith, nat_tests, same) in cc)

pub was_live_before : (s : Past) (rest : List Event) (msg p q : ℕ) → list_any (receives msg) rest ≡ false → has_deed (deed.Received msg q) ((fold after s rest).live p) ≡ true → has_deed (deed.Received msg q) (s.live p) ≡ true
was_live_before s [] msg p q others live = live
was_live_before s (row ∷ rest) msg p q others live = at_test (receives msg row) refl others (λ later. was_live_before (after s row) rest msg p q later live)
  where
    at_test : (b : Bool) → receives msg row ≡ b → (b || list_any (receives msg) rest) ≡ false
        → (list_any (receives msg) rest ≡ false → has_deed (deed.Received msg q) ((after s row).live p) ≡ true) → has_deed (deed.Received msg q) (s.live p) ≡ true
    at_test true e more after_row = absurd (cc)
    at_test false e later after_row = was_live s row msg p q e (after_row later)

past_split : (rows : List Event) (n : ℕ) → past rows ≡ fold after (past (take n rows)) (drop n rows)
past_split rows n = ap past (sym (take-append-drop n rows)) ∙ fold-append after start (take n rows) (drop n rows)

-- a receive is not undone where it stays live
pub stays_received : (rows : List Event) (j p q msg : ℕ) → IsLegal rows → slice_get rows j ≡ Some (Received p q msg) → is_receive_undone rows (Received p q msg) (drop (j + 1) rows) ≡ false → StaysReceived rows (j + 1) p q msg
stays_received rows j p q msg l at e = λ n low.
    let number : j + 1 + (n - (j + 1)) ≡ n = omega (arith, low) in
    let rest : drop (n - (j + 1)) (drop (j + 1) rows) ≡ drop n rows = drop-drop (n - (j + 1)) (j + 1) rows ∙ ap (λ (k : ℕ). drop k rows) number in
    let none = ap (list_any (receives msg)) (sym rest) ∙ any_later msg (drop (j + 1) rows) (n - (j + 1)) parts.1 in
    was_live_before (past (take n rows)) (drop n rows) msg p q none (subst (λ (s : Past). has_deed (deed.Received msg q) (s.live p) ≡ true) (past_split rows n) at_end)
  where
    parts : (has_no_receive (trace_of rows msg) ≡ false) × (list_any (receives msg) (drop (j + 1) rows) ≡ false)
    parts = neither _ _ e

    at_end : has_deed (deed.Received msg q) ((past rows).live p) ≡ true
    at_end = from_not _ (sym (unreceived_is rows msg q p (received_message rows j p q msg l at)) ∙ parts.0)

-- and where it stays live it is not undone
pub received_for_good : (rows : List Event) (j p q msg : ℕ) → IsLegal rows → slice_get rows j ≡ Some (Received p q msg) → StaysReceived rows (j + 1) p q msg → is_receive_undone rows (Received p q msg) (drop (j + 1) rows) ≡ false
received_for_good rows j p q msg l at stays = λ i. no_receive i || none_later i
  where
    whole : take (length rows + (j + 1)) rows ≡ rows
    whole = take_all (length rows + (j + 1)) rows (omega arith)

    low : j + 1 ≤ length rows + (j + 1)
    low = omega arith

    no_receive : has_no_receive (trace_of rows msg) ≡ false
    no_receive =
        let live = subst (λ (log : List Event). has_deed (deed.Received msg q) ((past log).live p) ≡ true) whole (stays (length rows + (j + 1)) low) in
        unreceived_is rows msg q p (received_message rows j p q msg l at) ∙ ap not live

    again : (i : ℕ) (row : Event) → slice_get (drop (j + 1) rows) i ≡ Some row → receives msg row ≡ true → ⊥
    again i (Received p2 q2 m) here test =
        let same : m ≡ msg = grind (arith, nat_tests, test) in
        let there : slice_get rows (j + 1 + i) ≡ Some (Received p2 q2 msg) = get_drop (j + 1) rows i (Received p2 q2 m) here ∙ ap (λ (k : ℕ). Some (Received p2 q2 k)) same in
        let may = may_receive (past (take (j + 1 + i) rows)) p2 q2 msg (next_unbroken rows (j + 1 + i) (Received p2 q2 msg) l there) in
        let one = one_message rows msg q q2 p p2 (received_message rows j p q msg l at) (received_message rows (j + 1 + i) p2 q2 msg l there) in
        let live = stays (j + 1 + i) (omega arith) in
        let moved : has_deed (deed.Received msg q2) ((past (take (j + 1 + i) rows)).live p2) ≡ true = (λ k. has_deed (deed.Received msg (sym one.0 k)) ((past (take (j + 1 + i) rows)).live (sym one.1 k))) ∙ live in
        absurd (let t : true ≡ false = sym moved ∙ may.unreceived in cc)
    again i (Sent p2 to body) here test = absurd (cc)
    again i (Dropped p2 from m) here test = absurd (cc)
    again i (Began p2 k kind) here test = absurd (cc)
    again i (Took p2 k) here test = absurd (cc)
    again i (Ready p2 k) here test = absurd (cc)
    again i (Unwilling p2 k cause) here test = absurd (cc)
    again i (Decided p2 k commit) here test = absurd (cc)
    again i (Closed p2 k) here test = absurd (cc)
    again i (Failed p2) here test = absurd (cc)
    again i (Refused p2 verb cause) here test = absurd (cc)

    none_later : list_any (receives msg) (drop (j + 1) rows) ≡ false
    none_later = elim (cases_Bool (list_any (receives msg) (drop (j + 1) rows))) [
      | inl t ↦ let found = any_at (receives msg) (drop (j + 1) rows) t in absurd (again found.0 found.1 found.2 found.3)
      | inr f ↦ f
    ]

-- an arrow is drawn where the row has one
pub drawn_at : (view : View) (rows : List Event) (s : Shown) (row : Event) → s.is_in_transit ≡ is_sent_in_transit rows s.row row
    → (arrow_at view s row ≢ None) ↔ (has_arrow rows s.row row ≡ true)
drawn_at view rows s (Received p q msg) e = (λ n. refl, λ h none. absurd (cc))
drawn_at view rows s (Dropped p q msg) e = (λ n. refl, λ h none. absurd (cc))
drawn_at view rows s (Sent p q body) e = at_test s.is_in_transit (sym e)
  where
    at_test : (b : Bool) → is_sent_in_transit rows s.row (Sent p q body) ≡ b → ((if b then Some (short_arrow view s p q) else None) ≢ None) ↔ (is_sent_in_transit rows s.row (Sent p q body) ≡ true)
    at_test true same = (λ n. same, λ h none. absurd (cc))
    at_test false same = (λ n. absurd (n refl), λ h. absurd (cc))
drawn_at view rows s (Began p k kind) e = (λ n. absurd (n refl), λ h. absurd (cc))
drawn_at view rows s (Took p k) e = (λ n. absurd (n refl), λ h. absurd (cc))
drawn_at view rows s (Ready p k) e = (λ n. absurd (n refl), λ h. absurd (cc))
drawn_at view rows s (Unwilling p k cause) e = (λ n. absurd (n refl), λ h. absurd (cc))
drawn_at view rows s (Decided p k commit) e = (λ n. absurd (n refl), λ h. absurd (cc))
drawn_at view rows s (Closed p k) e = (λ n. absurd (n refl), λ h. absurd (cc))
drawn_at view rows s (Failed p) e = (λ n. absurd (n refl), λ h. absurd (cc))
drawn_at view rows s (Refused p verb cause) e = (λ n. absurd (n refl), λ h. absurd (cc))
