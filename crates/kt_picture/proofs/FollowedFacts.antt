-- Messages of the window, followed row by row.
use Rattle.std.proofs.Common.{◌≡◌, ◌∙◌, ◌<◌, ◌≤◌, ◌+◌, ◌&&◌, ℕ, zero, suc, ℤ, Bool, true, false, Option, Some, None, List, [], ◌∷◌, ◌++◌, length, cond, refl, sym, ap, subst, arith, add-one}
use Rattle.std.specs.Prelude.{nat_le, ◌==◌}
use Rattle.std.specs.List.{slice_get}
use Rattle.std.specs.Option.{option_map, option_flatten}
use Rattle.std.proofs.lemmas.Bool.Decides.{nat_tests}
use Rattle.std.proofs.lemmas.List.{length_push}
use Rattle.kt_spacetime.specs.declared.event.Event.{Event}
use Rattle.kt_spacetime.specs.declared.event.Event.TheVariants.{Sent, Received, Dropped}
use Rattle.kt_spacetime.specs.declared.deeds.Deed.{Deed}
use Rattle.kt_spacetime.specs.declared.deeds.Deed.TheVariants as deed
use Rattle.kt_rules.specs.declared.traces.Trace.{Trace}
use Rattle.kt_meaning.specs.Past.{Past, past, after}
use Rattle.kt_meaning.specs.Legal.{IsLegal, broken_rule, is_undelivered}
use Rattle.kt_rules.specs.Standing.{parties_of_row}
use Rattle.kt_rules.specs.Traces.{place_of, trace_between, trace_of}
use Rattle.kt_meaning.proofs.Items.{get_seam, some_same}
use Rattle.kt_meaning.proofs.LegalLogs.{kept, legal_last, past_push, rows_length}
use Rattle.kt_meaning.proofs.Lists.{deed_place, get_kept}
use Rattle.kt_meaning.proofs.RowRules.{both, may_receive, not_true}
use Rattle.kt_meaning.proofs.Shown.{at_same}
use Rattle.kt_rules.proofs.Traced.{place_at, place_none}
use Rattle.kt_walk.specs.Arrivals.{message_of}
use Rattle.kt_walk.specs.Keeping.{kept_trace}
use Rattle.kt_walk.proofs.FitFacts.{fit, same_parties}
use Rattle.kt_walk.proofs.Keeping.{kept_between, parties_in}
use Rattle.kt_walk.proofs.KeptFacts.{absent, kept_in_transit}
use Rattle.kt_walk.proofs.WalkLinks.{kept_traced}
use Rattle.kt_walk.proofs.WalkRows.{parties_none, sent_parties, sound}
use Rattle.kt_picture.specs.declared.entry.Message.{Message}
use Rattle.kt_picture.specs.Fates.{receives}
use Rattle.kt_picture.specs.Followed.{IsFollowedAs, if_within, message_in, message_kept, message_taken, trace_after}
use Rattle.kt_picture.proofs.PlaceFacts.{place_kept, place_last}

-- a message goes on to be between the same processes
parties_on : (rows : List Event) (row : Event) (m : ℕ) (x : ℕ × ℕ) → parties_in rows m ≡ Some x → parties_in (rows ++ row ∷ []) m ≡ Some x
parties_on rows row zero x e = absurd (cc)
parties_on rows row (suc n) x e = at_row (slice_get rows n) refl e
  where
    at_row : (o : Option Event) → slice_get rows n ≡ o → option_flatten (option_map parties_of_row o) ≡ Some x → parties_in (rows ++ row ∷ []) (suc n) ≡ Some x
    at_row None is f = absurd (cc)
    at_row (Some y) is f = ap (λ (o : Option Event). option_flatten (option_map parties_of_row o)) (get_kept rows row n y is) ∙ f

numbered : (rows : List Event) (m : ℕ) (x : ℕ × ℕ) → parties_in rows m ≡ Some x → m ≤ (past rows).rows
numbered rows m x e = at_test (nat_le m (length rows)) refl
  where
    at_test : (b : Bool) → nat_le m (length rows) ≡ b → m ≤ (past rows).rows
    at_test true t =
        let low : m ≤ length rows = grind (arith, nat_tests) in
        omega (arith, low, rows_length rows)
    at_test false t =
        let high : length rows < m = grind (arith, nat_tests) in
        absurd (cc (sym (parties_none rows m high) ∙ e))

other_number : (m n : ℕ) → m ≤ n → (m == n + 1) ≡ false
other_number m n l = grind (arith, nat_tests)

flipped : (m n : ℕ) → (n == m) ≡ false → (m == n) ≡ false
flipped m n e = grind (arith, nat_tests)

same_numbers : (m n : ℕ) → (n == m) ≡ true → m ≡ n
same_numbers m n e = grind (arith, nat_tests)

-- the send of a message after one more row
sent_step : (s : Past) (row : Event) (m p q : ℕ) → m ≤ s.rows → place_of (deed.Sent m q) ((after s row).live p) ≡ if_within (place_of (deed.Sent m q) (s.live p)) (length ((after s row).live p))
sent_step s row m p q low =
    place_kept (deed.Sent m q) s row p (λ to. ap (λ (b : Bool). b && (q == to)) (other_number m s.rows low)) (λ r from msg e. refl)

-- a row that receives a message adds the receive to its receiver's history
last_receive : (rows : List Event) (row : Event) (m p q : ℕ) → IsLegal rows → broken_rule (past rows) row ≡ None → parties_in rows m ≡ Some (p, q) → receives m row ≡ true
    → place_of (deed.Received m p) ((after (past rows) row).live q) ≡ Some (length ((after (past rows) row).live q))
last_receive rows (Received x f n) m p q l unbroken between is =
    let s = past rows in
    let G : ℕ → ℕ → ℕ → Type 0 = λ a b c. place_of (deed.Received a b) ((after s (Received x f n)).live c) ≡ Some (length ((after s (Received x f n)).live c)) in
    let number : m ≡ n = same_numbers m n is in
    let may = may_receive s x f n unbroken in
    let one = same_parties rows n p q f x (ap (parties_in rows) (sym number) ∙ between) (sent_parties rows x f n l may.sent) in
    let d = deed.Received n f in
    let base : G n f x = subst (λ (h : List Deed). place_of d h ≡ Some (length h)) (sym (at_same x (s.live x ++ d ∷ []) s.live)) (place_last d (s.live x) (place_none d (s.live x) (absent d (s.live x) may.unreceived))) in
    subst (λ (a : ℕ). G a p q) (sym number) (subst (λ (b : ℕ). G n b q) (sym one.0) (subst (λ (c : ℕ). G n f c) (sym one.1) base))
last_receive rows row m p q l unbroken between is = absurd (cc)

-- the receive of a message after one more row
received_step : (rows : List Event) (row : Event) (m p q : ℕ) → IsLegal rows → broken_rule (past rows) row ≡ None → parties_in rows m ≡ Some (p, q)
    → place_of (deed.Received m p) ((after (past rows) row).live q) ≡ cond (receives m row) (Some (length ((after (past rows) row).live q))) (if_within (place_of (deed.Received m p) ((past rows).live q)) (length ((after (past rows) row).live q)))
received_step rows row m p q l unbroken between = at_test (receives m row) refl
  where
    at_test : (b : Bool) → receives m row ≡ b → place_of (deed.Received m p) ((after (past rows) row).live q) ≡ cond b (Some (length ((after (past rows) row).live q))) (if_within (place_of (deed.Received m p) ((past rows).live q)) (length ((after (past rows) row).live q)))
    at_test true is = last_receive rows row m p q l unbroken between is
    at_test false is =
        place_kept (deed.Received m p) (past rows) row q (λ to. refl)
        (λ r from msg e. ap (λ (b : Bool). b && (p == from)) (flipped m msg (ap (receives m) (sym e) ∙ is)))

-- the trace of a message after one more row
pub followed_step : (rows : List Event) (row : Event) (m : ℕ) (t : Trace) → IsLegal rows → broken_rule (past rows) row ≡ None → trace_of rows m ≡ Some t
    → trace_of (rows ++ row ∷ []) m ≡ Some (trace_after (past (rows ++ row ∷ [])) row m t)
followed_step rows row m t l unbroken e = at_parties (parties_in rows m) refl e
  where
    at_parties : (o : Option (ℕ × ℕ)) → parties_in rows m ≡ o → trace_between (past rows) m o ≡ Some t → trace_of (rows ++ row ∷ []) m ≡ Some (trace_after (past (rows ++ row ∷ [])) row m t)
    at_parties None is f = absurd (cc)
    at_parties (Some (p, q)) is f =
        let s = past rows in
        let before : Trace = record { from = p; to = q; sent = place_of (deed.Sent m q) (s.live p); received = place_of (deed.Received m p) (s.live q) } in
        let sent = sent_step s row m p q (numbered rows m (p, q) is) in
        let received = received_step rows row m p q l unbroken is in
        let stepped : trace_between (after s row) m (Some (p, q)) ≡ Some (trace_after (after s row) row m before) = λ j. Some (record { from = p; to = q; sent = sent j; received = received j }) in
        let moved : trace_between (past (rows ++ row ∷ [])) m (Some (p, q)) ≡ Some (trace_after (past (rows ++ row ∷ [])) row m before) =
        subst (λ (a : Past). trace_between a m (Some (p, q)) ≡ Some (trace_after a row m before)) (sym (past_push rows row)) stepped in
        subst (λ (x : Trace). trace_of (rows ++ row ∷ []) m ≡ Some (trace_after (past (rows ++ row ∷ [])) row m x)) (some_same f)
        (ap (trace_between (past (rows ++ row ∷ [])) m) (parties_on rows row m (p, q) is) ∙ moved)

-- a message in transit is kept
taken_kept : (rows : List Event) (p f m : ℕ) → IsLegal rows → is_undelivered (past rows) p f m ≡ true → (t : Trace) × (kept_trace rows m ≡ Some t)
taken_kept rows p f m l e =
    let s = past rows in
    let parts = both _ _ e in
    let ends = both _ _ parts.0 in
    let there = deed_place (deed.Sent m p) (s.live f) ends.0 in
    let sent = place_at (deed.Sent m p) (s.live f) there.0 there.1 (λ j g. (sound rows l).once f j there.0 (deed.Sent m p) g there.1) in
    let received = place_none (deed.Received m f) (s.live p) (absent (deed.Received m f) (s.live p) (not_true _ ends.1)) in
    let kept = kept_in_transit s m f p (there.0 + 1) (not_true _ parts.1) sent received in
    (record { from = f; to = p; sent = Some (there.0 + 1); received = None }, ap (kept_between s m) (sent_parties rows p f m l ends.0) ∙ kept)

pub taken_followed : (rows : List Event) (p f m : ℕ) → IsLegal rows → is_undelivered (past rows) p f m ≡ true → IsFollowedAs rows (Some m) (message_kept rows m)
taken_followed rows p f m l e =
    let kept = taken_kept rows p f m l e in
    subst (λ (o : Option Trace). IsFollowedAs rows (Some m) (option_map (λ t. record { msg = m; trace = t }) o)) (sym kept.1) (refl, kept_traced rows m kept.0 kept.1)

new_nowhere : (rows : List Event) → IsLegal rows → (d : Deed) (n r : ℕ) → n ≡ (past rows).rows + 1 → message_of d ≡ n → place_of d ((past rows).live r) ≡ None
new_nowhere rows l d n r is number = place_none d ((past rows).live r) (λ i e. absurd (omega (arith, is, number, (fit rows l).numbered r i d e)))

-- the message that the last row sends
pub sent_traced : (rows : List Event) (p to : ℕ) (body : ℤ) → IsLegal rows
    → trace_of (rows ++ Sent p to body ∷ []) (length rows + 1) ≡ Some (record { from = p; to = to; sent = Some (length ((past (rows ++ Sent p to body ∷ [])).live p)); received = None })
sent_traced rows p to body l =
    let s = past rows in
    let row = Sent p to body in
    let log = rows ++ row ∷ [] in
    let n = length rows + 1 in
    let count : n ≡ s.rows + 1 = omega (arith, rows_length rows) in
    let between : parties_in log n ≡ Some (p, to) = ap (parties_in log) (add-one (length rows)) ∙ ap (λ (o : Option Event). option_flatten (option_map parties_of_row o)) (get_seam rows row []) in
    let d = deed.Sent n to in
    let own : place_of d (s.live p ++ d ∷ []) ≡ Some (length (s.live p ++ d ∷ [])) = place_last d (s.live p) (new_nowhere rows l d n p count refl) in
    let numbered : place_of d (s.live p ++ deed.Sent (s.rows + 1) to ∷ []) ≡ Some (length (s.live p ++ deed.Sent (s.rows + 1) to ∷ [])) = subst (λ (k : ℕ). place_of d (s.live p ++ deed.Sent k to ∷ []) ≡ Some (length (s.live p ++ deed.Sent k to ∷ []))) count own in
    let sent : place_of d ((after s row).live p) ≡ Some (length ((after s row).live p)) = subst (λ (h : List Deed). place_of d h ≡ Some (length h)) (sym (at_same p (s.live p ++ deed.Sent (s.rows + 1) to ∷ []) s.live)) numbered in
    let received : place_of (deed.Received n p) ((after s row).live to) ≡ None =
    place_kept (deed.Received n p) s row to (λ q. refl) (λ r from msg e. absurd (cc)) ∙ ap (λ (o : Option ℕ). if_within o (length ((after s row).live to))) (new_nowhere rows l (deed.Received n p) n to count refl) in
    let stepped : trace_between (after s row) n (Some (p, to)) ≡ Some (record { from = p; to = to; sent = Some (length ((after s row).live p)); received = None }) = λ j. Some (record { from = p; to = to; sent = sent j; received = received j }) in
    ap (trace_between (past log) n) between ∙ subst (λ (a : Past). trace_between a n (Some (p, to)) ≡ Some (record { from = p; to = to; sent = Some (length (a.live p)); received = None })) (sym (past_push rows row)) stepped

-- the message that a row takes, as it stands before the row
pub taken_in : (rows : List Event) (row : Event) (m : ℕ) (o : Option Message) → IsLegal rows → broken_rule (past rows) row ≡ None → message_taken row ≡ Some m → o ≡ message_kept rows m → IsFollowedAs rows (message_taken row) o
taken_in rows (Received p f n) m o l unbroken is e =
    let number : n ≡ m = some_same is in
    subst (λ (x : Option Message). IsFollowedAs rows (Some n) x) (sym (e ∙ ap (message_kept rows) (sym number))) (taken_followed rows p f n l (kept (past rows) (Received p f n) unbroken).message)
taken_in rows (Dropped p f n) m o l unbroken is e =
    let number : n ≡ m = some_same is in
    subst (λ (x : Option Message). IsFollowedAs rows (Some n) x) (sym (e ∙ ap (message_kept rows) (sym number))) (taken_followed rows p f n l (kept (past rows) (Dropped p f n) unbroken).message)
taken_in rows row m o l unbroken is e = absurd (cc)

-- a message after one more row
pub followed_more : (rows : List Event) (row : Event) (wanted : Option ℕ) (m : Message) (t : Trace) → IsLegal (rows ++ row ∷ []) → IsFollowedAs rows wanted (Some m) → t ≡ trace_after (past (rows ++ row ∷ [])) row m.msg m.trace
    → IsFollowedAs (rows ++ row ∷ []) wanted (Some (record { msg = m.msg; trace = t }))
followed_more rows row wanted m t l f is =
    let parts = legal_last rows row l in
    (f.0, followed_step rows row m.msg m.trace parts.0 parts.1 f.1 ∙ ap (λ (x : Trace). Some x) (sym is))

-- the message that the last row sends
pub sent_as : (rows : List Event) (row : Event) (p to n : ℕ) (body : ℤ) (m : Message) → IsLegal rows → row ≡ Sent p to body → n ≡ length (rows ++ row ∷ []) → m.msg ≡ n
    → m.trace ≡ record { from = p; to = to; sent = Some (length ((past (rows ++ row ∷ [])).live p)); received = None } → IsFollowedAs (rows ++ row ∷ []) (message_in n row) (Some m)
sent_as rows row p to n body m l is =
    subst (λ (r : Event). n ≡ length (rows ++ r ∷ []) → m.msg ≡ n → m.trace ≡ record { from = p; to = to; sent = Some (length ((past (rows ++ r ∷ [])).live p)); received = None } → IsFollowedAs (rows ++ r ∷ []) (message_in n r) (Some m)) (sym is)
    (λ count number trace.
    let sent = Sent p to body in
    let same : m.msg ≡ length rows + 1 = number ∙ (count ∙ length_push rows sent) in
    (ap (λ (k : ℕ). Some k) (sym number), ap (trace_of (rows ++ sent ∷ [])) same ∙ sent_traced rows p to body l ∙ ap (λ (t : Trace). Some t) (sym trace)))

-- a row that sends no message
pub unsent_in : (n : ℕ) (row : Event) → ((p to : ℕ) (body : ℤ) → row ≡ Sent p to body → ⊥) → message_in n row ≡ message_taken row
unsent_in n (Sent p to body) other = absurd (other p to body refl)
unsent_in n row other = refl
