-- The places of deeds in live histories.
use Rattle.std.proofs.Common.{◌≡◌, ℕ, zero, suc, ◌+◌, ◌≤◌, ◌<◌, Bool, true, false, Some, None, List, [], ◌∷◌, ◌++◌, length, take, refl, arith, sym, ap, subst, ◌∙◌, inl, inr}
use Rattle.std.specs.Prelude.{ℤ, slice_get, not, nat_lt, ◌==◌, ◌||◌, if◌then◌else◌}
use Rattle.std.proofs.lemmas.Bool.{cases_lt}
use Rattle.std.proofs.lemmas.Bool.Decides.{nat_tests}
use Rattle.std.proofs.lemmas.Option.{slice_get_within}
use Rattle.kt_spacetime.specs.declared.event.Event.{Event}
use Rattle.kt_spacetime.specs.declared.event.Event.TheVariants.{Sent, Received, Dropped, Began, Took, Ready, Unwilling, Decided, Closed, Failed, Refused}
use Rattle.kt_spacetime.specs.declared.deeds.Deed.{Deed}
use Rattle.kt_spacetime.specs.declared.deeds.Deed.TheVariants as deed
use Rattle.kt_meaning.specs.Past.{Past, start, after, past}
use Rattle.kt_meaning.specs.Legal.{IsLegal, broken_rule, is_later}
use Rattle.kt_meaning.specs.Messages.{row_at, IsMessage}
use Rattle.kt_meaning.proofs.LegalLogs.{past_push, past_induction, legal_induction, legal_log_induction, rows_length}
use Rattle.kt_meaning.proofs.RowRules.{may_receive}
use Rattle.kt_meaning.proofs.Updates.{at_one_all}
use Rattle.kt_meaning.proofs.Lists.{get_push, get_kept, get_last, get_take, all_at, deed_place}

-- where a deed of a history after a row comes from: it was there, or it is the row's own, at the end
pub data Comes (s : Past) (row : Event) (p i : ℕ) (d : Deed) : Type 0 where
  old : slice_get (s.live p) i ≡ Some d → Comes s row p i d
  sent : (to : ℕ) (body : ℤ) → row ≡ Sent p to body → d ≡ deed.Sent (s.rows + 1) to → i ≡ length (s.live p) → Comes s row p i d
  received : (from msg : ℕ) → row ≡ Received p from msg → d ≡ deed.Received msg from → i ≡ length (s.live p) → Comes s row p i d

pub comes : (s : Past) (row : Event) (p i : ℕ) (d : Deed) → slice_get ((after s row).live p) i ≡ Some d → Comes s row p i d
comes s (Sent q to body) p i d e =
    at_one_all (λ r l. (i : ℕ) (d : Deed) → slice_get l i ≡ Some d → Comes s (Sent q to body) r i d) q (s.live q ++ deed.Sent (s.rows + 1) to ∷ []) s.live
    (λ i d e. elim (get_push (s.live q) (deed.Sent (s.rows + 1) to) i d e) [ inl a ↦ old a | inr b ↦ sent to body refl (sym b.1) b.0 ])
    (λ r i d e. old e) p i d e
comes s (Received q from msg) p i d e =
    at_one_all (λ r l. (i : ℕ) (d : Deed) → slice_get l i ≡ Some d → Comes s (Received q from msg) r i d) q (s.live q ++ deed.Received msg from ∷ []) s.live
    (λ i d e. elim (get_push (s.live q) (deed.Received msg from) i d e) [ inl a ↦ old a | inr b ↦ received from msg refl (sym b.1) b.0 ])
    (λ r i d e. old e) p i d e
comes s (Decided q k true) p i d e = at_cut (s.ready k p) e
  where
    at_cut : (b : Bool) → slice_get (if b then take (s.permanent p) (s.live p) else s.live p) i ≡ Some d → Comes s (Decided q k true) p i d
    at_cut true e = old (let a = get_take (s.permanent p) (s.live p) i d e in a.0)
    at_cut false e = old e
comes s (Decided q k false) p i d e = old e
comes s (Dropped q from msg) p i d e = old e
comes s (Began q k kind) p i d e = old e
comes s (Took q k) p i d e = old e
comes s (Ready q k) p i d e = old e
comes s (Unwilling q k cause) p i d e = old e
comes s (Closed q k) p i d e = old e
comes s (Failed q) p i d e = old e
comes s (Refused q verb cause) p i d e = old e

-- after every log: the sends of live histories are numbered by their rows, rise, and have one sender each
pub record SentPlaces (s : Past) : Type 0 where
  pub within : (p i m to : ℕ) → slice_get (s.live p) i ≡ Some (deed.Sent m to) → (1 ≤ m) × (m ≤ s.rows)
  pub rises : (p i j m n a b : ℕ) → i < j → slice_get (s.live p) i ≡ Some (deed.Sent m a) → slice_get (s.live p) j ≡ Some (deed.Sent n b) → m < n
  pub one_sender : (p q i j m a b : ℕ) → slice_get (s.live p) i ≡ Some (deed.Sent m a) → slice_get (s.live q) j ≡ Some (deed.Sent m b) → p ≡ q

pub sent_places_start : SentPlaces start
sent_places_start = record {
  within = λ p i m to e. absurd (cc);
  rises = λ p i j m n a b l e f. absurd (cc);
  one_sender = λ p q i j m a b e f. absurd (cc);
}

pub sent_places_keep : (s : Past) (row : Event) → SentPlaces s → SentPlaces (after s row)
sent_places_keep s row g = record {
  within = λ p i m to e. is_within p i m to (comes s row p i (deed.Sent m to) e);
  rises = λ p i j m n a b l e f. rising p i j m n a b l (comes s row p i (deed.Sent m a) e) (comes s row p j (deed.Sent n b) f);
  one_sender = λ p q i j m a b e f. same p q i j m a b (comes s row p i (deed.Sent m a) e) (comes s row q j (deed.Sent m b) f);
}
  where
    is_within : (p i m to : ℕ) → Comes s row p i (deed.Sent m to) → (1 ≤ m) × (m ≤ s.rows + 1)
    is_within p i m to (old e) = let w = g.within p i m to e in (w.0, omega arith)
    is_within p i m to (sent t body r d n) = let same : m ≡ s.rows + 1 = cc in (omega arith, omega arith)
    is_within p i m to (received from msg r d n) = absurd (cc)

    rising : (p i j m n a b : ℕ) → i < j → Comes s row p i (deed.Sent m a) → Comes s row p j (deed.Sent n b) → m < n
    rising p i j m n a b l (old e) (old f) = g.rises p i j m n a b l e f
    rising p i j m n a b l (old e) (sent t body r d k) = let same : n ≡ s.rows + 1 = cc in omega (arith, g.within p i m a e)
    rising p i j m n a b l (sent t body r d k) (old f) = absurd (omega (arith, slice_get_within (s.live p) j (deed.Sent n b) f))
    rising p i j m n a b l (sent t body r d k) (sent u body2 r2 d2 k2) = absurd (omega arith)
    rising p i j m n a b l (received from msg r d k) c = absurd (cc)
    rising p i j m n a b l (old e) (received from msg r d k) = absurd (cc)
    rising p i j m n a b l (sent t body r d k) (received from msg r2 d2 k2) = absurd (cc)

    same : (p q i j m a b : ℕ) → Comes s row p i (deed.Sent m a) → Comes s row q j (deed.Sent m b) → p ≡ q
    same p q i j m a b (old e) (old f) = g.one_sender p q i j m a b e f
    same p q i j m a b (old e) (sent t body r d k) = let same : m ≡ s.rows + 1 = cc in absurd (omega (arith, g.within p i m a e))
    same p q i j m a b (sent t body r d k) (old f) = let same : m ≡ s.rows + 1 = cc in absurd (omega (arith, g.within q j m b f))
    same p q i j m a b (sent t body r d k) (sent u body2 r2 d2 k2) = cc
    same p q i j m a b (received from msg r d k) c = absurd (cc)
    same p q i j m a b (old e) (received from msg r d k) = absurd (cc)
    same p q i j m a b (sent t body r d k) (received from msg r2 d2 k2) = absurd (cc)

pub sent_places : (log : List Event) → SentPlaces (past log)
sent_places log = past_induction SentPlaces sent_places_keep start log sent_places_start

-- two places of which neither is before the other
apart : (i j : ℕ) → (i < j → ⊥) → (j < i → ⊥) → i ≡ j
apart i j a b = elim (cases_lt i j) [ inl l ↦ absurd (a l) | inr l ↦ elim (cases_lt j i) [ inl m ↦ absurd (b m) | inr m ↦ omega arith ] ]

-- a message stands once as sent
pub sent_once : (s : Past) → SentPlaces s → (p q i j m a b : ℕ) → slice_get (s.live p) i ≡ Some (deed.Sent m a) → slice_get (s.live q) j ≡ Some (deed.Sent m b) → (p ≡ q) × (i ≡ j)
sent_once s g p q i j m a b e f = (same, apart i j (λ l. absurd (omega (arith, g.rises p i j m m a b l e here))) (λ l. absurd (omega (arith, g.rises p j i m m b a l here e))))
  where
    same : p ≡ q
    same = g.one_sender p q i j m a b e f

    here : slice_get (s.live p) j ≡ Some (deed.Sent m b)
    here = subst (λ (r : ℕ). slice_get (s.live r) j ≡ Some (deed.Sent m b)) (sym same) f

-- after a legal log: what a process has received from one sender rises
pub record ReceivedPlaces (s : Past) : Type 0 where
  pub rises : (p from i j m n : ℕ) → i < j → slice_get (s.live p) i ≡ Some (deed.Received m from) → slice_get (s.live p) j ≡ Some (deed.Received n from) → m < n

received_places_start : ReceivedPlaces start
received_places_start = record { rises = λ p from i j m n l e f. absurd (cc) }

received_places_keep : (s : Past) (row : Event) → broken_rule s row ≡ None → ReceivedPlaces s → ReceivedPlaces (after s row)
received_places_keep s row unbroken g = record {
  rises = λ p from i j m n l e f. rising p from i j m n l (comes s row p i (deed.Received m from) e) (comes s row p j (deed.Received n from) f);
}
  where
    later : (from m n : ℕ) → (not (from == from) || nat_lt m n) ≡ true → m < n
    later from m n e = grind (arith, nat_tests)

    rising : (p from i j m n : ℕ) → i < j → Comes s row p i (deed.Received m from) → Comes s row p j (deed.Received n from) → m < n
    rising p from i j m n l (old e) (old f) = g.rises p from i j m n l e f
    rising p from i j m n l (old e) (received from2 msg r d k) =
        let same_from : from2 ≡ from = cc in
        let same_msg : msg ≡ n = cc in
        let row_is : row ≡ Received p from n = cc in
        let may = may_receive s p from n (subst (λ (x : Event). broken_rule s x ≡ None) row_is unbroken) in
        later from m n (all_at (is_later from n) (s.live p) i (deed.Received m from) may.later e)
    rising p from i j m n l (received from2 msg r d k) (old f) = absurd (omega (arith, slice_get_within (s.live p) j (deed.Received n from) f))
    rising p from i j m n l (received from2 msg r d k) (received from3 msg3 r3 d3 k3) = absurd (omega arith)
    rising p from i j m n l (sent to body r d k) c = absurd (cc)
    rising p from i j m n l (old e) (sent to body r d k) = absurd (cc)
    rising p from i j m n l (received from2 msg r d k) (sent to body r2 d2 k2) = absurd (cc)

pub received_places : (log : List Event) → IsLegal log → ReceivedPlaces (past log)
received_places log l = legal_induction ReceivedPlaces received_places_keep start log l received_places_start

-- each deed stands at one place of a history
pub deed_once : (s : Past) → SentPlaces s → ReceivedPlaces s → (p i j : ℕ) (d : Deed) → slice_get (s.live p) i ≡ Some d → slice_get (s.live p) j ≡ Some d → i ≡ j
deed_once s g h p i j (deed.Sent m to) e f = let a = sent_once s g p p i j m to to e f in a.1
deed_once s g h p i j (deed.Received m from) e f = apart i j (λ l. absurd (omega (arith, h.rises p from i j m m l e f))) (λ l. absurd (omega (arith, h.rises p from j i m m l f e)))

-- after a legal log: the deeds of live histories have their rows
pub record Rowed (log : List Event) : Type 0 where
  pub sent : (p i m to : ℕ) → slice_get ((past log).live p) i ≡ Some (deed.Sent m to) → IsMessage log m p to
  pub received : (p i m from : ℕ) → slice_get ((past log).live p) i ≡ Some (deed.Received m from) → IsMessage log m from p

row_kept : (log : List Event) (row : Event) (m : ℕ) (x : Event) → row_at log m ≡ Some x → row_at (log ++ row ∷ []) m ≡ Some x
row_kept log row zero x e = absurd (cc)
row_kept log row (suc m) x e = get_kept log row m x e

row_last : (log : List Event) (row : Event) (m : ℕ) → m ≡ length log + 1 → row_at (log ++ row ∷ []) m ≡ Some row
row_last log row zero e = absurd (omega arith)
row_last log row (suc m) e = let n : m ≡ length log = omega arith in rw n (get_last log row)

rowed_start : Rowed []
rowed_start = record { sent = λ p i m to e. absurd (cc); received = λ p i m from e. absurd (cc) }

rowed_keep : (log : List Event) (row : Event) → IsLegal log → broken_rule (past log) row ≡ None → Rowed log → Rowed (log ++ row ∷ [])
rowed_keep log row l unbroken g = record {
  sent = λ p i m to e. is_sent p i m to (comes (past log) row p i (deed.Sent m to) (rw (past_push log row) at e));
  received = λ p i m from e. is_received p i m from (comes (past log) row p i (deed.Received m from) (rw (past_push log row) at e));
}
  where
    is_sent : (p i m to : ℕ) → Comes (past log) row p i (deed.Sent m to) → IsMessage (log ++ row ∷ []) m p to
    is_sent p i m to (old e) = let a = g.sent p i m to e in (a.0, row_kept log row m (Sent p to a.0) a.1)
    is_sent p i m to (sent t body r d n) =
        let same_to : t ≡ to = cc in
        let number : m ≡ (past log).rows + 1 = cc in
        let row_is : row ≡ Sent p to body = cc in
        (body, row_last log row m (omega (arith, rows_length log)) ∙ ap (λ (x : Event). Some x) row_is)
    is_sent p i m to (received from msg r d n) = absurd (cc)

    is_received : (p i m from : ℕ) → Comes (past log) row p i (deed.Received m from) → IsMessage (log ++ row ∷ []) m from p
    is_received p i m from (old e) = let a = g.received p i m from e in (a.0, row_kept log row m (Sent from p a.0) a.1)
    is_received p i m from (received from2 msg r d n) =
        let same_from : from2 ≡ from = cc in
        let same_msg : msg ≡ m = cc in
        let row_is : row ≡ Received p from m = cc in
        let may = may_receive (past log) p from m (subst (λ (x : Event). broken_rule (past log) x ≡ None) row_is unbroken) in
        let place = deed_place (deed.Sent m p) ((past log).live from) may.sent in
        let a = g.sent from place.0 m p place.1 in
        (a.0, row_kept log row m (Sent from p a.0) a.1)
    is_received p i m from (sent t body r d n) = absurd (cc)

pub rowed : (log : List Event) → IsLegal log → Rowed log
rowed log l = legal_log_induction Rowed rowed_start rowed_keep log l

-- a message has one sender and one receiver
pub one_message : (log : List Event) (m p q a b : ℕ) → IsMessage log m p a → IsMessage log m q b → (p ≡ q) × (a ≡ b)
one_message log m p q a b h k =
    let same : Some (Sent p a h.0) ≡ Some (Sent q b k.0) = sym h.1 ∙ k.1 in
    (cc, cc)

-- a message is received once
pub received_once : (log : List Event) → IsLegal log → (p q i j m a b : ℕ) → slice_get ((past log).live p) i ≡ Some (deed.Received m a) → slice_get ((past log).live q) j ≡ Some (deed.Received m b) → (p ≡ q) × (i ≡ j)
received_once log l p q i j m a b e f =
    let g = rowed log l in
    let one = one_message log m a b p q (g.received p i m a e) (g.received q j m b f) in
    let here : slice_get ((past log).live p) j ≡ Some (deed.Received m b) = subst (λ (r : ℕ). slice_get ((past log).live r) j ≡ Some (deed.Received m b)) (sym one.1) f in
    let there : slice_get ((past log).live p) j ≡ Some (deed.Received m a) = subst (λ (r : ℕ). slice_get ((past log).live p) j ≡ Some (deed.Received m r)) (sym one.0) here in
    (one.1, deed_once (past log) (sent_places log) (received_places log l) p i j (deed.Received m a) e there)
