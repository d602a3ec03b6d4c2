-- The first arrival past the sender's permanent position is what a search for a linking message finds.
use Rattle.std.proofs.Common.{◌≡◌, ℕ, zero, suc, ◌+◌, ◌*◌, ◌<◌, ◌≤◌, nat_le, nat_lt, if◌then◌else◌, Bool, true, false, Option, Some, None, unwrap_or, List, [], ◌∷◌, length, refl, sym, ap, subst, ◌∙◌, arith, inl, inr}
use Rattle.std.specs.List.{slice_get}
use Rattle.std.proofs.lemmas.Bool.{cases_order}
use Rattle.std.proofs.lemmas.Bool.Decides.{nat_tests}
use Rattle.std.proofs.lemmas.Option.{slice_get_within}
use Rattle.kt_base.specs.declared.words.Kind.{Kind}
use Rattle.kt_base.specs.declared.words.Kind.TheVariants.{Checkpoint, Rollback}
use Rattle.kt_spacetime.specs.declared.event.Event.{Event}
use Rattle.kt_spacetime.specs.declared.deeds.Deed.TheVariants as deed
use Rattle.kt_meaning.specs.Past.{past}
use Rattle.kt_meaning.proofs.Items.{some_same}
use Rattle.kt_walk.specs.declared.queue.Arrival.{Arrival}
use Rattle.kt_walk.specs.Arrivals.{AreRisingArrivals}
use Rattle.kt_walk.specs.Pairs.{PairState}
use Rattle.kt_walk.specs.Searching.{IsFoundPast}
use Rattle.kt_walk.specs.WalkOf.{WalkOf}
use Rattle.kt_walk.specs.WalkParts.{WalkParts}
use Rattle.kt_meaning.specs.Linking.{least_link}
use Rattle.kt_certify.proofs.Walked.{pair_at, shown_at, by_checkpoint, by_rollback}
use Rattle.kt_certify.specs.Arriving.{first_past, message_of, message_within, message_within_new, arrived_link, place_of_pair, sender_of, received_before}

-- the first arrival that was sent at a place or later
record FirstPast (arrivals : List Arrival) (from : ℕ) (a : Arrival) : Type 0 where
  place : ℕ
  there : slice_get arrivals place ≡ Some a
  late : from ≤ a.sent
  before : (j : ℕ) (b : Arrival) → j < place → slice_get arrivals j ≡ Some b → b.sent < from

at_most : (a b : ℕ) → nat_le a b ≡ true → a ≤ b
at_most a b e = grind (arith, nat_tests, e)

not_at_most : (a b : ℕ) → nat_le a b ≡ false → b < a
not_at_most a b e = grind (arith, nat_tests, e)

first_is : (arrivals : List Arrival) (from : ℕ) (a : Arrival) → first_past arrivals from ≡ Some a → FirstPast arrivals from a
first_is [] from a e = absurd (cc)
first_is (x ∷ arrivals) from a e = at_test (nat_le from x.sent) refl e (λ f. first_is arrivals from a f)
  where
    later : nat_le from x.sent ≡ false → (h : FirstPast arrivals from a) → (j : ℕ) (b : Arrival) → j < suc (FirstPast.place h) → slice_get (x ∷ arrivals) j ≡ Some b → b.sent < from
    later t h zero b low f = subst (λ (y : Arrival). y.sent < from) (some_same f) (not_at_most from x.sent t)
    later t h (suc j) b low f = h.before j b (omega (arith, low)) f

    at_test : (t : Bool) → nat_le from x.sent ≡ t → (if t then Some x else first_past arrivals from) ≡ Some a → (first_past arrivals from ≡ Some a → FirstPast arrivals from a) → FirstPast (x ∷ arrivals) from a
    at_test true t e rest =
        let same : x ≡ a = some_same e in
        record {
          place = 0;
          there = e;
          late = subst (λ (y : Arrival). from ≤ y.sent) same (at_most from x.sent t);
          before = λ j b low f. absurd (omega (arith, low));
        }
    at_test false t e rest =
        let h = rest e in
        record { place = suc h.place; there = h.there; late = h.late; before = λ j b low f. later t h j b low f }

first_none : (arrivals : List Arrival) (from : ℕ) → first_past arrivals from ≡ None → (j : ℕ) (b : Arrival) → slice_get arrivals j ≡ Some b → b.sent < from
first_none [] from e j b f = absurd (cc)
first_none (x ∷ arrivals) from e j b f = at_test (nat_le from x.sent) refl e j f (λ g i h. first_none arrivals from g i b h)
  where
    at_test : (t : Bool) → nat_le from x.sent ≡ t → (if t then Some x else first_past arrivals from) ≡ None → (j : ℕ) → slice_get (x ∷ arrivals) j ≡ Some b
        → (first_past arrivals from ≡ None → (i : ℕ) → slice_get arrivals i ≡ Some b → b.sent < from) → b.sent < from
    at_test true t e j f rest = absurd (cc)
    at_test false t e zero f rest = subst (λ (y : Arrival). y.sent < from) (some_same f) (not_at_most from x.sent t)
    at_test false t e (suc j) f rest = rest e j f

-- what comes past a position comes at the first of these or after it
after_first : (arrivals : List Arrival) (from : ℕ) (a : Arrival) → AreRisingArrivals arrivals → FirstPast arrivals from a → (j : ℕ) (b : Arrival) → slice_get arrivals j ≡ Some b → from ≤ b.sent → (a.msg ≤ b.msg) × (a.received ≤ b.received)
after_first arrivals from a rising h j b e late = elim (cases_order j h.place) [
  | inl same ↦
      let is : b ≡ a = some_same (sym e ∙ (ap (slice_get arrivals) same ∙ h.there)) in
      (omega (arith, ap (λ (y : Arrival). y.msg) is), omega (arith, ap (λ (y : Arrival). y.received) is))
  | inr other ↦ elim other [
    | inl low ↦ absurd (omega (arith, late, h.before j b low e))
    | inr high ↦
        let x = rising.each h.place j a b high h.there e in
        (omega (arith, x.msg), omega (arith, x.received))
  ]
]

-- what was received before a place
found_within : (arrivals : List Arrival) (from n : ℕ) → AreRisingArrivals arrivals → IsFoundPast arrivals from n (message_within n (first_past arrivals from))
found_within arrivals from n rising = at_first (first_past arrivals from) refl
  where
    at_place : (a : Arrival) → FirstPast arrivals from a → (b : Bool) → nat_lt a.received n ≡ b → IsFoundPast arrivals from n (if b then Some a.msg else None)
    at_place a h true t =
        let low : a.received < n = grind (arith, nat_tests, t) in
        record {
          there = (h.place, a, h.there, refl, h.late, low);
          least = λ j b e late within. (after_first arrivals from a rising h j b e late).0;
        }
    at_place a h false t =
        let high : n ≤ a.received = grind (arith, nat_tests, t) in
        record {
          there = tt;
          least = λ j b e late within. absurd (omega (arith, (after_first arrivals from a rising h j b e late).1, within, high));
        }

    at_first : (o : Option Arrival) → first_past arrivals from ≡ o → IsFoundPast arrivals from n (message_within n o)
    at_first None e = record { there = tt; least = λ j b f late within. absurd (omega (arith, late, first_none arrivals from e j b f)) }
    at_first (Some a) e = at_place a (first_is arrivals from a e) (nat_lt a.received n) refl

found_within_new : (arrivals : List Arrival) (from : ℕ) (new : Option ℕ) → AreRisingArrivals arrivals → IsFoundPast arrivals from (unwrap_or new 0) (message_within_new new (first_past arrivals from))
found_within_new arrivals from (Some n) rising = found_within arrivals from n rising
found_within_new arrivals from None rising = record { there = tt; least = λ j b f late within. absurd (omega (arith, within)) }

-- where all were received before it
found_any : (arrivals : List Arrival) (from n : ℕ) → AreRisingArrivals arrivals → ((k : ℕ) (a : Arrival) → slice_get arrivals k ≡ Some a → a.received < n) → IsFoundPast arrivals from n (message_of (first_past arrivals from))
found_any arrivals from n rising low = at_first (first_past arrivals from) refl
  where
    at_place : (a : Arrival) → FirstPast arrivals from a → IsFoundPast arrivals from n (Some a.msg)
    at_place a h = record {
      there = (h.place, a, h.there, refl, h.late, low h.place a h.there);
      least = λ j b e late within. (after_first arrivals from a rising h j b e late).0;
    }

    at_first : (o : Option Arrival) → first_past arrivals from ≡ o → IsFoundPast arrivals from n (message_of o)
    at_first None e = record { there = tt; least = λ j b f late within. absurd (omega (arith, late, first_none arrivals from e j b f)) }
    at_first (Some a) e = at_place a (first_is arrivals from a e)

-- what a search between two processes finds is the least linking message
pub walk_searched : (w : WalkParts) (rows : List Event) (k : ℕ) (kind : Kind) (p q : ℕ) (v : PairState) (result : Option ℕ) → WalkOf w rows → p < 64 → q < 64 → slice_get w.pair_states (place_of_pair kind p q) ≡ Some v
    → IsFoundPast v.received_from.arrivals ((past rows).permanent (sender_of kind p q)) (received_before (past rows) k kind p q) result → least_link (past rows) k kind p q ≡ result
walk_searched w rows k Checkpoint p q v result h low down e found = sym (by_checkpoint w rows k p q ((past rows).permanent p) (unwrap_or ((past rows).new k q) 0) result h low down refl refl (v, e, found))
walk_searched w rows k Rollback p q v result h low down e found = sym (by_rollback w rows k p q ((past rows).permanent q) (length ((past rows).live p)) result h low down refl refl (v, e, found))

-- what a process received from another is in its live history
received_low : (w : WalkParts) (rows : List Event) (p q : ℕ) (v : PairState) → WalkOf w rows → p < 64 → q < 64 → slice_get w.pair_states (p * 64 + q) ≡ Some v
    → (k : ℕ) (a : Arrival) → slice_get v.received_from.arrivals k ≡ Some a → a.received < length ((past rows).live p)
received_low w rows p q v h low down e k a at =
    let receiver = (pair_at w.pair_states (past rows) p q v h.messages low down e).0 in
    subst (λ (r : ℕ). a.received < length ((past rows).live r)) receiver
    (slice_get_within ((past rows).live v.received_from.receiver) a.received (deed.Received a.msg v.received_from.sender) ((shown_at w.pair_states (past rows) (p * 64 + q) v h.messages e).arrived k a at))

rising_at : (w : WalkParts) (rows : List Event) (i : ℕ) (v : PairState) → WalkOf w rows → slice_get w.pair_states i ≡ Some v → AreRisingArrivals v.received_from.arrivals
rising_at w rows i v h e = (shown_at w.pair_states (past rows) i v h.messages e).rising

-- so that is the first arrival past the sender's permanent position
pub walk_arrived : (w : WalkParts) (rows : List Event) (k : ℕ) (kind : Kind) (p q : ℕ) (v : PairState) → WalkOf w rows → p < 64 → q < 64 → slice_get w.pair_states (place_of_pair kind p q) ≡ Some v
    → least_link (past rows) k kind p q ≡ arrived_link (past rows) k kind p q v.received_from.arrivals
walk_arrived w rows k Checkpoint p q v h low down e = walk_searched w rows k Checkpoint p q v (arrived_link (past rows) k Checkpoint p q v.received_from.arrivals) h low down e
    (found_within_new v.received_from.arrivals ((past rows).permanent p) ((past rows).new k q) (rising_at w rows (q * 64 + p) v h e))
walk_arrived w rows k Rollback p q v h low down e = walk_searched w rows k Rollback p q v (arrived_link (past rows) k Rollback p q v.received_from.arrivals) h low down e
    (found_any v.received_from.arrivals ((past rows).permanent q) (length ((past rows).live p)) (rising_at w rows (p * 64 + q) v h e) (received_low w rows p q v h low down e))
