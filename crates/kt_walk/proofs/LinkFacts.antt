-- A search among the messages from one process to another.
use Rattle.std.proofs.Common.{◌≡◌, ℕ, ◌+◌, ◌*◌, ◌/◌, ◌%◌, ◌≤◌, ◌<◌, Bool, true, false, Option, Some, None, List, [], length, refl, sym, subst, ◌∙◌, inl, inr}
use Rattle.std.specs.Prelude.{IfSome}
use Rattle.std.specs.List.{slice_get}
use Rattle.std.proofs.lemmas.Bool.{cases_lt}
use Rattle.kt_spacetime.specs.declared.event.Event.{Event}
use Rattle.kt_meaning.specs.Past.{Past, past}
use Rattle.kt_meaning.proofs.Items.{item_there}
use Rattle.kt_rules.specs.Orphans.{IsAtMost}
use Rattle.kt_walk.specs.declared.queue.Arrival.{Arrival}
use Rattle.kt_walk.specs.Arrivals.{AreRisingArrivals}
use Rattle.kt_walk.specs.Pairs.{PairState, received_from_of, is_idle, AreInUse, ShowsPairs, new_pair_state, with_new}
use Rattle.kt_walk.specs.Peers.{is_in}
use Rattle.kt_walk.specs.Searching.{IsFoundPast}
use Rattle.kt_walk.specs.WalkOf.{WalkOf}
use Rattle.kt_walk.specs.WalkParts.{WalkParts}
use Rattle.kt_walk.proofs.ItemPlaces.{mapped_get}
use Rattle.kt_walk.proofs.NewPairs.{there, not_there}
use Rattle.kt_walk.proofs.PairsFacts.{both_none}
use Rattle.kt_walk.proofs.ReceivedFacts.{no_item}

-- where arrivals rise
there_where : (arrivals : List Arrival) (sent received : ℕ) (result : Option ℕ) → IfSome result (λ msg. AreRisingArrivals arrivals → (k : ℕ) × (a : Arrival) × (slice_get arrivals k ≡ Some a) × (a.msg ≡ msg) × (sent ≤ a.sent) × (a.received < received))
    → AreRisingArrivals arrivals → IfSome result (λ msg. (k : ℕ) × (a : Arrival) × (slice_get arrivals k ≡ Some a) × (a.msg ≡ msg) × (sent ≤ a.sent) × (a.received < received))
there_where arrivals sent received None found rising = tt
there_where arrivals sent received (Some msg) found rising = found rising

pub found_past : (arrivals : List Arrival) (sent received : ℕ) (result : Option ℕ) → IfSome result (λ msg. AreRisingArrivals arrivals → (k : ℕ) × (a : Arrival) × (slice_get arrivals k ≡ Some a) × (a.msg ≡ msg) × (sent ≤ a.sent) × (a.received < received))
    → ((k : ℕ) (a : Arrival) → AreRisingArrivals arrivals → slice_get arrivals k ≡ Some a → sent ≤ a.sent → a.received < received → IsAtMost result a.msg) → AreRisingArrivals arrivals → IsFoundPast arrivals sent received result
found_past arrivals sent received result found least rising = record {
  there = there_where arrivals sent received result found rising;
  least = λ k a e. least k a rising e;
}

-- in a pair that stands at its place
pub found_link : (pair_states shown : List PairState) (s : Past) (i place sent received : ℕ) (v : PairState) (result : Option ℕ) → pair_states ≡ shown → i ≡ place → slice_get pair_states i ≡ Some v → (AreRisingArrivals v.received_from.arrivals → IsFoundPast v.received_from.arrivals sent received result)
    → ShowsPairs shown s → (v : PairState) × (slice_get shown place ≡ Some v) × IsFoundPast v.received_from.arrivals sent received result
found_link pair_states shown s i place sent received v result same index at found h =
    let e : slice_get shown place ≡ Some v = (λ j. slice_get (sym same j) (sym index j)) ∙ at in
    let rising : AreRisingArrivals v.received_from.arrivals = (h.arrivals.each place v.received_from (mapped_get received_from_of shown place v e)).rising in
    (v, e, found rising)

-- in a walk with these pairs
pub found_here : (pair_states : List PairState) (w : WalkParts) (rows : List Event) (from to sent received : ℕ) (result : Option ℕ) → w.pair_states ≡ pair_states → WalkOf w rows
    → ((s : Past) → ShowsPairs pair_states s → (v : PairState) × (slice_get pair_states (to * 64 + from) ≡ Some v) × IsFoundPast v.received_from.arrivals sent received result)
    → (v : PairState) × (slice_get w.pair_states (to * 64 + from) ≡ Some v) × IsFoundPast v.received_from.arrivals sent received result
found_here pair_states w rows from to sent received result same h known =
    subst (λ (x : List PairState). (v : PairState) × (slice_get x (to * 64 + from) ≡ Some v) × IsFoundPast v.received_from.arrivals sent received result) (sym same)
    (known (past rows) (subst (λ (x : List PairState). ShowsPairs x (past rows)) same h.messages))

-- in a pair that is not in use nothing is found
pub none_linked : (made now : List PairState) (used : List ℕ) (n place : ℕ) → with_new made ≡ now → n ≡ place → n < 4096 → AreInUse made used → is_in used n ≡ false → (sent received : ℕ)
    → (v : PairState) × (slice_get now place ≡ Some v) × IsFoundPast v.received_from.arrivals sent received None
none_linked made now used n place same index low h none sent received = elim (cases_lt n (length made)) [
  | inl within ↦
      let item = item_there made n within in
      (item.0, moved item.0 (there made n item.0 item.1), nothing item.0.received_from.arrivals (empty item.0 item.1 (is_idle item.0) refl))
  | inr past ↦ (new_pair_state (n / 64) (n % 64), moved (new_pair_state (n / 64) (n % 64)) (not_there made n past low), nothing [] refl)
]
  where
    moved : (v : PairState) → slice_get (with_new made) n ≡ Some v → slice_get now place ≡ Some v
    moved v at = (λ j. slice_get (sym same j) (sym index j)) ∙ at

    nothing : (arrivals : List Arrival) → length arrivals ≡ 0 → IsFoundPast arrivals sent received None
    nothing arrivals e = record { there = tt; least = λ k a at late early. absurd (no_item arrivals k a e at) }

    empty : (v : PairState) → slice_get made n ≡ Some v → (b : Bool) → is_idle v ≡ b → length v.received_from.arrivals ≡ 0
    empty v at true e = (both_none v e).0
    empty v at false e = let busy = h.each n v at e in absurd (cc (none, busy))
