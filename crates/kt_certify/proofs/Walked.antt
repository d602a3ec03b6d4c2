-- What a walk's search finds is the least message that links two processes.
use Rattle.std.proofs.Common.{◌≡◌, ℕ, ◌+◌, ◌*◌, ◌<◌, Option, Some, unwrap_or, List, length, sym, ap, subst, ◌∙◌, arith}
use Rattle.std.specs.List.{slice_get}
use Rattle.kt_base.specs.declared.words.Kind.TheVariants.{Checkpoint, Rollback}
use Rattle.kt_spacetime.specs.declared.event.Event.{Event}
use Rattle.kt_meaning.specs.Past.{Past, past}
use Rattle.kt_walk.specs.declared.queue.Arrival.{Arrival}
use Rattle.kt_walk.specs.Arrivals.{ShowsReceived}
use Rattle.kt_walk.specs.Pairs.{PairState, received_from_of, ShowsPairs}
use Rattle.kt_walk.specs.Searching.{IsFoundPast}
use Rattle.kt_walk.specs.WalkOf.{WalkOf}
use Rattle.kt_walk.specs.WalkParts.{WalkParts}
use Rattle.kt_walk.proofs.ItemPlaces.{mapped_get}
use Rattle.kt_meaning.specs.Linking.{least_link}
use Rattle.kt_certify.proofs.Arrived.{rollback_searched, checkpoint_searched}

-- the receiver and the sender of the pair at a place
pub pair_at : (pair_states : List PairState) (s : Past) (receiver sender : ℕ) (v : PairState) → ShowsPairs pair_states s → receiver < 64 → sender < 64 → slice_get pair_states (receiver * 64 + sender) ≡ Some v → (v.received_from.receiver ≡ receiver) × (v.received_from.sender ≡ sender)
pair_at pair_states s receiver sender v h low down e =
    let there = mapped_get received_from_of pair_states (receiver * 64 + sender) v e in
    let place = h.arrivals.by_pair.place (receiver * 64 + sender) v.received_from there in
    let r = h.arrivals.by_pair.receiver (receiver * 64 + sender) v.received_from there in
    let t = h.arrivals.by_pair.sender (receiver * 64 + sender) v.received_from there in
    (omega (arith, place, r, t, low, down), omega (arith, place, r, t, low, down))

pub shown_at : (pair_states : List PairState) (s : Past) (i : ℕ) (v : PairState) → ShowsPairs pair_states s → slice_get pair_states i ≡ Some v → ShowsReceived v.received_from s
shown_at pair_states s i v h e = h.arrivals.each i v.received_from (mapped_get received_from_of pair_states i v e)

-- a search between other places that are the same
found_at : (arrivals : List Arrival) (sent before bound within : ℕ) (result : Option ℕ) → sent ≡ before → bound ≡ within → IsFoundPast arrivals sent bound result → IsFoundPast arrivals before within result
found_at arrivals sent before bound within result same also found =
    subst (λ (x : ℕ). IsFoundPast arrivals x within result) same (subst (λ (x : ℕ). IsFoundPast arrivals sent x result) also found)

pub by_checkpoint : (w : WalkParts) (rows : List Event) (k p q sent bound : ℕ) (result : Option ℕ) → WalkOf w rows → p < 64 → q < 64 → sent ≡ (past rows).permanent p → bound ≡ unwrap_or ((past rows).new k q) 0
    → (v : PairState) × (slice_get w.pair_states (q * 64 + p) ≡ Some v) × IsFoundPast v.received_from.arrivals sent bound result → result ≡ least_link (past rows) k Checkpoint p q
by_checkpoint w rows k p q sent bound result h low down permanent within found =
    let v = found.0.received_from in
    let pair = pair_at w.pair_states (past rows) q p found.0 h.messages down low found.1 in
    let shown = shown_at w.pair_states (past rows) (q * 64 + p) found.0 h.messages found.1 in
    let here = found_at v.arrivals sent ((past rows).permanent v.sender) bound (unwrap_or ((past rows).new k v.receiver) 0) result
    (permanent ∙ ap (past rows).permanent (sym pair.1)) (within ∙ ap (λ (x : ℕ). unwrap_or ((past rows).new k x) 0) (sym pair.0)) found.2 in
    sym (checkpoint_searched rows v shown k result here) ∙ (λ i. least_link (past rows) k Checkpoint (pair.1 i) (pair.0 i))

pub by_rollback : (w : WalkParts) (rows : List Event) (k p q sent bound : ℕ) (result : Option ℕ) → WalkOf w rows → p < 64 → q < 64 → sent ≡ (past rows).permanent q → bound ≡ length ((past rows).live p)
    → (v : PairState) × (slice_get w.pair_states (p * 64 + q) ≡ Some v) × IsFoundPast v.received_from.arrivals sent bound result → result ≡ least_link (past rows) k Rollback p q
by_rollback w rows k p q sent bound result h low down permanent within found =
    let v = found.0.received_from in
    let pair = pair_at w.pair_states (past rows) p q found.0 h.messages low down found.1 in
    let shown = shown_at w.pair_states (past rows) (p * 64 + q) found.0 h.messages found.1 in
    let here = found_at v.arrivals sent ((past rows).permanent v.sender) bound (length ((past rows).live v.receiver)) result
    (permanent ∙ ap (past rows).permanent (sym pair.1)) (within ∙ ap (λ (x : ℕ). length ((past rows).live x)) (sym pair.0)) found.2 in
    sym (rollback_searched rows v shown k result here) ∙ (λ i. least_link (past rows) k Rollback (pair.0 i) (pair.1 i))
