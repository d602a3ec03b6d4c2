-- What was received last in a permanent part that grows.
use Rattle.std.proofs.Common.{◌≡◌, ℕ, ◌<◌, ◌≤◌, ◌⊎◌, Option, Some, None, List, take, subst, ◌∙◌, ap, arith, inl, inr}
use Rattle.std.specs.Prelude.{IfSome}
use Rattle.std.specs.List.{slice_get}
use Rattle.kt_spacetime.specs.declared.deeds.Deed.{Deed}
use Rattle.kt_spacetime.specs.declared.deeds.Deed.TheVariants as deed
use Rattle.kt_meaning.proofs.Lists.{get_take, get_in_take}
use Rattle.kt_walk.specs.declared.queue.Arrival.{Arrival}
use Rattle.kt_walk.specs.declared.received_from.Undone.{Undone}
use Rattle.kt_walk.specs.Arrivals.{ReceivedParts, IsReceivedFrom}
use Rattle.kt_walk.proofs.ItemPlaces.{place_or_lacks}
use Rattle.kt_walk.specs.LastReceived.{IsAtLeast, IsLastFrom}
use Rattle.kt_walk.proofs.LastFacts.{IsFound, IsNoLess, last_grows}

-- a number is the one before, or that of an arrival or of a message whose send was undone, received before a place
abbrev pub IsOneOf : ReceivedParts → ℕ → Option ℕ → ℕ → Type 0
IsOneOf v n o m =
    (o ≡ Some m)
    ⊎ (((k : ℕ) × (a : Arrival) × (slice_get v.arrivals k ≡ Some a) × (a.msg ≡ m) × (a.received < n))
    ⊎ ((k : ℕ) × (u : Undone) × (slice_get v.undone k ≡ Some u) × (u.msg ≡ m) × (u.received < n)))

pub permanent_grows : (v : ReceivedParts) (received sent : List Deed) (i j n : ℕ) (o next : Option ℕ) → i ≤ n → IsReceivedFrom v received sent i j → IsLastFrom o v.sender (take i received)
    → IfSome next (IsOneOf v n o) → IsNoLess next o → ((k : ℕ) (a : Arrival) → slice_get v.arrivals k ≡ Some a → a.received < n → IsAtLeast next a.msg)
    → ((k : ℕ) (u : Undone) → slice_get v.undone k ≡ Some u → u.received < n → IsAtLeast next u.msg) → IsLastFrom next v.sender (take n received)
permanent_grows v received sent i j n o next le h before one no_less arrivals undone =
    last_grows o next v.sender i n received le before (found next one) no_less since
  where
    found_before : (m : ℕ) → o ≡ Some m → (x : ℕ) × (slice_get (take n received) x ≡ Some (deed.Received m v.sender))
    found_before m e =
        let there = subst (λ (x : Option ℕ). IsFound x v.sender (take i received)) e before.there in
        let whole = get_take i received there.0 (deed.Received m v.sender) there.1 in
        (there.0, get_in_take n received there.0 (deed.Received m v.sender) whole.0 (omega (arith, le, whole.1)))

    found : (x : Option ℕ) → IfSome x (IsOneOf v n o) → IsFound x v.sender (take n received)
    found None t = tt
    found (Some m) t = elim t [
      | inl same ↦ found_before m same
      | inr other ↦ elim other [
        | inl a ↦
            let at = h.arrived a.0 a.1 a.2 in
            (a.1.received, get_in_take n received a.1.received (deed.Received m v.sender) (at ∙ ap (λ (x : ℕ). Some (deed.Received x v.sender)) a.3) a.4)
        | inr u ↦
            let at = h.there u.0 u.1 u.2 in
            (u.1.received, get_in_take n received u.1.received (deed.Received m v.sender) (at ∙ ap (λ (x : ℕ). Some (deed.Received x v.sender)) u.3) u.4)
      ]
    ]

    since : (m x : ℕ) → i ≤ x → x < n → slice_get received x ≡ Some (deed.Received m v.sender) → IsAtLeast next m
    since m x high low e = elim (place_or_lacks (deed.Sent m v.receiver) sent) [
      | inl there ↦
          let has = h.all_arrivals m there.0 x there.1 e (λ l. high) in
          arrivals has.0 (record { msg = m; sent = there.0; received = x }) has.1 low
      | inr lacks ↦
          let has = h.all_undone m x e lacks in
          undone has.0 (record { msg = m; received = x }) has.1 low
    ]
