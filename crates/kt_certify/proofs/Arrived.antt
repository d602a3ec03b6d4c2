-- The least message that links two processes is the least of the arrivals past a permanent position.
use Rattle.std.proofs.Common.{◌≡◌, ℕ, ◌+◌, ◌-◌, ◌<◌, ◌≤◌, Bool, true, false, Option, Some, None, unwrap_or, is_some, ◌&&◌, List, length, take, drop, refl, sym, ap, subst, ◌∙◌, arith}
use Rattle.std.specs.List.{slice_get}
use Rattle.std.proofs.lemmas.Bool.{and_parts}
use Rattle.std.proofs.lemmas.Option.{slice_get_within}
use Rattle.kt_base.specs.declared.words.Kind.TheVariants.{Checkpoint, Rollback}
use Rattle.kt_spacetime.specs.declared.event.Event.{Event}
use Rattle.kt_spacetime.specs.declared.deeds.Deed.TheVariants as deed
use Rattle.kt_meaning.specs.Past.{past}
use Rattle.kt_meaning.specs.Legal.{has_deed}
use Rattle.kt_meaning.specs.Chains.{is_sent_past, is_received_within}
use Rattle.kt_meaning.proofs.Lists.{get_drop, get_take, get_in_take, deed_place, has_from_place}
use Rattle.kt_meaning.proofs.Items.{get_from_drop}
use Rattle.kt_walk.specs.declared.queue.Arrival.{Arrival}
use Rattle.kt_walk.specs.Arrivals.{ReceivedParts, ShowsReceived}
use Rattle.std.specs.Prelude.{find}
use Rattle.std.specs.List.{range_with_len}
use Rattle.kt_meaning.specs.Linking.{links, least_link}
use Rattle.kt_walk.specs.Searching.{IsFoundPast}
use Rattle.kt_meaning.proofs.Search.{least_is, least_found}
use Rattle.kt_meaning.proofs.Links.{link_numbered}

-- a search that must find this, and one that must find nothing
least_by : (test : ℕ → Bool) (bound m : ℕ) → test m ≡ true → 1 ≤ m → m ≤ bound → ((j : ℕ) → test j ≡ true → m ≤ j) → find test (range_with_len 1 bound) ≡ Some m
least_by test bound m passes low high least = least_found test bound m (record { low = low; high = high; passes = passes; first = λ j one less. fails j (test j) refl less })
  where
    fails : (j : ℕ) (b : Bool) → test j ≡ b → j < m → test j ≡ false
    fails j false e less = e
    fails j true e less = absurd (omega (arith, less, least j e))

none_by : (test : ℕ → Bool) (bound : ℕ) → ((j : ℕ) → test j ≡ true → ⊥) → find test (range_with_len 1 bound) ≡ None
none_by test bound never = from (find test (range_with_len 1 bound)) refl
  where
    from : (o : Option ℕ) → find test (range_with_len 1 bound) ≡ o → find test (range_with_len 1 bound) ≡ None
    from None e = e
    from (Some m) e = absurd (never m (least_is test bound m e).passes)

-- the messages from one process to another
module _ (log : List Event) (v : ReceivedParts) (shown : ShowsReceived v (past log)) where
  from : ℕ
  from = (past log).permanent v.sender

  -- a message sent past the permanent position, and received, has its arrival
  sent_place : (msg : ℕ) → is_sent_past (past log) v.sender v.receiver msg ≡ true → (i : ℕ) × (from ≤ i) × (slice_get ((past log).live v.sender) i ≡ Some (deed.Sent msg v.receiver))
  unfolding from
  sent_place msg e =
      let place = deed_place (deed.Sent msg v.receiver) (drop ((past log).permanent v.sender) ((past log).live v.sender)) e in
      ((past log).permanent v.sender + place.0, omega arith, get_drop ((past log).permanent v.sender) ((past log).live v.sender) place.0 (deed.Sent msg v.receiver) place.1)

  arrival_of : (msg j : ℕ) → is_sent_past (past log) v.sender v.receiver msg ≡ true → slice_get ((past log).live v.receiver) j ≡ Some (deed.Received msg v.sender)
      → (k : ℕ) × (a : Arrival) × (slice_get v.arrivals k ≡ Some a) × (a.msg ≡ msg) × (from ≤ a.sent) × (a.received ≡ j)
  unfolding from
  arrival_of msg j e f =
      let place = sent_place msg e in
      let has = shown.all_arrivals msg place.0 j place.2 f (λ low. absurd (omega (arith, low, place.1))) in
      (has.0, record { msg = msg; sent = place.0; received = j }, has.1, refl, place.1, refl)

  is_sent : (k : ℕ) (a : Arrival) → slice_get v.arrivals k ≡ Some a → from ≤ a.sent → is_sent_past (past log) v.sender v.receiver a.msg ≡ true
  unfolding from
  is_sent k a e late =
      has_from_place (deed.Sent a.msg v.receiver) (drop ((past log).permanent v.sender) ((past log).live v.sender)) (a.sent - (past log).permanent v.sender)
      (get_from_drop ((past log).permanent v.sender) ((past log).live v.sender) a.sent (deed.Sent a.msg v.receiver) (shown.live k a e) late)

  both : (a b : Bool) → a ≡ true → b ≡ true → (a && b) ≡ true
  both true b e f = f
  both false b e f = absurd (cc)

  -- of a rollback
  back_arrival : (k msg : ℕ) → links (past log) k Rollback v.receiver v.sender msg ≡ true → (i : ℕ) × (a : Arrival) × (slice_get v.arrivals i ≡ Some a) × (a.msg ≡ msg) × (from ≤ a.sent)
  back_arrival k msg e =
      let parts = and_parts (is_sent_past (past log) v.sender v.receiver msg) (has_deed (deed.Received msg v.sender) ((past log).live v.receiver)) e in
      let place = deed_place (deed.Received msg v.sender) ((past log).live v.receiver) parts.1 in
      let a = arrival_of msg place.0 parts.0 place.1 in
      (a.0, a.1, a.2, a.3, a.4)

  back_link : (k i : ℕ) (a : Arrival) → slice_get v.arrivals i ≡ Some a → from ≤ a.sent → links (past log) k Rollback v.receiver v.sender a.msg ≡ true
  back_link k i a e late =
      both (is_sent_past (past log) v.sender v.receiver a.msg) (has_deed (deed.Received a.msg v.sender) ((past log).live v.receiver)) (is_sent i a e late)
      (has_from_place (deed.Received a.msg v.sender) ((past log).live v.receiver) a.received (shown.arrived i a e))

  -- of a checkpoint, whose receiver has a new position
  within_arrival : (k n msg : ℕ) → (past log).new k v.receiver ≡ Some n → links (past log) k Checkpoint v.sender v.receiver msg ≡ true
      → (i : ℕ) × (a : Arrival) × (slice_get v.arrivals i ≡ Some a) × (a.msg ≡ msg) × (from ≤ a.sent) × (a.received < n)
  within_arrival k n msg new e =
      let parts = and_parts (is_sent_past (past log) v.sender v.receiver msg) (is_some ((past log).new k v.receiver) && is_received_within (past log) k v.receiver v.sender msg) e in
      let more = and_parts (is_some ((past log).new k v.receiver)) (is_received_within (past log) k v.receiver v.sender msg) parts.1 in
      let place = deed_place (deed.Received msg v.sender) (take (unwrap_or ((past log).new k v.receiver) 0) ((past log).live v.receiver)) more.1 in
      let there = get_take (unwrap_or ((past log).new k v.receiver) 0) ((past log).live v.receiver) place.0 (deed.Received msg v.sender) place.1 in
      let position : unwrap_or ((past log).new k v.receiver) 0 ≡ n = ap (λ (o : Option ℕ). unwrap_or o 0) new in
      let a = arrival_of msg place.0 parts.0 there.0 in
      (a.0, a.1, a.2, a.3, a.4, omega (arith, a.5, there.1, position))

  within_link : (k n i : ℕ) (a : Arrival) → (past log).new k v.receiver ≡ Some n → slice_get v.arrivals i ≡ Some a → from ≤ a.sent → a.received < n → links (past log) k Checkpoint v.sender v.receiver a.msg ≡ true
  within_link k n i a new e late low =
      let position : unwrap_or ((past log).new k v.receiver) 0 ≡ n = ap (λ (o : Option ℕ). unwrap_or o 0) new in
      both (is_sent_past (past log) v.sender v.receiver a.msg) (is_some ((past log).new k v.receiver) && is_received_within (past log) k v.receiver v.sender a.msg) (is_sent i a e late)
      (both (is_some ((past log).new k v.receiver)) (is_received_within (past log) k v.receiver v.sender a.msg) (ap (λ (o : Option ℕ). is_some o) new)
      (has_from_place (deed.Received a.msg v.sender) (take (unwrap_or ((past log).new k v.receiver) 0) ((past log).live v.receiver)) a.received
      (get_in_take (unwrap_or ((past log).new k v.receiver) 0) ((past log).live v.receiver) a.received (deed.Received a.msg v.sender) (shown.arrived i a e) (omega (arith, low, position)))))

  -- what a search among the arrivals finds
  pub rollback_searched : (k : ℕ) (result : Option ℕ) → IsFoundPast v.arrivals ((past log).permanent v.sender) (length ((past log).live v.receiver)) result → least_link (past log) k Rollback v.receiver v.sender ≡ result
  unfolding from
  rollback_searched k None h = none_by (links (past log) k Rollback v.receiver v.sender) (past log).rows (λ j f.
      let b = back_arrival k j f in
      h.least b.0 b.1 b.2 b.4 (slice_get_within ((past log).live v.receiver) b.1.received (deed.Received b.1.msg v.sender) (shown.arrived b.0 b.1 b.2)))
  rollback_searched k (Some m) h =
      let a = h.there in
      let passes = subst (λ (x : ℕ). links (past log) k Rollback v.receiver v.sender x ≡ true) a.3 (back_link k a.0 a.1 a.2 a.4) in
      let number = link_numbered log k Rollback v.receiver v.sender m passes in
      least_by (links (past log) k Rollback v.receiver v.sender) (past log).rows m passes number.0 number.1
      (λ j e.
      let b = back_arrival k j e in
      let low : m ≤ b.1.msg = h.least b.0 b.1 b.2 b.4 (slice_get_within ((past log).live v.receiver) b.1.received (deed.Received b.1.msg v.sender) (shown.arrived b.0 b.1 b.2)) in
      omega (arith, b.3, low))

  pub checkpoint_searched : (k : ℕ) (result : Option ℕ) → IsFoundPast v.arrivals ((past log).permanent v.sender) (unwrap_or ((past log).new k v.receiver) 0) result → least_link (past log) k Checkpoint v.sender v.receiver ≡ result
  unfolding from
  checkpoint_searched k result h = at_new ((past log).new k v.receiver) refl result h
    where
      no_position : (past log).new k v.receiver ≡ None → (msg : ℕ) → links (past log) k Checkpoint v.sender v.receiver msg ≡ true → ⊥
      no_position new msg e =
          let parts = and_parts (is_sent_past (past log) v.sender v.receiver msg) (is_some ((past log).new k v.receiver) && is_received_within (past log) k v.receiver v.sender msg) e in
          let more = and_parts (is_some ((past log).new k v.receiver)) (is_received_within (past log) k v.receiver v.sender msg) parts.1 in
          clash (sym (ap (λ (o : Option ℕ). is_some o) new) ∙ more.0)
        where
          clash : false ≡ true → ⊥
          clash x = cc

      at_some : (n : ℕ) → (past log).new k v.receiver ≡ Some n → (result : Option ℕ) → IsFoundPast v.arrivals ((past log).permanent v.sender) n result → least_link (past log) k Checkpoint v.sender v.receiver ≡ result
      at_some n new None h = none_by (links (past log) k Checkpoint v.sender v.receiver) (past log).rows (λ j f.
          let b = within_arrival k n j new f in
          h.least b.0 b.1 b.2 b.4 b.5)
      at_some n new (Some m) h =
          let a = h.there in
          let passes = subst (λ (x : ℕ). links (past log) k Checkpoint v.sender v.receiver x ≡ true) a.3 (within_link k n a.0 a.1 new a.2 a.4 a.5) in
          let number = link_numbered log k Checkpoint v.sender v.receiver m passes in
          least_by (links (past log) k Checkpoint v.sender v.receiver) (past log).rows m passes number.0 number.1
          (λ j e.
          let b = within_arrival k n j new e in
          let low : m ≤ b.1.msg = h.least b.0 b.1 b.2 b.4 b.5 in
          omega (arith, b.3, low))

      at_none : (past log).new k v.receiver ≡ None → (result : Option ℕ) → IsFoundPast v.arrivals ((past log).permanent v.sender) 0 result → least_link (past log) k Checkpoint v.sender v.receiver ≡ result
      at_none new None h = none_by (links (past log) k Checkpoint v.sender v.receiver) (past log).rows (no_position new)
      at_none new (Some m) h = absurd (omega (arith, h.there.5))

      at_new : (o : Option ℕ) → (past log).new k v.receiver ≡ o → (result : Option ℕ) → IsFoundPast v.arrivals ((past log).permanent v.sender) (unwrap_or o 0) result → least_link (past log) k Checkpoint v.sender v.receiver ≡ result
      at_new None new result h = at_none new result h
      at_new (Some n) new result h = at_some n new result h
