-- The pairs that are there, and the others, which have no message yet.
use Rattle.std.proofs.Common.{◌≡◌, ℕ, zero, suc, ◌+◌, ◌-◌, ◌*◌, ◌/◌, ◌%◌, ◌<◌, ◌≤◌, ◌⊎◌, true, false, Option, None, Some, List, [], ◌∷◌, ◌++◌, length, length-append, map, set, get_or, refl, sym, ap, ◌∙◌, subst, arith, inl, inr}
use Rattle.std.specs.List.{slice_get}
use Rattle.std.specs.Prelude.{IfSome, IfNone}
use Rattle.std.specs.Slice.{IsItemAt}
use Rattle.std.specs.Borrow.{Bor}
use Rattle.std.proofs.lemmas.Bool.{cases_lt}
use Rattle.std.proofs.lemmas.List.{append_assoc, set-append_left, length-set}
use Rattle.std.proofs.lemmas.Option.{slice_get_within, slice_get_read, slice_get-get_or}
use Rattle.kt_meaning.specs.Past.{start}
use Rattle.kt_meaning.proofs.Items.{get_left, get_right, some_same}
use Rattle.kt_rules.specs.declared.traces.Trace.{Trace}
use Rattle.kt_walk.specs.Arrivals.{ReceivedParts, IsByPair, ShowsReceived, AreRisingArrivals, Has}
use Rattle.kt_walk.specs.declared.in_transit.Sent.{Sent}
use Rattle.kt_walk.specs.TransitList.{IsBySend}
use Rattle.kt_walk.specs.TraceEntries.{entries_of, entries_of_all}
use Rattle.kt_walk.specs.Pairs.{PairState, received_from_of, is_idle, AreInUse, IsStillUncovered, ShowsTransit, ShowsPairs, new_pair_state, new_pair_states, with_new}
use Rattle.kt_walk.proofs.ItemPlaces.{get_mapped}
use Rattle.kt_walk.proofs.PairsFacts.{mapped_length, busy_way, IsOrphanIn}

length_new : (n k : ℕ) → length (new_pair_states n k) ≡ k
unfolding new_pair_states
length_new n zero = refl
length_new n (suc k) = ap suc (length_new (n + 1) k)

-- those at a place
at_place : ℕ → PairState
at_place i = new_pair_state (i / 64) (i % 64)

get_new : (n k i : ℕ) → i < k → slice_get (new_pair_states n k) i ≡ Some (at_place (n + i))
unfolding new_pair_states at_place
get_new n zero i l = absurd (omega (arith, l))
get_new n (suc k) zero l =
    let same : n ≡ n + 0 = omega arith in
    ap (λ (x : ℕ). Some (new_pair_state (x / 64) (x % 64))) same
get_new n (suc k) (suc i) l =
    let same : n + 1 + i ≡ n + suc i = omega arith in
    get_new (n + 1) k i (omega (arith, l)) ∙ ap (λ (x : ℕ). Some (new_pair_state (x / 64) (x % 64))) same

length_with : (made : List PairState) → length (with_new made) ≡ length made + (4096 - length made)
length_with made = omega (arith, length-append made (new_pair_states (length made) (4096 - length made)), length_new (length made) (4096 - length made))

pub few_there : (made : List PairState) → IsByPair (map received_from_of (with_new made)) → length made ≤ 4096
few_there made pairs = omega (arith, pairs.count, mapped_length received_from_of (with_new made), length_with made)

-- a pair that is there
pub there : (made : List PairState) (i : ℕ) (v : PairState) → slice_get made i ≡ Some v → slice_get (with_new made) i ≡ Some v
there made i v at = get_left made (new_pair_states (length made) (4096 - length made)) i (slice_get_within made i v at) ∙ at

-- and one that is not
pub not_there : (made : List PairState) (i : ℕ) → length made ≤ i → i < 4096 → slice_get (with_new made) i ≡ Some (new_pair_state (i / 64) (i % 64))
unfolding at_place
not_there made i past low =
    let same : length made + (i - length made) ≡ i = omega (arith, past) in
    get_right made (new_pair_states (length made) (4096 - length made)) (i - length made) i (omega (arith, past))
    ∙ (get_new (length made) (4096 - length made) (i - length made) (omega (arith, past, low))
    ∙ ap (λ (x : ℕ). Some (new_pair_state (x / 64) (x % 64))) same)

pub there_or_new : (made : List PairState) (i : ℕ) (v : PairState) → slice_get (with_new made) i ≡ Some v → (slice_get made i ≡ Some v) ⊎ ((length made ≤ i) × (i < 4096) × (v ≡ new_pair_state (i / 64) (i % 64)))
there_or_new made i v at = elim (cases_lt i (length made)) [
  | inl low ↦ inl (sym (get_left made (new_pair_states (length made) (4096 - length made)) i low) ∙ at)
  | inr past ↦
      let low : i < 4096 = omega (arith, past, slice_get_within (with_new made) i v at, length_with made) in
      inr (past, low, some_same (sym at ∙ not_there made i past low))
]

-- one that has a message is there
pub there_if_busy : (made : List PairState) (i : ℕ) (v : PairState) → slice_get (with_new made) i ≡ Some v → is_idle v ≡ false → slice_get made i ≡ Some v
there_if_busy made i v at busy = elim (there_or_new made i v at) [
  | inl here ↦ here
  | inr new ↦ let clash : true ≡ false = sym (ap is_idle new.2) ∙ busy in absurd (cc clash)
]

pub there_if_found : (made now : List PairState) (n place k : ℕ) (m : Sent) → IsByPair (map received_from_of (with_new made)) → with_new made ≡ now → n ≡ place → n < 4096
    → ((v : PairState) → slice_get now place ≡ Some v → slice_get v.in_transit k ≡ Some m) → n < length made
there_if_found made now n place k m pairs same index low found =
    let v : PairState = get_or (with_new made) n (new_pair_state 0 0) in
    let at : slice_get (with_new made) n ≡ Some v = slice_get-get_or (with_new made) n (new_pair_state 0 0) (omega (arith, low, pairs.count, mapped_length received_from_of (with_new made))) in
    slice_get_within made n v (there_if_busy made n v at (busy_way v k m (found v ((λ i. slice_get (sym same i) (sym index i)) ∙ at))))

-- what a look at a place gives
pub got_some : (made now : List PairState) (n place : ℕ) (r : Option (Bor PairState)) → with_new made ≡ now → n ≡ place → IsItemAt made n r → IfSome r (λ v. slice_get now place ≡ Some v.now)
got_some made now n place None same index h = tt
got_some made now n place (Some x) same index h =
    (λ i. slice_get (sym same i) (sym index i)) ∙ there made n x.now (slice_get_read made (length made) n x.now refl h.3.0 h.1)

pub got_none : (made now : List PairState) (n p q : ℕ) (r : Option (Bor PairState)) → with_new made ≡ now → n ≡ p * 64 + q → p < 64 → q < 64 → IsItemAt made n r → IfNone r (slice_get now (p * 64 + q) ≡ Some (new_pair_state p q))
got_none made now n p q (Some x) same index low_p low_q h = tt
got_none made now n p q None same index low_p low_q h =
    let receiver : n / 64 ≡ p = omega (arith, index, low_q) in
    let sender : n % 64 ≡ q = omega (arith, index, low_q) in
    (λ i. slice_get (sym same i) (sym index i)) ∙ (not_there made n h.3 (omega (arith, index, low_p, low_q)) ∙ (λ i. Some (new_pair_state (receiver i) (sender i))))

-- one that is there is changed
pub with_set : (made : List PairState) (i : ℕ) (w : PairState) → i < length made → set (with_new made) i w ≡ with_new (set made i w)
with_set made i w low =
    set-append_left made (new_pair_states (length made) (4096 - length made)) i w low
    ∙ ap (λ (n : ℕ). set made i w ++ new_pair_states n (4096 - n)) (sym (length-set made i w))

-- the next one is made
pub with_next : (made : List PairState) (v : PairState) → length made < 4096 → v ≡ new_pair_state (length made / 64) (length made % 64) → with_new (made ++ v ∷ []) ≡ with_new made
unfolding new_pair_states
with_next made v low is =
    append_assoc made (v ∷ []) (new_pair_states (length (made ++ v ∷ [])) (4096 - length (made ++ v ∷ [])))
    ∙ ap (λ (l : List PairState). made ++ l)
    ((λ i. is i ∷ new_pair_states (more i) (4096 - more i)) ∙ ap (new_pair_states (length made)) back)
  where
    more : length (made ++ v ∷ []) ≡ length made + 1
    more = omega (arith, length-append made (v ∷ []))

    back : suc (4096 - (length made + 1)) ≡ 4096 - length made
    back = omega (arith, low)

-- those in use are there
pub in_use_with : (made : List PairState) (used : List ℕ) → AreInUse made used → AreInUse (with_new made) used
in_use_with made used h = record {
  each = λ i v at busy. elim (there_or_new made i v at) [
    | inl here ↦ h.each i v here busy
    | inr new ↦ let clash : true ≡ false = sym (ap is_idle new.2) ∙ busy in absurd (cc clash)
  ];
}

pub in_use_more : (before now : List PairState) (used : List ℕ) → with_new now ≡ with_new before → AreInUse before used → AreInUse now used
in_use_more before now used same h = record { each = λ i v at busy. h.each i v (there_if_busy before i v (ap (λ (l : List PairState). slice_get l i) (sym same) ∙ there now i v at) busy) busy }

-- an orphan of those that are there
pub orphan_with : (made : List PairState) (places : List ℕ) (cut : ℕ → ℕ) (o : Option ℕ) → IfSome o (IsOrphanIn made places cut) → IfSome o (IsOrphanIn (with_new made) places cut)
orphan_with made places cut None h = tt
orphan_with made places cut (Some m) h = (h.0, h.1, there made h.0 h.1 h.2, h.3, h.4)

-- those that are there are changed
pub changed_with : (R : PairState → PairState → Type 0) (before now : List PairState) → ((v : PairState) → is_idle v ≡ true → R v v) → length now ≡ length before
    → ((i : ℕ) (w : PairState) → slice_get now i ≡ Some w → (v : PairState) × (slice_get before i ≡ Some v) × R v w)
    → (length (with_new now) ≡ length (with_new before)) × ((i : ℕ) (w : PairState) → slice_get (with_new now) i ≡ Some w → (v : PairState) × (slice_get (with_new before) i ≡ Some v) × R v w)
changed_with R before now stays count each = (
  omega (arith, count, length_with now, length_with before),
  λ i w at. elim (there_or_new now i w at) [
    | inl here ↦ let was = each i w here in (was.0, there before i was.0 was.1, was.2)
    | inr new ↦ (w, not_there before i (omega (arith, new.0, count)) new.1 ∙ ap Some (sym new.2), stays w (ap is_idle new.2))
  ],
)

-- the others have no messages
new_entries : (n k : ℕ) → entries_of_all (new_pair_states n k) ≡ []
unfolding new_pair_states
new_entries n zero = refl
new_entries n (suc k) = new_entries (n + 1) k

entries_then : (xs ys : List PairState) → entries_of_all ys ≡ [] → entries_of_all (xs ++ ys) ≡ entries_of_all xs
entries_then [] ys e = e
entries_then (x ∷ xs) ys e = ap (λ (l : List (ℕ × Trace)). entries_of x ++ l) (entries_then xs ys e)

pub entries_with : (made : List PairState) → entries_of_all (with_new made) ≡ entries_of_all made
entries_with made = entries_then made (new_pair_states (length made) (4096 - length made)) (new_entries (length made) (4096 - length made))

pub found_with : (made : List PairState) (msg : ℕ) (o : Option Trace) → IfSome o (λ t. (i : ℕ) × (v : PairState) × (slice_get made i ≡ Some v) × Has (entries_of v) (msg, t))
    → IfSome o (λ t. (i : ℕ) × (v : PairState) × (slice_get (with_new made) i ≡ Some v) × Has (entries_of v) (msg, t))
found_with made msg None found = tt
found_with made msg (Some t) found = (found.0, found.1, there made found.0 found.1 found.2, found.3)

pub missed_with : (made : List PairState) (msg : ℕ) (o : Option Trace)
    → IfNone o ((i : ℕ) (v : PairState) (t : Trace) → slice_get made i ≡ Some v → IsBySend v.in_transit → AreRisingArrivals v.received_from.arrivals → Has (entries_of v) (msg, t) → ⊥)
    → IfNone o ((i : ℕ) (v : PairState) (t : Trace) → slice_get (with_new made) i ≡ Some v → IsBySend v.in_transit → AreRisingArrivals v.received_from.arrivals → Has (entries_of v) (msg, t) → ⊥)
missed_with made msg (Some t) none = tt
missed_with made msg None none = λ i v t at order rising has. elim (there_or_new made i v at) [
  | inl here ↦ none i v t here order rising has
  | inr new ↦
      let nothing : Has (entries_of (new_pair_state (i / 64) (i % 64))) (msg, t) = subst (λ (x : PairState). Has (entries_of x) (msg, t)) new.2 has in
      absurd (cc nothing.1)
]

-- where none is there
new_at : (i : ℕ) (v : PairState) → slice_get (with_new []) i ≡ Some v → (i < 4096) × (v ≡ new_pair_state (i / 64) (i % 64))
new_at i v at = elim (there_or_new [] i v at) [
  | inl here ↦ absurd (cc here)
  | inr new ↦ (new.1, new.2)
]

pub new_by_pair : IsByPair (map received_from_of (with_new []))
new_by_pair = record {
  count = mapped_length received_from_of (with_new []) ∙ length_new 0 4096;
  place = λ i v e. subst (λ (x : ReceivedParts). x.receiver * 64 + x.sender ≡ i) (sym (is i v e).1) (omega arith);
  receiver = λ i v e. subst (λ (x : ReceivedParts). x.receiver < 64) (sym (is i v e).1) (omega (arith, (is i v e).0));
  sender = λ i v e. subst (λ (x : ReceivedParts). x.sender < 64) (sym (is i v e).1) (omega arith);
}
  where
    is : (i : ℕ) (v : ReceivedParts) → slice_get (map received_from_of (with_new [])) i ≡ Some v → (i < 4096) × (v ≡ record { receiver = i / 64; sender = i % 64; arrivals = []; undone = [] })
    is i v e =
        let mapped = get_mapped received_from_of (with_new []) i v e in
        let new = new_at i mapped.0 mapped.1 in
        (new.0, mapped.2 ∙ ap received_from_of new.1)

pub new_in_use : (used : List ℕ) → AreInUse [] used
new_in_use used = record { each = λ i v at busy. absurd (cc at) }

-- before the first row there are no messages
pub pairs_start : ShowsPairs (with_new []) start
pairs_start = record {
  arrivals = record {
    by_pair = new_by_pair;
    each = λ i v e.
        let mapped = get_mapped received_from_of (with_new []) i v e in
        let new = new_at i mapped.0 mapped.1 in
        subst (λ (x : ReceivedParts). ShowsReceived x start) (sym (mapped.2 ∙ ap received_from_of new.1)) (none_received (i / 64) (i % 64));
    numbered = λ p i d e. absurd (cc e);
    receivers = λ p i m q e. absurd (cc e);
    senders = λ p i m q e. absurd (cc e);
  };
  each = λ i v e. subst (λ (x : PairState). ShowsTransit x start) (sym (new_at i v e).1) (no_way (i / 64) (i % 64));
  still_uncovered = λ i v e. subst (λ (x : PairState). IsStillUncovered x start) (sym (new_at i v e).1) (λ k a at low. absurd (cc at));
  sends = λ p i m q e. absurd (cc e);
}
  where
    none_received : (p q : ℕ) → ShowsReceived (record { receiver = p; sender = q; arrivals = []; undone = [] }) start
    none_received p q = record {
      arrived = λ k a e. absurd (cc e);
      live = λ k a e. absurd (cc e);
      rising = record { each = λ j k a b l e f. absurd (cc e) };
      there = λ k u e. absurd (cc e);
      in_turn = record { each = λ j k a b l e f. absurd (cc e) };
      sooner = λ j k u a e f high. absurd (cc e);
      unsent = λ k u e. absurd (cc e);
      all_arrivals = λ m i j e f. absurd (cc e);
      all_undone = λ m j e. absurd (cc e);
    }

    no_way : (p q : ℕ) → ShowsTransit (new_pair_state p q) start
    no_way p q = record {
      in_transit = record {
        in_order = record { each = λ j k a b l e f. absurd (cc e) };
        live = λ k w e. absurd (cc e);
        here = λ k w e. absurd (cc e);
        all = λ m j e lacks. absurd (cc e);
      };
      last = record { there = tt; most = λ x y e. absurd (cc e) };
      last_permanent = record { there = tt; most = λ x y e. absurd (cc e) };
    }
