-- The list of a pair while its two histories grow and are cut back.
use Rattle.std.proofs.Common.{◌≡◌, ℕ, ◌+◌, ◌-◌, ◌<◌, ◌≤◌, true, false, Option, Some, None, IfSome, List, [], ◌∷◌, ◌++◌, length, map, take, drop, sym, ap, ◌∙◌, subst, arith, inl, inr}
use Rattle.std.specs.List.{slice_get, slice_index}
use Rattle.std.specs.Prelude.{min}
use Rattle.std.proofs.lemmas.Bool.{cases_lt}
use Rattle.std.proofs.lemmas.Option.{slice_get_within}
use Rattle.kt_spacetime.specs.declared.deeds.Deed.{Deed}
use Rattle.kt_spacetime.specs.declared.deeds.Deed.TheVariants as deed
use Rattle.kt_walk.specs.declared.queue.Arrival.{Arrival}
use Rattle.kt_walk.specs.declared.received_from.Undone.{Undone}
use Rattle.kt_meaning.specs.Legal.{has_deed}
use Rattle.kt_rules.specs.Lists.{NumbersRise, sent_in}
use Rattle.kt_meaning.specs.Past.{Past}
use Rattle.kt_rules.specs.Orphans.{IsOrphanBetween, IsAtMost, earlier}
use Rattle.kt_rules.specs.Standing.{IsInOrder}
use Rattle.kt_walk.specs.Arrivals.{ReceivedParts, AreRisingArrivals, PartsAt, sent_at, received_at, undone_at, undo, IsSooner, AreInTurn, IsReceivedFrom, ShowsReceived, IsUncovered}
use Rattle.kt_meaning.proofs.Lists.{get_push, get_kept, get_last, get_take, get_in_take, get_drop}
use Rattle.kt_rules.proofs.DeedFacts.{has_at, has_front}
use Rattle.kt_meaning.proofs.Items.{get_from_drop}
use Rattle.kt_rules.proofs.OrphanFacts.{received_of, some_earlier, some_weaker, at_most_first, at_most_second}
use Rattle.kt_walk.proofs.ItemPlaces.{in_turn_take, in_turn_joined, in_turn_undone, get_joined, has_left, has_right, get_mapped, mapped_get, rising_take, rising_drop, rising_push, one_send, sent_before, lacks_past, lacks_part, past_it, lacks_push, place_or_lacks}

-- an item is within the first so many, or past them
within_count : {X : Type 0} (number : X → ℕ) (xs : List X) (bound count k : ℕ) (x : X) → PartsAt number xs bound count → slice_get xs k ≡ Some x → number x < bound → k < count
within_count number xs bound count k x parts e l = elim (cases_lt k count) [
  | inl low ↦ low
  | inr high ↦ absurd (omega (arith, l, parts.above k x high e))
]

pub past_count : (number : Arrival → ℕ) (xs : List Arrival) (bound count k : ℕ) (x : Arrival) → PartsAt number xs bound count → slice_get xs k ≡ Some x → bound ≤ number x → count ≤ k
past_count number xs bound count k x parts e l = elim (cases_lt k count) [
  | inl low ↦ absurd (omega (arith, l, parts.below k x low e))
  | inr high ↦ high
]

-- the sender's history is cut back
pub received_from_sender_cut : (v : ReceivedParts) (rs ss : List Deed) (np nq n c : ℕ) → NumbersRise (sent_in ss) → nq ≡ n → PartsAt sent_at v.arrivals n c → IsReceivedFrom v rs ss np nq
    → IsReceivedFrom (record v { arrivals = take c v.arrivals; undone = v.undone ++ map undo (drop c v.arrivals) }) rs (take n ss) np nq
received_from_sender_cut v rs ss np nq n c r last_permanent parts t = record {
  arrived = λ k a e. t.arrived k a (get_take c v.arrivals k a e).0;
  live = λ k a e.
      let old = get_take c v.arrivals k a e in
      get_in_take n ss a.sent (deed.Sent a.msg v.receiver) (t.live k a old.0) (parts.below k a old.1 old.0);
  rising = rising_take c v.arrivals t.rising;
  there = λ k u e. elim (get_joined v.undone (map undo (drop c v.arrivals)) k u e) [
    | inl old ↦ t.there k u old
    | inr new ↦
        let was = get_mapped undo (drop c v.arrivals) new.0 u new.1 in
        subst (λ (x : Undone). slice_get rs x.received ≡ Some (deed.Received x.msg v.sender)) (sym was.2) (t.arrived (c + new.0) was.0 (get_drop c v.arrivals new.0 was.0 was.1))
  ];
  in_turn = in_turn_joined v.undone (map undo (drop c v.arrivals)) t.in_turn (in_turn_undone (drop c v.arrivals) (rising_drop c v.arrivals t.rising)) (λ j k a b e f.
      let was = get_mapped undo (drop c v.arrivals) k b f in
      let at = get_drop c v.arrivals k was.0 was.1 in
      subst (λ (x : Undone). IsSooner a x) (sym was.2) (t.sooner j (c + k) a was.0 e at (omega (arith, last_permanent, parts.above (c + k) was.0 (omega arith) at))));
  sooner = λ j k u a e f high.
      let old = get_take c v.arrivals k a f in
      absurd (omega (arith, last_permanent, high, parts.below k a old.1 old.0));
  unsent = λ k u e. elim (get_joined v.undone (map undo (drop c v.arrivals)) k u e) [
    | inl old ↦ lacks_part (deed.Sent u.msg v.receiver) n ss (t.unsent k u old)
    | inr new ↦
        let was = get_mapped undo (drop c v.arrivals) new.0 u new.1 in
        let at = get_drop c v.arrivals new.0 was.0 was.1 in
        subst (λ (x : Undone). has_deed (deed.Sent x.msg v.receiver) (take n ss) ≡ false) (sym was.2)
        (lacks_past ss n was.0.sent was.0.msg v.receiver r (t.live (c + new.0) was.0 at) (parts.above (c + new.0) was.0 (omega arith) at))
  ];
  all_arrivals = λ msg i j e f h.
      let sent = get_take n ss i (deed.Sent msg v.receiver) e in
      let a : Arrival = record { msg = msg; sent = i; received = j } in
      let there = t.all_arrivals msg i j sent.0 f h in
      (there.0, get_in_take c v.arrivals there.0 a there.1 (within_count sent_at v.arrivals n c there.0 a parts there.1 sent.1));
  all_undone = λ msg j f lacks. elim (place_or_lacks (deed.Sent msg v.receiver) ss) [
    | inl at ↦
        let high = past_it (deed.Sent msg v.receiver) n at.0 ss at.1 lacks in
        let a : Arrival = record { msg = msg; sent = at.0; received = j } in
        let there = t.all_arrivals msg at.0 j at.1 f (λ l. absurd (omega (arith, l, high, last_permanent))) in
        let past = past_count sent_at v.arrivals n c there.0 a parts there.1 high in
        has_right v.undone (map undo (drop c v.arrivals)) (undo a) (there.0 - c, mapped_get undo (drop c v.arrivals) (there.0 - c) a (get_from_drop c v.arrivals there.0 a there.1 past))
    | inr none ↦ has_left v.undone (map undo (drop c v.arrivals)) (record { msg = msg; received = j }) (t.all_undone msg j f none)
  ];
}

-- the receiver's history is cut back
pub received_from_receiver_cut : (v : ReceivedParts) (rs ss : List Deed) (np nq n c d : ℕ) → PartsAt received_at v.arrivals n c → PartsAt undone_at v.undone n d → IsReceivedFrom v rs ss np nq
    → IsReceivedFrom (record v { arrivals = take c v.arrivals; undone = take d v.undone }) (take n rs) ss np nq
received_from_receiver_cut v rs ss np nq n c d parts undone t = record {
  arrived = λ k a e.
      let old = get_take c v.arrivals k a e in
      get_in_take n rs a.received (deed.Received a.msg v.sender) (t.arrived k a old.0) (parts.below k a old.1 old.0);
  live = λ k a e. t.live k a (get_take c v.arrivals k a e).0;
  rising = rising_take c v.arrivals t.rising;
  there = λ k u e.
      let old = get_take d v.undone k u e in
      get_in_take n rs u.received (deed.Received u.msg v.sender) (t.there k u old.0) (undone.below k u old.1 old.0);
  in_turn = in_turn_take d v.undone t.in_turn;
  sooner = λ j k u a e f high. t.sooner j k u a (get_take d v.undone j u e).0 (get_take c v.arrivals k a f).0 high;
  unsent = λ k u e. t.unsent k u (get_take d v.undone k u e).0;
  all_arrivals = λ msg i j e f h.
      let received = get_take n rs j (deed.Received msg v.sender) f in
      let a : Arrival = record { msg = msg; sent = i; received = j } in
      let there = t.all_arrivals msg i j e received.0 h in
      (there.0, get_in_take c v.arrivals there.0 a there.1 (within_count received_at v.arrivals n c there.0 a parts there.1 received.1));
  all_undone = λ msg j f lacks.
      let received = get_take n rs j (deed.Received msg v.sender) f in
      let u : Undone = record { msg = msg; received = j } in
      let there = t.all_undone msg j received.0 lacks in
      (there.0, get_in_take d v.undone there.0 u there.1 (within_count undone_at v.undone n d there.0 u undone there.1 received.1));
}

-- the same, of what is left then
same_received : (v w : ReceivedParts) → w.receiver ≡ v.receiver → w.sender ≡ v.sender → w.arrivals ≡ v.arrivals → w.undone ≡ v.undone → v ≡ w
same_received v w a b c d = λ i. record { receiver = (sym a) i; sender = (sym b) i; arrivals = (sym c) i; undone = (sym d) i }

pub sender_cut : (v w : ReceivedParts) (rs ss : List Deed) (np nq n c : ℕ) → NumbersRise (sent_in ss) → nq ≡ n → (AreRisingArrivals v.arrivals → PartsAt sent_at v.arrivals n c)
    → w.receiver ≡ v.receiver → w.sender ≡ v.sender → w.arrivals ≡ take c v.arrivals → w.undone ≡ v.undone ++ map undo (drop c v.arrivals) → IsReceivedFrom v rs ss np nq → IsReceivedFrom w rs (take n ss) np nq
sender_cut v w rs ss np nq n c r last_permanent parts a b d e t =
    let left : ReceivedParts = record v { arrivals = take c v.arrivals; undone = v.undone ++ map undo (drop c v.arrivals) } in
    subst (λ (x : ReceivedParts). IsReceivedFrom x rs (take n ss) np nq) (same_received left w a b d e) (received_from_sender_cut v rs ss np nq n c r last_permanent (parts t.rising) t)

pub receiver_cut : (v w : ReceivedParts) (rs ss : List Deed) (np nq n c d : ℕ) → (AreRisingArrivals v.arrivals → PartsAt received_at v.arrivals n c) → (AreInTurn v.undone → PartsAt undone_at v.undone n d)
    → w.receiver ≡ v.receiver → w.sender ≡ v.sender → w.arrivals ≡ take c v.arrivals → w.undone ≡ take d v.undone → IsReceivedFrom v rs ss np nq → IsReceivedFrom w (take n rs) ss np nq
receiver_cut v w rs ss np nq n c d parts undone a b e f t =
    let left : ReceivedParts = record v { arrivals = take c v.arrivals; undone = take d v.undone } in
    subst (λ (x : ReceivedParts). IsReceivedFrom x (take n rs) ss np nq) (same_received left w a b e f) (received_from_receiver_cut v rs ss np nq n c d (parts t.rising) (undone t.in_turn) t)

-- the permanent parts grow
pub received_committed : (v : ReceivedParts) (rs ss : List Deed) (np nq mp mq : ℕ) → np ≤ mp → nq ≤ mq → IsReceivedFrom v rs ss np nq → IsReceivedFrom v rs ss mp mq
received_committed v rs ss np nq mp mq l m t = record {
  arrived = t.arrived;
  live = t.live;
  rising = t.rising;
  there = t.there;
  in_turn = t.in_turn;
  sooner = λ j k u a e f high. t.sooner j k u a e f (omega (arith, m, high));
  unsent = t.unsent;
  all_arrivals = λ msg i j e f h. t.all_arrivals msg i j e f (λ low. omega (arith, l, m, low, h));
  all_undone = t.all_undone;
}

-- the first so many arrivals, which both permanent parts have, are forgotten
pub received_forgotten : (v : ReceivedParts) (rs ss : List Deed) (np nq n c d : ℕ) → PartsAt sent_at v.arrivals nq c → PartsAt received_at v.arrivals np d → n ≤ c → n ≤ d → IsReceivedFrom v rs ss np nq
    → IsReceivedFrom (record v { arrivals = drop n v.arrivals }) rs ss np nq
received_forgotten v rs ss np nq n c d sent received low_c low_d t = record {
  arrived = λ k a e. t.arrived (n + k) a (get_drop n v.arrivals k a e);
  live = λ k a e. t.live (n + k) a (get_drop n v.arrivals k a e);
  rising = rising_drop n v.arrivals t.rising;
  there = t.there;
  in_turn = t.in_turn;
  sooner = λ j k u a e f high. t.sooner j (n + k) u a e (get_drop n v.arrivals k a f) high;
  unsent = t.unsent;
  all_arrivals = λ msg i j e f h.
      let a : Arrival = record { msg = msg; sent = i; received = j } in
      let there = t.all_arrivals msg i j e f h in
      elim (cases_lt there.0 n) [
        | inl low ↦
            let before_sent : i < nq = sent.below there.0 a (omega (arith, low, low_c)) there.1 in
            let before_received : j < np = received.below there.0 a (omega (arith, low, low_d)) there.1 in
            absurd (omega (arith, before_sent, before_received, h before_sent))
        | inr high ↦ (there.0 - n, get_from_drop n v.arrivals there.0 a there.1 high)
      ];
  all_undone = t.all_undone;
}

-- the receiver's history has one more deed, which is no receive of the sender's
pub received_from_receiver_more : (v : ReceivedParts) (rs ss : List Deed) (np nq : ℕ) (d : Deed) → ((m : ℕ) → d ≡ deed.Received m v.sender → ⊥) → IsReceivedFrom v rs ss np nq → IsReceivedFrom v (rs ++ d ∷ []) ss np nq
received_from_receiver_more v rs ss np nq d other t = record {
  arrived = λ k a e. get_kept rs d a.received (deed.Received a.msg v.sender) (t.arrived k a e);
  live = t.live;
  rising = t.rising;
  there = λ k u e. get_kept rs d u.received (deed.Received u.msg v.sender) (t.there k u e);
  in_turn = t.in_turn;
  sooner = t.sooner;
  unsent = t.unsent;
  all_arrivals = λ msg i j e f h. elim (get_push rs d j (deed.Received msg v.sender) f) [
    | inl old ↦ t.all_arrivals msg i j e old h
    | inr new ↦ absurd (other msg new.1)
  ];
  all_undone = λ msg j f lacks. elim (get_push rs d j (deed.Received msg v.sender) f) [
    | inl old ↦ t.all_undone msg j old lacks
    | inr new ↦ absurd (other msg new.1)
  ];
}

-- the sender's history has one more deed, which is no send of what the receiver has received
pub received_from_sender_more : (v : ReceivedParts) (rs ss : List Deed) (np nq : ℕ) (d : Deed) → ((m j : ℕ) → slice_get rs j ≡ Some (deed.Received m v.sender) → d ≡ deed.Sent m v.receiver → ⊥) → IsReceivedFrom v rs ss np nq
    → IsReceivedFrom v rs (ss ++ d ∷ []) np nq
received_from_sender_more v rs ss np nq d other t = record {
  arrived = t.arrived;
  live = λ k a e. get_kept ss d a.sent (deed.Sent a.msg v.receiver) (t.live k a e);
  rising = t.rising;
  there = t.there;
  in_turn = t.in_turn;
  sooner = t.sooner;
  unsent = λ k u e. lacks_push (deed.Sent u.msg v.receiver) d ss (t.unsent k u e) (λ same. other u.msg u.received (t.there k u e) same);
  all_arrivals = λ msg i j e f h. elim (get_push ss d i (deed.Sent msg v.receiver) e) [
    | inl old ↦ t.all_arrivals msg i j old f h
    | inr new ↦ absurd (other msg j f new.1)
  ];
  all_undone = λ msg j f lacks. t.all_undone msg j f (has_front (deed.Sent msg v.receiver) ss (d ∷ []) lacks);
}

-- the receiver receives a message of the sender's, whose send is live
pub received_received : (v : ReceivedParts) (rs ss : List Deed) (np nq m i j : ℕ) → NumbersRise (sent_in ss) → slice_get ss i ≡ Some (deed.Sent m v.receiver) → j ≡ length rs
    → ((k x : ℕ) → slice_get rs k ≡ Some (deed.Received x v.sender) → x < m) → IsReceivedFrom v rs ss np nq
    → IsReceivedFrom (record v { arrivals = v.arrivals ++ record { msg = m; sent = i; received = j } ∷ [] }) (rs ++ deed.Received m v.sender ∷ []) ss np nq
received_received v rs ss np nq m i j r sent place later t = record {
  arrived = λ k a e. elim (get_push v.arrivals here k a e) [
    | inl old ↦ get_kept rs new a.received (deed.Received a.msg v.sender) (t.arrived k a old)
    | inr last ↦ subst (λ (x : Arrival). slice_get (rs ++ new ∷ []) x.received ≡ Some (deed.Received x.msg v.sender)) last.1 (ap (slice_get (rs ++ new ∷ [])) place ∙ get_last rs new)
  ];
  live = λ k a e. elim (get_push v.arrivals here k a e) [
    | inl old ↦ t.live k a old
    | inr last ↦ subst (λ (x : Arrival). slice_get ss x.sent ≡ Some (deed.Sent x.msg v.receiver)) last.1 sent
  ];
  rising = rising_push v.arrivals here t.rising (λ k a e.
      let lower : a.msg < m = later a.received a.msg (t.arrived k a e) in
      record {
        msg = lower;
        sent = sent_before ss a.sent i a.msg v.receiver m v.receiver r lower (t.live k a e) sent;
        received = omega (arith, place, slice_get_within rs a.received (deed.Received a.msg v.sender) (t.arrived k a e));
      });
  there = λ k u e. get_kept rs new u.received (deed.Received u.msg v.sender) (t.there k u e);
  in_turn = t.in_turn;
  sooner = λ x k u a e f high. elim (get_push v.arrivals here k a f) [
    | inl old ↦ t.sooner x k u a e old high
    | inr last ↦ subst (λ (y : Arrival). IsSooner u (undo y)) last.1 (record {
      msg = later u.received u.msg (t.there x u e);
      received = omega (arith, place, slice_get_within rs u.received (deed.Received u.msg v.sender) (t.there x u e));
    })
  ];
  unsent = t.unsent;
  all_arrivals = λ x a b e f h. elim (get_push rs new b (deed.Received x v.sender) f) [
    | inl old ↦ has_left v.arrivals (here ∷ []) (record { msg = x; sent = a; received = b }) (t.all_arrivals x a b e old h)
    | inr last ↦
        let number : m ≡ x = cc in
        let sent_there : slice_get ss a ≡ Some (deed.Sent m v.receiver) = subst (λ (y : ℕ). slice_get ss a ≡ Some (deed.Sent y v.receiver)) (sym number) e in
        let at : i ≡ a = one_send ss i a m v.receiver v.receiver r sent sent_there in
        let same : here ≡ record { msg = x; sent = a; received = b } = λ y. record { msg = number y; sent = at y; received = (place ∙ sym last.0) y } in
        has_right v.arrivals (here ∷ []) (record { msg = x; sent = a; received = b }) (0, ap Some same)
  ];
  all_undone = λ x b f lacks. elim (get_push rs new b (deed.Received x v.sender) f) [
    | inl old ↦ t.all_undone x b old lacks
    | inr last ↦
        let number : m ≡ x = cc in
        let has : has_deed (deed.Sent m v.receiver) ss ≡ true = has_at (deed.Sent m v.receiver) ss i sent in
        let lacks_it : has_deed (deed.Sent m v.receiver) ss ≡ false = subst (λ (y : ℕ). has_deed (deed.Sent y v.receiver) ss ≡ false) (sym number) lacks in
        absurd (cc (has, lacks_it))
  ];
}
  where
    here : Arrival
    here = record { msg = m; sent = i; received = j }

    new : Deed
    new = deed.Received m v.sender

pub forgotten : (v w : ReceivedParts) (rs ss : List Deed) (np nq mp mq n c d : ℕ) → np ≤ mp → nq ≤ mq → (AreRisingArrivals v.arrivals → PartsAt sent_at v.arrivals mq c) → (AreRisingArrivals v.arrivals → PartsAt received_at v.arrivals mp d) → n ≤ c → n ≤ d
    → w.receiver ≡ v.receiver → w.sender ≡ v.sender → w.arrivals ≡ drop n v.arrivals → w.undone ≡ v.undone → IsReceivedFrom v rs ss np nq → IsReceivedFrom w rs ss mp mq
forgotten v w rs ss np nq mp mq n c d l m sent received low_c low_d a b e f t =
    let left : ReceivedParts = record v { arrivals = drop n v.arrivals } in
    subst (λ (x : ReceivedParts). IsReceivedFrom x rs ss mp mq) (same_received left w a b e f)
    (received_forgotten v rs ss mp mq n c d (sent t.rising) (received t.rising) low_c low_d (received_committed v rs ss np nq mp mq l m t))

-- a message is one of those that were undone and is received before a place
abbrev pub IsUndoneWithin : List Undone → ℕ → ℕ → Type 0
IsUndoneWithin undone place msg = (k : ℕ) × (u : Undone) × (slice_get undone k ≡ Some u) × (u.msg ≡ msg) × (u.received < place)

-- a message is one of rising arrivals, past one place and before another one
abbrev pub IsPast : List Arrival → ℕ → ℕ → ℕ → Type 0
IsPast arrivals sent received msg = AreRisingArrivals arrivals → (k : ℕ) × (a : Arrival) × (slice_get arrivals k ≡ Some a) × (a.msg ≡ msg) × (sent ≤ a.sent) × (a.received < received)

-- the orphans of a receiver and a sender
abbrev pub IsOrphanOf : ReceivedParts → (ℕ → ℕ) → ℕ → Type 0
IsOrphanOf v cut msg = (s : Past) → IsInOrder s → ShowsReceived v s → IsOrphanBetween s cut v.receiver v.sender msg

past_orphan : (v : ReceivedParts) (cut : ℕ → ℕ) (m : ℕ) → IsPast v.arrivals (cut v.sender) (cut v.receiver) m → IsOrphanOf v cut m
past_orphan v cut m past s order t =
    let h = past t.rising in
    subst (λ (x : ℕ). IsOrphanBetween s cut v.receiver v.sender x) h.3 (record {
      place = h.1.received;
      received = get_in_take (cut v.receiver) (s.live v.receiver) h.1.received (deed.Received h.1.msg v.sender) (t.arrived h.0 h.1 h.2) h.5;
      unsent = lacks_past (s.live v.sender) (cut v.sender) h.1.sent h.1.msg v.receiver (order.sent v.sender) (t.live h.0 h.1 h.2) h.4;
    })

undone_orphan : (v : ReceivedParts) (cut : ℕ → ℕ) (m : ℕ) → IsUndoneWithin v.undone (cut v.receiver) m → IsOrphanOf v cut m
undone_orphan v cut m h s order t = subst (λ (x : ℕ). IsOrphanBetween s cut v.receiver v.sender x) h.3 (record {
  place = h.1.received;
  received = get_in_take (cut v.receiver) (s.live v.receiver) h.1.received (deed.Received h.1.msg v.sender) (t.there h.0 h.1 h.2) h.4;
  unsent = lacks_part (deed.Sent h.1.msg v.receiver) (cut v.sender) (s.live v.sender) (t.unsent h.0 h.1 h.2);
})

pub some_orphan : (v : ReceivedParts) (cut : ℕ → ℕ) (x y : Option ℕ) → IfSome x (IsPast v.arrivals (cut v.sender) (cut v.receiver)) → IfSome y (IsUndoneWithin v.undone (cut v.receiver)) → IfSome (earlier x y) (IsOrphanOf v cut)
some_orphan v cut x y past undone =
    some_earlier (IsOrphanOf v cut) x y (some_weaker (IsPast v.arrivals (cut v.sender) (cut v.receiver)) (IsOrphanOf v cut) x (past_orphan v cut) past)
    (some_weaker (IsUndoneWithin v.undone (cut v.receiver)) (IsOrphanOf v cut) y (undone_orphan v cut) undone)

pub least_orphan : (v : ReceivedParts) (cut : ℕ → ℕ) (x y : Option ℕ) (s : Past) (m : ℕ)
    → ((k : ℕ) (a : Arrival) → AreRisingArrivals v.arrivals → slice_get v.arrivals k ≡ Some a → cut v.sender ≤ a.sent → a.received < cut v.receiver → IsAtMost x a.msg)
    → ((k : ℕ) (u : Undone) → AreInTurn v.undone → slice_get v.undone k ≡ Some u → u.received < cut v.receiver → IsAtMost y u.msg)
    → s.permanent v.sender ≤ cut v.sender → ShowsReceived v s → IsOrphanBetween s cut v.receiver v.sender m → IsAtMost (earlier x y) m
least_orphan v cut x y s m past undone last_permanent t o =
    let at = received_of s cut v.receiver v.sender m o in
    elim (place_or_lacks (deed.Sent m v.receiver) (s.live v.sender)) [
      | inl there ↦
          let high = past_it (deed.Sent m v.receiver) (cut v.sender) there.0 (s.live v.sender) there.1 o.unsent in
          let found = t.all_arrivals m there.0 o.place there.1 at.0 (λ low. absurd (omega (arith, low, high, last_permanent))) in
          at_most_first x y m (past found.0 (record { msg = m; sent = there.0; received = o.place }) t.rising found.1 high at.1)
      | inr none ↦
          let found = t.all_undone m o.place at.0 none in
          at_most_second x y m (undone found.0 (record { msg = m; received = o.place }) t.in_turn found.1 at.1)
    ]

-- none of what is left lies within both parts
pub forgotten_none : (v w : ReceivedParts) (lengths : List ℕ) (n c d : ℕ) → PartsAt sent_at v.arrivals (slice_index lengths v.sender) c → PartsAt received_at v.arrivals (slice_index lengths v.receiver) d → n ≡ min c d
    → w.receiver ≡ v.receiver → w.sender ≡ v.sender → w.arrivals ≡ drop n v.arrivals → w.undone ≡ v.undone → IsUncovered lengths w
forgotten_none v w lengths n c d sent received least a b e _ = record {
  none = λ k x f cover.
      let at = get_drop n v.arrivals k x (ap (λ (xs : List Arrival). slice_get xs k) (sym e) ∙ f) in
      let one = within_count sent_at v.arrivals (slice_index lengths v.sender) c (n + k) x sent at (subst (λ (q : ℕ). x.sent < slice_index lengths q) b cover.sent) in
      let two = within_count received_at v.arrivals (slice_index lengths v.receiver) d (n + k) x received at (subst (λ (q : ℕ). x.received < slice_index lengths q) a cover.received) in
      absurd (omega (arith, one, two, least));
}

-- a list without arrivals
pub no_item : {X : Type 0} (xs : List X) (k : ℕ) (x : X) → length xs ≡ 0 → slice_get xs k ≡ Some x → ⊥
no_item xs k x e at = absurd (omega (arith, e, slice_get_within xs k x at))

pub no_orphan : (v : ReceivedParts) (cut : ℕ → ℕ) (s : Past) (m : ℕ) → length v.arrivals ≡ 0 → length v.undone ≡ 0 → s.permanent v.sender ≤ cut v.sender → ShowsReceived v s → IsOrphanBetween s cut v.receiver v.sender m → IsAtMost None m
no_orphan v cut s m arrivals undone last_permanent t o =
    least_orphan v cut None None s m (λ k a r at low high. absurd (no_item v.arrivals k a arrivals at)) (λ k u r at low. absurd (no_item v.undone k u undone at)) last_permanent t o
