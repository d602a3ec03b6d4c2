-- Messages in transit, when one is sent, taken or put back, and when the sender's history is cut back.
use Rattle.std.proofs.Common.{◌≡◌, ◌≢◌, ℕ, zero, suc, ◌+◌, ◌-◌, ◌<◌, ◌≤◌, ◌⊎◌, Bool, true, false, Some, List, [], ◌∷◌, ◌++◌, length, take, drop, refl, sym, ap, ◌∙◌, subst, arith, inl, inr}
use Rattle.std.specs.List.{slice_get, insert, remove}
use Rattle.std.proofs.lemmas.Bool.{cases_lt, cases_eq}
use Rattle.std.proofs.lemmas.List.{take-append-drop}
use Rattle.std.proofs.lemmas.Option.{slice_get_within}
use Rattle.kt_spacetime.specs.declared.deeds.Deed.{Deed}
use Rattle.kt_spacetime.specs.declared.deeds.Deed.TheVariants as deed
use Rattle.kt_meaning.specs.Past.{at_one}
use Rattle.kt_meaning.proofs.Lists.{get_push, get_take, get_in_take, get_drop, get_kept, get_last}
use Rattle.kt_meaning.proofs.Items.{get_left, get_right, get_from_drop}
use Rattle.kt_meaning.proofs.Shown.{at_same, at_other}
use Rattle.kt_walk.specs.declared.in_transit.Sent.{Sent}
use Rattle.kt_walk.specs.TransitList.{IsEarlier, IsBySend, AreInTransit, IsPutBack}

-- lists in order, joined
pub joined : (xs ys : List Sent) → IsBySend xs → IsBySend ys → ((j k : ℕ) (a b : Sent) → slice_get xs j ≡ Some a → slice_get ys k ≡ Some b → IsEarlier a b) → IsBySend (xs ++ ys)
joined xs ys r q before = record {
  each = λ j k a b l e f. elim (cases_lt k (length xs)) [
    | inl low ↦ r.each j k a b l (sym (get_left xs ys j (omega (arith, l, low))) ∙ e) (sym (get_left xs ys k low) ∙ f)
    | inr high ↦ elim (cases_lt j (length xs)) [
      | inl first ↦ before j (k - length xs) a b (sym (get_left xs ys j first) ∙ e) (sym (get_right xs ys (k - length xs) k (omega (arith, high))) ∙ f)
      | inr second ↦ q.each (j - length xs) (k - length xs) a b (omega (arith, l, second, high)) (sym (get_right xs ys (j - length xs) j (omega (arith, second))) ∙ e) (sym (get_right xs ys (k - length xs) k (omega (arith, high))) ∙ f)
    ]
  ];
}

pub first_ones : (n : ℕ) (xs : List Sent) → IsBySend xs → IsBySend (take n xs)
first_ones n xs r = record { each = λ j k a b l e f. r.each j k a b l (get_take n xs j a e).0 (get_take n xs k b f).0 }

pub last_ones : (n : ℕ) (xs : List Sent) → IsBySend xs → IsBySend (drop n xs)
last_ones n xs r = record { each = λ j k a b l e f. r.each (n + j) (n + k) a b (omega (arith, l)) (get_drop n xs j a e) (get_drop n xs k b f) }

alone : (x : Sent) → IsBySend (x ∷ [])
alone x = record { each = λ j k a b l e f. absurd (omega (arith, l, slice_get_within (x ∷ []) k b f)) }

only : (x : Sent) (k : ℕ) (a : Sent) → slice_get (x ∷ []) k ≡ Some a → x ≡ a
only x zero a e = cc
only x (suc k) a e = absurd (cc)

-- an item of a list in two parts is in one of them
pub in_parts : {X : Type 0} (xs ys : List X) (k : ℕ) (x : X) → slice_get (xs ++ ys) k ≡ Some x → ((j : ℕ) × (slice_get xs j ≡ Some x)) ⊎ ((j : ℕ) × (slice_get ys j ≡ Some x))
in_parts xs ys k x e = elim (cases_lt k (length xs)) [
  | inl low ↦ inl (k, sym (get_left xs ys k low) ∙ e)
  | inr high ↦ inr (k - length xs, sym (get_right xs ys (k - length xs) k (omega (arith, high))) ∙ e)
]

pub in_first : {X : Type 0} (xs ys : List X) (k : ℕ) (x : X) → slice_get xs k ≡ Some x → (j : ℕ) × (slice_get (xs ++ ys) j ≡ Some x)
in_first xs ys k x e = (k, get_left xs ys k (slice_get_within xs k x e) ∙ e)

pub in_second : {X : Type 0} (xs ys : List X) (k : ℕ) (x : X) → slice_get ys k ≡ Some x → (j : ℕ) × (slice_get (xs ++ ys) j ≡ Some x)
in_second xs ys k x e = (length xs + k, get_right xs ys k (length xs + k) refl ∙ e)

-- what is left without one item, and where
pub left_one : {X : Type 0} (xs : List X) (i k : ℕ) (x : X) → slice_get (remove xs i) k ≡ Some x → (j : ℕ) × (slice_get xs j ≡ Some x) × (j ≢ i)
left_one xs i k x e = elim (in_parts (take i xs) (drop (suc i) xs) k x e) [
  | inl first ↦
      let there = get_take i xs first.0 x first.1 in
      (first.0, there.0, λ same. omega (arith, same, there.1))
  | inr second ↦ (suc i + second.0, get_drop (suc i) xs second.0 x second.1, λ same. omega (arith, same))
]

pub still_there : {X : Type 0} (xs : List X) (i j : ℕ) (x : X) → slice_get xs j ≡ Some x → j ≢ i → (k : ℕ) × (slice_get (remove xs i) k ≡ Some x)
still_there xs i j x e other = elim (cases_lt j i) [
  | inl low ↦ in_first (take i xs) (drop (suc i) xs) j x (get_in_take i xs j x e low)
  | inr high ↦ in_second (take i xs) (drop (suc i) xs) (j - suc i) x (get_from_drop (suc i) xs j x e (omega (arith, high, other)))
]

-- in order with one message less
pub less_one : (xs : List Sent) (i : ℕ) → IsBySend xs → IsBySend (remove xs i)
less_one xs i r = joined (take i xs) (drop (suc i) xs) (first_ones i xs r) (last_ones (suc i) xs r)
    (λ j k a b e f. let there = get_take i xs j a e in r.each j (suc i + k) a b (omega (arith, there.1)) there.0 (get_drop (suc i) xs k b f))

-- in order with one message more, which is after those before its place and before the others
pub more_one : (xs : List Sent) (i : ℕ) (y : Sent) → IsBySend xs → ((k : ℕ) (a : Sent) → k < i → slice_get xs k ≡ Some a → IsEarlier a y) → ((k : ℕ) (a : Sent) → i ≤ k → slice_get xs k ≡ Some a → IsEarlier y a) → IsBySend (insert xs i y)
more_one xs i y r before after = joined (take i xs) (y ∷ drop i xs) (first_ones i xs r) (joined (y ∷ []) (drop i xs) (alone y) (last_ones i xs r) (λ j k a b e f. subst (λ (z : Sent). IsEarlier z b) (only y j a e) (after (i + k) b (omega arith) (get_drop i xs k b f))))
    (λ j k a b e f.
    let there = get_take i xs j a e in
    elim (in_parts (y ∷ []) (drop i xs) k b f) [
      | inl first ↦ subst (λ (z : Sent). IsEarlier a z) (only y first.0 b first.1) (before j a there.1 there.0)
      | inr second ↦ r.each j (i + second.0) a b (omega (arith, there.1)) there.0 (get_drop i xs second.0 b second.1)
    ])

-- the items with one more are that one and the others
pub one_of : {X : Type 0} (xs : List X) (i : ℕ) (y : X) (k : ℕ) (x : X) → slice_get (insert xs i y) k ≡ Some x → (y ≡ x) ⊎ ((j : ℕ) × (slice_get xs j ≡ Some x))
one_of xs i y k x e = elim (in_parts (take i xs) (y ∷ drop i xs) k x e) [
  | inl first ↦ inr (first.0, (get_take i xs first.0 x first.1).0)
  | inr second ↦ at_front second.0 second.1
]
  where
    at_front : (m : ℕ) → slice_get (y ∷ drop i xs) m ≡ Some x → (y ≡ x) ⊎ ((j : ℕ) × (slice_get xs j ≡ Some x))
    at_front zero f = inl (cc)
    at_front (suc m) f = inr (i + m, get_drop i xs m x f)

pub the_one : {X : Type 0} (xs : List X) (i : ℕ) (y : X) → (k : ℕ) × (slice_get (insert xs i y) k ≡ Some y)
the_one xs i y = in_second (take i xs) (y ∷ drop i xs) 0 y refl

pub the_others : {X : Type 0} (xs : List X) (i : ℕ) (y : X) (j : ℕ) (x : X) → slice_get xs j ≡ Some x → (k : ℕ) × (slice_get (insert xs i y) k ≡ Some x)
the_others {X} xs i y j x e =
    let whole : slice_get (take i xs ++ drop i xs) j ≡ Some x = ap (λ (l : List X). slice_get l j) (take-append-drop i xs) ∙ e in
    elim (in_parts (take i xs) (drop i xs) j x whole) [
      | inl first ↦ in_first (take i xs) (y ∷ drop i xs) first.0 x first.1
      | inr second ↦ in_second (take i xs) (y ∷ drop i xs) (suc second.0) x second.1
    ]

-- a message stands once
pub stands_once : (ms : List Sent) (j k : ℕ) (a b : Sent) → IsBySend ms → slice_get ms j ≡ Some a → slice_get ms k ≡ Some b → a.msg ≡ b.msg → j ≡ k
stands_once ms j k a b r e f same = elim (cases_lt j k) [
  | inl less ↦ absurd (omega (arith, same, (r.each j k a b less e f).msg))
  | inr high ↦ elim (cases_lt k j) [
    | inl less ↦ absurd (omega (arith, same, (r.each k j b a less f e).msg))
    | inr more ↦ omega (arith, high, more)
  ]
]

-- the same, where the same are away
pub same_away : (ms : List Sent) (receiver : ℕ) (sent : List Deed) (f g : ℕ → Bool) → ((m : ℕ) → f m ≡ g m) → AreInTransit ms receiver sent f → AreInTransit ms receiver sent g
same_away ms receiver sent f g same h = record {
  in_order = h.in_order;
  live = h.live;
  here = λ k w e. sym (same w.msg) ∙ h.here k w e;
  all = λ m i e lacks. h.all m i e (same m ∙ lacks);
}

-- a deed that sends nothing to the receiver
pub other_deed : (ms : List Sent) (receiver : ℕ) (sent : List Deed) (away : ℕ → Bool) (d : Deed) → ((m : ℕ) → d ≢ deed.Sent m receiver) → AreInTransit ms receiver sent away → AreInTransit ms receiver (sent ++ d ∷ []) away
other_deed ms receiver sent away d other h = record {
  in_order = h.in_order;
  live = λ k w e. get_kept sent d w.place (deed.Sent w.msg receiver) (h.live k w e);
  here = h.here;
  all = λ m i e lacks. elim (get_push sent d i (deed.Sent m receiver) e) [
    | inl old ↦ h.all m i old lacks
    | inr new ↦ absurd (other m new.1)
  ];
}

-- one more message is sent
pub one_sent : (ms : List Sent) (receiver : ℕ) (sent : List Deed) (away : ℕ → Bool) (msg : ℕ) → ((k : ℕ) (w : Sent) → slice_get ms k ≡ Some w → w.msg < msg) → away msg ≡ false
    → AreInTransit ms receiver sent away → AreInTransit (ms ++ record { msg = msg; place = length sent } ∷ []) receiver (sent ++ deed.Sent msg receiver ∷ []) away
one_sent ms receiver sent away msg less lacks h = record {
  in_order = joined ms (new ∷ []) h.in_order (alone new) (λ j k a b e f. subst (λ (z : Sent). IsEarlier a z) (only new k b f) (before j a e));
  live = λ k w e. elim (get_push ms new k w e) [
    | inl old ↦ get_kept sent last w.place (deed.Sent w.msg receiver) (h.live k w old)
    | inr now ↦ subst (λ (z : Sent). slice_get (sent ++ last ∷ []) z.place ≡ Some (deed.Sent z.msg receiver)) now.1 (get_last sent last)
  ];
  here = λ k w e. elim (get_push ms new k w e) [
    | inl old ↦ h.here k w old
    | inr now ↦ subst (λ (z : Sent). away z.msg ≡ false) now.1 lacks
  ];
  all = λ m i e gone. elim (get_push sent last i (deed.Sent m receiver) e) [
    | inl old ↦
        let there = h.all m i old gone in
        in_first ms (new ∷ []) there.0 (record { msg = m; place = i }) there.1
    | inr now ↦
        let number : msg ≡ m = cc now.1 in
        (length ms, get_last ms new ∙ (λ t. Some (record { msg = number t; place = sym now.0 t })))
  ];
}
  where
    new : Sent
    new = record { msg = msg; place = length sent }

    last : Deed
    last = deed.Sent msg receiver

    before : (j : ℕ) (a : Sent) → slice_get ms j ≡ Some a → IsEarlier a new
    before j a e = record { msg = less j a e; place = slice_get_within sent a.place (deed.Sent a.msg receiver) (h.live j a e) }

-- a message is taken
pub one_taken : (ms : List Sent) (receiver : ℕ) (sent : List Deed) (away : ℕ → Bool) (i : ℕ) (w : Sent) → slice_get ms i ≡ Some w → AreInTransit ms receiver sent away → AreInTransit (remove ms i) receiver sent (at_one w.msg true away)
one_taken ms receiver sent away i w at h = record {
  in_order = less_one ms i h.in_order;
  live = λ k x e. let there = left_one ms i k x e in h.live there.0 x there.1;
  here = λ k x e.
      let there = left_one ms i k x e in
      at_other w.msg x.msg true away (λ same. there.2 (stands_once ms there.0 i x w h.in_order there.1 at same)) ∙ h.here there.0 x there.1;
  all = λ m j e gone. elim (cases_eq m w.msg) [
    | inl same ↦
        let not_gone : true ≡ false = sym (at_same w.msg true away) ∙ (ap (at_one w.msg true away) (sym same) ∙ gone) in
        absurd (cc not_gone)
    | inr other ↦
        let there = h.all m j e (sym (at_other w.msg m true away other) ∙ gone) in
        still_there ms i there.0 (record { msg = m; place = j }) there.1 (λ same. other (here_too there.0 m j there.1 same))
  ];
}
  where
    here_too : (k m j : ℕ) → slice_get ms k ≡ Some (record { msg = m; place = j }) → k ≡ i → m ≡ w.msg
    here_too k m j e same =
        let both : Some (let x : Sent = record { msg = m; place = j } in x) ≡ Some w = sym e ∙ (ap (slice_get ms) same ∙ at) in
        cc both

-- a message whose send is live is put back
pub one_back : (ms : List Sent) (receiver : ℕ) (sent : List Deed) (away : ℕ → Bool) (i : ℕ) (w : Sent) → ((j k m q : ℕ) → slice_get sent j ≡ Some (deed.Sent w.msg q) → slice_get sent k ≡ Some (deed.Sent m receiver) → (w.msg < m → j < k) × (m < w.msg → k < j) × (w.msg ≡ m → j ≡ k))
    → slice_get sent w.place ≡ Some (deed.Sent w.msg receiver) → ((k : ℕ) (a : Sent) → k < i → slice_get ms k ≡ Some a → a.msg < w.msg) → ((k : ℕ) (a : Sent) → i ≤ k → slice_get ms k ≡ Some a → w.msg < a.msg)
    → AreInTransit ms receiver sent away → AreInTransit (insert ms i w) receiver sent (at_one w.msg false away)
one_back ms receiver sent away i w rises at below above h = record {
  in_order = more_one ms i w h.in_order (λ k a l e. record { msg = below k a l e; place = (rises w.place a.place a.msg receiver at (h.live k a e)).1 (below k a l e) }) (λ k a l e. record { msg = above k a l e; place = (rises w.place a.place a.msg receiver at (h.live k a e)).0 (above k a l e) });
  live = λ k x e. elim (one_of ms i w k x e) [
    | inl same ↦ subst (λ (z : Sent). slice_get sent z.place ≡ Some (deed.Sent z.msg receiver)) same at
    | inr old ↦ h.live old.0 x old.1
  ];
  here = λ k x e. elim (one_of ms i w k x e) [
    | inl same ↦ ap (λ (z : Sent). at_one w.msg false away z.msg) (sym same) ∙ at_same w.msg false away
    | inr old ↦ lacks x.msg (h.here old.0 x old.1)
  ];
  all = λ m j e gone. elim (cases_eq m w.msg) [
    | inl same ↦
        let there = the_one ms i w in
        let place : w.place ≡ j = (rises w.place j m receiver at e).2 (sym same) in
        (there.0, there.1 ∙ (λ t. Some (record { msg = sym same t; place = place t })))
    | inr other ↦
        let there = h.all m j e (sym (at_other w.msg m false away other) ∙ gone) in
        the_others ms i w there.0 (record { msg = m; place = j }) there.1
  ];
}
  where
    lacks : (m : ℕ) → away m ≡ false → at_one w.msg false away m ≡ false
    lacks m e = elim (cases_eq m w.msg) [
      | inl same ↦ ap (at_one w.msg false away) same ∙ at_same w.msg false away
      | inr other ↦ at_other w.msg m false away other ∙ e
    ]

-- the sender's history is cut back
pub cut_short : (ms : List Sent) (receiver : ℕ) (sent : List Deed) (away : ℕ → Bool) (n count : ℕ) → ((k : ℕ) (w : Sent) → k < count → slice_get ms k ≡ Some w → w.place < n) → ((k : ℕ) (w : Sent) → count ≤ k → slice_get ms k ≡ Some w → n ≤ w.place)
    → AreInTransit ms receiver sent away → AreInTransit (take count ms) receiver (take n sent) away
cut_short ms receiver sent away n count below above h = record {
  in_order = first_ones count ms h.in_order;
  live = λ k w e.
      let there = get_take count ms k w e in
      get_in_take n sent w.place (deed.Sent w.msg receiver) (h.live k w there.0) (below k w there.1 there.0);
  here = λ k w e. h.here k w (get_take count ms k w e).0;
  all = λ m i e gone.
      let whole = get_take n sent i (deed.Sent m receiver) e in
      let there = h.all m i whole.0 gone in
      elim (cases_lt there.0 count) [
        | inl low ↦ (there.0, get_in_take count ms there.0 (record { msg = m; place = i }) there.1 low)
        | inr high ↦ absurd (omega (arith, whole.1, above there.0 (record { msg = m; place = i }) high there.1))
      ];
}

-- the sends of a history stand in the order of their numbers, seen from one message
pub record IsRisingAt (sent : List Deed) (receiver msg : ℕ) : Type 0 where
  pub later : (j k m q : ℕ) → slice_get sent j ≡ Some (deed.Sent msg q) → slice_get sent k ≡ Some (deed.Sent m receiver) → msg < m → j < k
  pub earlier : (j k m q : ℕ) → slice_get sent j ≡ Some (deed.Sent msg q) → slice_get sent k ≡ Some (deed.Sent m receiver) → m < msg → k < j
  pub same : (j k m q : ℕ) → slice_get sent j ≡ Some (deed.Sent msg q) → slice_get sent k ≡ Some (deed.Sent m receiver) → msg ≡ m → j ≡ k

-- a message that was away is put back where it belongs
pub back_again : (ms new : List Sent) (receiver : ℕ) (sent : List Deed) (away : ℕ → Bool) (w : Sent) → IsRisingAt sent receiver w.msg → slice_get sent w.place ≡ Some (deed.Sent w.msg receiver) → away w.msg ≡ true
    → AreInTransit ms receiver sent away → IsPutBack w ms new → AreInTransit new receiver sent (at_one w.msg false away)
back_again ms new receiver sent away w rises at gone h back =
    let fits = back.belongs h.in_order in
    subst (λ (l : List Sent). AreInTransit l receiver sent (at_one w.msg false away)) (sym back.messages) (one_back ms receiver sent away back.place w
    (λ j k m q e f. (rises.later j k m q e f, rises.earlier j k m q e f, rises.same j k m q e f)) at fits.below (λ k a l e. not_it a (fits.above k a l e) (h.here k a e)) h)
  where
    not_it : (a : Sent) → w.msg ≤ a.msg → away a.msg ≡ false → w.msg < a.msg
    not_it a l e = elim (cases_eq w.msg a.msg) [
      | inl same ↦
          let clash : true ≡ false = sym gone ∙ (ap away same ∙ e) in
          absurd (cc clash)
      | inr other ↦ omega (arith, l, other)
    ]
