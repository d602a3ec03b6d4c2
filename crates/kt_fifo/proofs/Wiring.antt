-- What a write at one pair's place changes.
use Rattle.std.specs.Prelude.{nat_eq, ◌&&◌, if◌then◌else◌, slice_index}
use Rattle.std.proofs.Common.{◌≡◌, ◌≢◌, ℕ, ◌+◌, ◌-◌, ◌*◌, ◌≤◌, ◌<◌, Bool, true, false, List, [], ◌∷◌, ◌++◌, length, drop, set, get_or, refl, arith, sym, ap, subst, ◌∙◌, inl, inr}
use Rattle.std.proofs.Math.Path.{fun_ext}
use Rattle.std.proofs.lemmas.List.{length-set, get_or-set_same, get_or-set_other, get_or_default, set-get_or}
use Rattle.std.proofs.lemmas.Bool.Decides.{nat_tests}
use Rattle.std.proofs.lemmas.Bool.{cases_lt, cases_eq}
use Rattle.std.proofs.lemmas.Grind.{get_or-set_at}
use Rattle.kt_base.specs.Sets.{has, count_of}
use Rattle.kt_fifo.specs.declared.parcels.Parcel.{Parcel}
use Rattle.kt_fifo.specs.Queues.{Queue, no_queue, has_parcel}
use Rattle.kt_fifo.specs.Channels.{ChannelLists, queue, channel, spare_of, at_pair, IsWired}

row_above : (n p from : ℕ) → p < from → p * n + n ≤ from * n
row_above n p from h = grind arith

same_place : (n p q from to : ℕ) → q < n → to < n → p * n + q ≡ from * n + to → (p ≡ from) × (q ≡ to)
same_place n p q from to a b e = elim (cases_lt p from) [
  | inl l ↦ absurd (omega (arith, row_above n p from l))
  | inr l ↦ elim (cases_lt from p) [
    | inl m ↦ absurd (omega (arith, row_above n from p m))
    | inr m ↦ let f : p ≡ from = omega arith in let g : p * n ≡ from * n = ap (λ x. x * n) f in (f, omega arith)
  ]
]

pub in_square : (n p q : ℕ) → p < n → q < n → p * n + q < n * n
in_square n p q a b = omega (arith, row_above n p n a)

-- where the queue of a pair stands
pub record IsPlace (w : ChannelLists) (from to i : ℕ) : Type 0 where
  pub square : length w.queues ≡ w.processes * w.processes
  pub from_in : from < w.processes
  pub to_in : to < w.processes
  pub place : i ≡ from * w.processes + to

-- another queue at one place
abbrev pub written : ChannelLists → ℕ → Queue → ChannelLists
written w i q = record { processes = w.processes; queues = set w.queues i q }

pub place_within : (w : ChannelLists) (from to i : ℕ) → IsPlace w from to i → i < length w.queues
place_within w from to i h = omega (arith, in_square w.processes from to h.from_in h.to_in, h.square, h.place)

queue_set : (n from to : ℕ) (qs : List Queue) (x : Queue) → length qs ≡ n * n → from < n → to < n → (p q : ℕ) →
    queue (record { processes = n; queues = set qs (from * n + to) x }) p q ≡ at_pair from to x (queue (record { processes = n; queues = qs })) p q
queue_set n from to qs x e a b p q =
    let same = same_place n p q from to in
    let inside = in_square n p q in
    let at = in_square n from to a b in
    grind (arith, nat_tests, get_or-set_other, get_or-set_at)

pub queue_written : (w : ChannelLists) (from to i : ℕ) (x : Queue) → IsPlace w from to i → queue (written w i x) ≡ at_pair from to x (queue w)
queue_written w from to i x h =
    subst (λ (j : ℕ). queue (written w j x) ≡ at_pair from to x (queue w)) (sym h.place)
    (fun_ext (λ p. fun_ext (λ q. queue_set w.processes from to w.queues x h.square h.from_in h.to_in p q)))

-- the queue that was read
pub queue_read : (w : ChannelLists) (from to i : ℕ) (x : Queue) → IsPlace w from to i → x ≡ get_or w.queues i x → queue w from to ≡ x
queue_read w from to i x h r =
    let d = get_or_default w.queues i x no_queue (place_within w from to i h) in
    let k : get_or w.queues (from * w.processes + to) no_queue ≡ x = subst (λ (j : ℕ). get_or w.queues j no_queue ≡ x) h.place (sym d ∙ sym r) in
    let a = h.from_in in
    let b = h.to_in in
    grind (arith, nat_tests)

parcels_if : (b : Bool) (x y : Queue) → (if b then x else y).parcels ≡ (if b then x.parcels else y.parcels)
parcels_if true x y = refl
parcels_if false x y = refl

spare_if : (b : Bool) (x y : Queue) → (if b then x else y).spare ≡ (if b then x.spare else y.spare)
spare_if true x y = refl
spare_if false x y = refl

pub channel_written : (w : ChannelLists) (from to i : ℕ) (x : Queue) → IsPlace w from to i → channel (written w i x) ≡ at_pair from to x.parcels (channel w)
channel_written w from to i x h =
    ap (λ (f : ℕ → ℕ → Queue). λ (p q : ℕ). (f p q).parcels) (queue_written w from to i x h)
    ∙ fun_ext (λ p. fun_ext (λ q. parcels_if (nat_eq p from && nat_eq q to) x (queue w p q)))

pub spare_written : (w : ChannelLists) (from to i : ℕ) (x : Queue) → IsPlace w from to i → spare_of (written w i x) ≡ at_pair from to x.spare (spare_of w)
spare_written w from to i x h =
    ap (λ (f : ℕ → ℕ → Queue). λ (p q : ℕ). (f p q).spare) (queue_written w from to i x h)
    ∙ fun_ext (λ p. fun_ext (λ q. spare_if (nat_eq p from && nat_eq q to) x (queue w p q)))

-- the list of one pair becomes what f makes of it
pub lists_changed : (w : ChannelLists) (from to i : ℕ) (x y : Queue) (f : List Parcel → List Parcel) → IsPlace w from to i → x ≡ get_or w.queues i x → y.parcels ≡ f x.parcels →
    channel (written w i y) ≡ at_pair from to (f (channel w from to)) (channel w)
lists_changed w from to i x y f h r e =
    channel_written w from to i y h
    ∙ ap (λ (l : List Parcel). at_pair from to l (channel w)) (e ∙ ap (λ (q : Queue). f q.parcels) (sym (queue_read w from to i x h r)))

-- the room of one pair becomes what f makes of its queue
pub spare_changed : (w : ChannelLists) (from to i : ℕ) (x y : Queue) (f : Queue → ℕ) → IsPlace w from to i → x ≡ get_or w.queues i x → y.spare ≡ f x →
    spare_of (written w i y) ≡ at_pair from to (f (queue w from to)) (spare_of w)
spare_changed w from to i x y f h r e =
    spare_written w from to i y h
    ∙ ap (λ (n : ℕ). at_pair from to n (spare_of w)) (e ∙ ap f (sym (queue_read w from to i x h r)))

pub channel_here : (w : ChannelLists) (from to i : ℕ) (y : Queue) → IsPlace w from to i → channel (written w i y) from to ≡ y.parcels
channel_here w from to i y h = ap (λ (f : ℕ → ℕ → List Parcel). f from to) (channel_written w from to i y h) ∙ at_itself from to y.parcels (channel w from to)
  where
    at_itself : (p q : ℕ) (x y : List Parcel) → (if nat_eq p p && nat_eq q q then x else y) ≡ x
    at_itself p q x y = grind (arith, nat_tests)

-- what goes leaves room
pub spare_freed : (w : ChannelLists) (from to i : ℕ) (x y : Queue) → IsPlace w from to i → x ≡ get_or w.queues i x → y.spare ≡ x.spare + (length x.parcels - length y.parcels) →
    spare_of (written w i y) ≡ at_pair from to (spare_of w from to + (length (channel w from to) - length (channel (written w i y) from to))) (spare_of w)
spare_freed w from to i x y h r e =
    spare_changed w from to i x y (λ q. q.spare + (length q.parcels - length (channel (written w i y) from to))) h r
    (e ∙ ap (λ (l : List Parcel). x.spare + (length x.parcels - length l)) (sym (channel_here w from to i y h)))

-- what the code finds where a pair's list becomes l: s, the senders to the receiver, and f, the receivers
pub record NotesSender (senders : List ℕ) (receivers from to s f : ℕ) (l : List Parcel) : Type 0 where
  pub here : has s from ≡ has_parcel l
  pub others : (p : ℕ) → p ≢ from → has s p ≡ has (slice_index senders to) p
  pub some : has f to ≡ true → (p : ℕ) × (has s p ≡ true)
  pub none : has f to ≡ false → (p : ℕ) → has s p ≡ false
  pub apart : (q : ℕ) → q ≢ to → has f q ≡ has receivers q

at_both : (p q : ℕ) (x y : List Parcel) → (if nat_eq p p && nat_eq q q then x else y) ≡ x
at_both p q x y = grind (arith, nat_tests)

off_first : (p from q : ℕ) (x y : List Parcel) → p ≢ from → (if nat_eq p from && nat_eq q q then x else y) ≡ y
off_first p from q x y n = grind (arith, nat_tests)

off_second : (p q from to : ℕ) (x y : List Parcel) → q ≢ to → (if nat_eq p from && nat_eq q to then x else y) ≡ y
off_second p q from to x y n = grind (arith, nat_tests)

-- the lists to another receiver stay
apart_written : (w : ChannelLists) (from to i : ℕ) (y : Queue) → IsPlace w from to i → (p q : ℕ) → q ≢ to → channel (written w i y) p q ≡ channel w p q
apart_written w from to i y h p q other =
    ap (λ (f : ℕ → ℕ → List Parcel). f p q) (channel_written w from to i y h) ∙ off_second p q from to y.parcels (channel w p q) other

-- the senders to the receiver of the pair
here_written : (w : ChannelLists) (senders counts : List ℕ) (receivers from to i s f : ℕ) (y : Queue) → IsWired w senders counts receivers → IsPlace w from to i →
    NotesSender senders receivers from to s f y.parcels → (p : ℕ) → has s p ≡ has_parcel (channel (written w i y) p to)
here_written w senders counts receivers from to i s f y k h n p =
    let e : channel (written w i y) p to ≡ at_pair from to y.parcels (channel w) p to = ap (λ (g : ℕ → ℕ → List Parcel). g p to) (channel_written w from to i y h) in
    rw e (elim (cases_eq p from) [
      | inl it ↦ rw it (n.here ∙ ap has_parcel (sym (at_both from to y.parcels (channel w from to))))
      | inr other ↦ n.others p other ∙ (k.exact p to h.to_in ∙ ap has_parcel (sym (off_first p from to y.parcels (channel w p to) other)))
    ])

no_parcel : (l : List Parcel) → has_parcel l ≡ false → l ≡ []
no_parcel [] e = refl
no_parcel (x ∷ xs) e = cc

noted_written : (w : ChannelLists) (senders counts new : List ℕ) (receivers from to i s f : ℕ) (y : Queue) → IsWired w senders counts receivers → IsPlace w from to i →
    NotesSender senders receivers from to s f y.parcels → slice_index new to ≡ count_of s → ((q : ℕ) → q ≢ to → slice_index new q ≡ slice_index counts q) → IsWired (written w i y) (set senders to s) new f
noted_written w senders counts new receivers from to i s f y k h n counted same_counts =
    let long : to < length senders = omega (arith, h.to_in, k.one_each) in
    let here = here_written w senders counts receivers from to i s f y k h n in
    let apart = apart_written w from to i y h in
    record {
      few = k.few;
      square = length-set w.queues i y ∙ k.square;
      one_each = length-set senders to s ∙ k.one_each;
      exact = λ p q b. elim (cases_eq q to) [
        | inl same ↦ rw (same, get_or-set_same senders to s 0 long) (here p)
        | inr other ↦ rw (get_or-set_other senders to q s 0 other) (k.exact p q b ∙ ap has_parcel (sym (apart p q other)))
      ];
      some = λ q e. elim (cases_eq q to) [
        | inl same ↦
            let r = n.some (ap (has f) (sym same) ∙ e) in
            (r.0, subst (λ (t : ℕ). has_parcel (channel (written w i y) r.0 t) ≡ true) (sym same) (sym (here r.0) ∙ r.1))
        | inr other ↦
            let r = k.some q (sym (n.apart q other) ∙ e) in
            (r.0, ap has_parcel (apart r.0 q other) ∙ r.1)
      ];
      none = λ p q e. elim (cases_eq q to) [
        | inl same ↦ rw same (no_parcel _ (sym (here p) ∙ n.none (ap (has f) (sym same) ∙ e) p))
        | inr other ↦ apart p q other ∙ k.none p q (sym (n.apart q other) ∙ e)
      ];
      counted = λ q b. elim (cases_eq q to) [
        | inl same ↦ rw (same, get_or-set_same senders to s 0 long) counted
        | inr other ↦ rw (get_or-set_other senders to q s 0 other) (same_counts q other ∙ k.counted q b)
      ];
      past = λ q b. let low = h.to_in in same_counts q (let d : q ≢ to = omega (arith, b, low) in d) ∙ k.past q b;
    }

-- a write at one place, with the senders to its receiver and the receivers
pub wired_written : (w : ChannelLists) (senders counts new : List ℕ) (receivers from to i r s t f : ℕ) (y : Queue) → IsWired w senders counts receivers → IsPlace w from to i →
    r ≡ to → t ≡ get_or senders r t → has s from ≡ has_parcel y.parcels → ((p : ℕ) → p ≢ from → has s p ≡ has t p) →
    (has f to ≡ true → (p : ℕ) × (has s p ≡ true)) → (has f to ≡ false → (p : ℕ) → has s p ≡ false) → ((q : ℕ) → q ≢ to → has f q ≡ has receivers q) →
    slice_index new to ≡ count_of s → ((q : ℕ) → q ≢ to → slice_index new q ≡ slice_index counts q) → IsWired (written w i y) (set senders r s) new f
wired_written w senders counts new receivers from to i r s t f y k h it read here others some none apart counted same_counts =
    let long : to < length senders = omega (arith, h.to_in, k.one_each) in
    let old : t ≡ slice_index senders to = subst (λ (j : ℕ). t ≡ get_or senders j t) it read ∙ get_or_default senders to t 0 long in
    subst (λ (j : ℕ). IsWired (written w i y) (set senders j s) new f) (sym it) (noted_written w senders counts new receivers from to i s f y k h (record {
      here = here;
      others = λ p n. others p n ∙ ap (λ (x : ℕ). has x p) old;
      some = some;
      none = none;
      apart = apart;
    }) counted same_counts)

-- where a list has a parcel still, no sender goes
pub wired_left : (w : ChannelLists) (senders counts : List ℕ) (receivers from to i : ℕ) (x y : Queue) → IsWired w senders counts receivers → IsPlace w from to i →
    x ≡ get_or w.queues i x → y.parcels ≡ drop 1 x.parcels → has_parcel y.parcels ≡ true → IsWired (written w i y) senders counts receivers
wired_left w senders counts receivers from to i x y k h read rest still =
    let before = had_parcel x.parcels (ap has_parcel (sym rest) ∙ still) in
    let here : has (slice_index senders to) from ≡ true = k.exact from to h.to_in ∙ (ap (λ (q : Queue). has_parcel q.parcels) (queue_read w from to i x h read) ∙ before) in
    subst (λ (l : List ℕ). IsWired (written w i y) l counts receivers) (set-get_or senders to 0)
    (noted_written w senders counts counts receivers from to i (slice_index senders to) receivers y k h (record {
      here = here ∙ sym still;
      others = λ p n. refl;
      some = λ e. (from, here);
      none = λ e p. k.exact p to h.to_in ∙ ap has_parcel (k.none p to e);
      apart = λ q n. refl;
    }) (k.counted to h.to_in) (λ q n. refl))
  where
    had_parcel : (l : List Parcel) → has_parcel (drop 1 l) ≡ true → has_parcel l ≡ true
    had_parcel [] e = e
    had_parcel (x ∷ xs) e = refl

-- the place that the code finds
pub place_of : (w v : ChannelLists) (from to i : ℕ) → w ≡ v → length w.queues ≡ w.processes * w.processes → from < v.processes → to < v.processes → i ≡ from * v.processes + to → IsPlace w from to i
place_of w v from to i e square a b k =
    let n : w.processes ≡ v.processes = ap (λ (x : ChannelLists). x.processes) e in
    record {
      square = square;
      from_in = omega arith;
      to_in = omega arith;
      place = k ∙ ap (λ (x : ℕ). from * x + to) (sym n);
    }

-- a list that was added to has a parcel
pub has_parcel-append : (new old : List Parcel) (x : Parcel) → new ≡ old ++ x ∷ [] → has_parcel new ≡ true
has_parcel-append new [] x e = ap has_parcel e
has_parcel-append new (y ∷ ys) x e = ap has_parcel e

-- the room of one pair is whatever it is now
pub spare_here : (w : ChannelLists) (from to i : ℕ) (y : Queue) → IsPlace w from to i → spare_of (written w i y) ≡ at_pair from to (spare_of (written w i y) from to) (spare_of w)
spare_here w from to i y h =
    let e = spare_written w from to i y h in
    let k : spare_of (written w i y) from to ≡ y.spare = ap (λ (f : ℕ → ℕ → ℕ). f from to) e ∙ at_itself from to y.spare (spare_of w from to) in
    e ∙ ap (λ (n : ℕ). at_pair from to n (spare_of w)) (sym k)
  where
    at_itself : (p q x y : ℕ) → (if nat_eq p p && nat_eq q q then x else y) ≡ x
    at_itself p q x y = grind (arith, nat_tests)

-- where the room of one pair alone changed, and grew, no room shrank
pub grows_at : (f g : ℕ → ℕ → ℕ) (from to : ℕ) → g ≡ at_pair from to (g from to) f → f from to ≤ g from to → (p q : ℕ) → f p q ≤ g p q
grows_at f g from to e le p q =
    let k : g p q ≡ at_pair from to (g from to) f p q = ap (λ (h : ℕ → ℕ → ℕ). h p q) e in
    elim (cases_eq p from) [
      | inl a ↦ elim (cases_eq q to) [
        | inl b ↦ rw (a, b) le
        | inr b ↦ grind (arith, nat_tests)
      ]
      | inr a ↦ grind (arith, nat_tests)
    ]

-- and that of another pair stayed
pub others_at : (f g : ℕ → ℕ → ℕ) (from to : ℕ) → g ≡ at_pair from to (g from to) f → (p q : ℕ) → (p ≡ from → q ≡ to → ⊥) → g p q ≡ f p q
others_at f g from to e p q n =
    let k : g p q ≡ at_pair from to (g from to) f p q = ap (λ (h : ℕ → ℕ → ℕ). h p q) e in grind (arith, nat_tests)

-- the count of the senders that were there
pub count_before : (w : ChannelLists) (senders counts : List ℕ) (receivers from to i r t : ℕ) → IsWired w senders counts receivers → IsPlace w from to i → r ≡ to → t ≡ get_or senders r t → slice_index counts to ≡ count_of t
count_before w senders counts receivers from to i r t k h it read =
    let long : to < length senders = omega (arith, h.to_in, k.one_each) in
    let old : t ≡ slice_index senders to = subst (λ (j : ℕ). t ≡ get_or senders j t) it read ∙ get_or_default senders to t 0 long in
    k.counted to h.to_in ∙ ap count_of (sym old)

-- room for more changes no list
at_itself : (p from q to : ℕ) (f : ℕ → ℕ → List Parcel) → at_pair from to (f from to) f p q ≡ f p q
at_itself p from q to f = elim (cases_eq p from) [
  | inl a ↦ elim (cases_eq q to) [
    | inl b ↦ rw (a, b) (at_both from to (f from to) (f from to))
    | inr b ↦ off_second p q from to (f from to) (f p q) b
  ]
  | inr a ↦ off_one p from q to (f from to) (f p q) a
]
  where
    off_one : (p from q to : ℕ) (x y : List Parcel) → p ≢ from → (if nat_eq p from && nat_eq q to then x else y) ≡ y
    off_one p from q to x y n = grind (arith, nat_tests)

pub lists_kept : (w : ChannelLists) (from to i : ℕ) (x y : Queue) → IsPlace w from to i → x ≡ get_or w.queues i x → y.parcels ≡ x.parcels → channel (written w i y) ≡ channel w
lists_kept w from to i x y h r e =
    lists_changed w from to i x y (λ l. l) h r e
    ∙ fun_ext (λ p. fun_ext (λ q. at_itself p from q to (channel w)))

pub wired_kept : (w : ChannelLists) (senders counts : List ℕ) (receivers i : ℕ) (y : Queue) → IsWired w senders counts receivers → channel (written w i y) ≡ channel w → IsWired (written w i y) senders counts receivers
wired_kept w senders counts receivers i y k e =
    let at = λ (p q : ℕ). ap (λ (f : ℕ → ℕ → List Parcel). f p q) e in
    record {
      few = k.few;
      square = length-set w.queues i y ∙ k.square;
      one_each = k.one_each;
      exact = λ p q b. k.exact p q b ∙ ap has_parcel (sym (at p q));
      some = λ q m. let r = k.some q m in (r.0, ap has_parcel (at r.0 q) ∙ r.1);
      none = λ p q m. at p q ∙ k.none p q m;
      counted = k.counted;
      past = k.past;
    }
