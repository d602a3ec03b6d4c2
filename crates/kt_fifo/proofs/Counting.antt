-- Counts and sums of the first so many.
use Rattle.std.specs.Prelude.{slice_index, if◌then◌else◌, Option, Some, None, IfSome, IfNone}
use Rattle.std.proofs.Common.{◌≡◌, ◌≢◌, ℕ, zero, suc, ◌+◌, ◌*◌, ◌≤◌, ◌<◌, Bool, true, false, List, length, set, replicate, refl, arith, sym, ap, subst, ◌∙◌, inl, inr, add-one, add-zero}
use Rattle.std.proofs.lemmas.List.{get_or-set_same, get_or-set_other}
use Rattle.std.proofs.lemmas.Bool.{cases_lt, cases_eq}
use Rattle.kt_base.specs.Sets.{has, count_below, count_of}
use Rattle.kt_fifo.specs.Counts.{count_first, count_pairs, sum_first, AreSums}

pub sum_none : (xs : List ℕ) → sum_first xs 0 ≡ 0
unfolding sum_first
sum_none xs = refl

pub sum_more : (xs : List ℕ) (n : ℕ) → sum_first xs (suc n) ≡ sum_first xs n + slice_index xs n
unfolding sum_first
sum_more xs n = refl

-- a sum of more is not less
pub sum_rises : (xs : List ℕ) (a b : ℕ) → a ≤ b → sum_first xs a ≤ sum_first xs b
sum_rises xs a zero l = let e : a ≡ 0 = omega (arith, l) in subst (λ (n : ℕ). sum_first xs n ≤ sum_first xs 0) (sym e) (omega arith)
sum_rises xs a (suc b) l = elim (cases_lt b a) [
  | inl m ↦ let e : suc b ≡ a = omega (arith, l, m) in subst (λ (n : ℕ). sum_first xs a ≤ sum_first xs n) (sym e) (omega arith)
  | inr h ↦ let before = sum_rises xs a b h in let more = sum_more xs b in omega (arith, before, more)
]

-- numbers up to 64 do not sum up to more
pub sum_few : (xs : List ℕ) → ((p : ℕ) → slice_index xs p ≤ 64) → (n : ℕ) → sum_first xs n ≤ 64 * n
sum_few xs few zero = let none = sum_none xs in omega (arith, none)
sum_few xs few (suc n) = let before = sum_few xs few n in let more = sum_more xs n in let last = few n in omega (arith, before, more, last)

-- where zeros follow, the sum stays
pub sum_stays : (xs : List ℕ) (a b : ℕ) → a ≤ b → ((p : ℕ) → a ≤ p → slice_index xs p ≡ 0) → sum_first xs b ≡ sum_first xs a
sum_stays xs a zero l none = let e : zero ≡ a = omega (arith, l) in ap (λ (n : ℕ). sum_first xs n) e
sum_stays xs a (suc b) l none = elim (cases_lt b a) [
  | inl m ↦ let e : suc b ≡ a = omega (arith, l, m) in ap (λ (n : ℕ). sum_first xs n) e
  | inr h ↦ let before = sum_stays xs a b h none in let more = sum_more xs b in let last = none b h in omega (arith, before, more, last)
]

-- a write past the first so many leaves their sum
pub sum_before : (xs : List ℕ) (p v n : ℕ) → n ≤ p → sum_first (set xs p v) n ≡ sum_first xs n
sum_before xs p v zero l = sum_none (set xs p v) ∙ sym (sum_none xs)
sum_before xs p v (suc n) l =
    let before = sum_before xs p v n (omega (arith, l)) in
    let new = sum_more (set xs p v) n in
    let old = sum_more xs n in
    let same = get_or-set_other xs p n v 0 (let d : n ≢ p = omega (arith, l) in d) in
    omega (arith, before, new, old, same)

-- one among them changes it by as much
pub sum_after : (xs : List ℕ) (p v n : ℕ) → p < n → p < length xs → sum_first (set xs p v) n + slice_index xs p ≡ sum_first xs n + v
sum_after xs p v zero l k = absurd (omega (arith, l))
sum_after xs p v (suc n) l k =
    let new = sum_more (set xs p v) n in
    let old = sum_more xs n in
    elim (cases_lt p n) [
      | inl m ↦
          let before = sum_after xs p v n m k in
          let same = get_or-set_other xs p n v 0 (let d : n ≢ p = omega (arith, m) in d) in
          omega (arith, before, new, old, same)
      | inr h ↦
          let e : n ≡ p = omega (arith, l, h) in
          let before = sum_before xs p v n (omega (arith, e)) in
          let here = ap (λ (q : ℕ). slice_index (set xs p v) q) e ∙ get_or-set_same xs p v 0 k in
          let was = ap (λ (q : ℕ). slice_index xs q) e in
          omega (arith, before, new, old, here, was)
    ]

few_set : (xs : List ℕ) (p v : ℕ) → ((q : ℕ) → slice_index xs q ≤ 64) → p < length xs → v ≤ 64 → (q : ℕ) → slice_index (set xs p v) q ≤ 64
few_set xs p v few k small q = elim (cases_eq q p) [
  | inl e ↦ let here = ap (λ (r : ℕ). slice_index (set xs p v) r) e ∙ get_or-set_same xs p v 0 k in omega (arith, here, small)
  | inr n ↦ let same = get_or-set_other xs p q v 0 n in let was = few q in omega (arith, same, was)
]

-- one number changes, and so does the sum of its eight
pub sums_set : (each eights : List ℕ) (p j v w : ℕ) → AreSums each eights → p < length each → j < length eights → 8 * j ≤ p → p < 8 * j + 8 → v ≤ 64
    → w + slice_index each p ≡ slice_index eights j + v → AreSums (set each p v) (set eights j w)
sums_set each eights p j v w sums inside there from to small e = record {
  few = few_set each p v sums.few inside small;
  sums = λ k l.
      let was = sums.sums k l in
      elim (cases_eq k j) [
        | inl same ↦
            let low = sum_before each p v (8 * k) (omega (arith, same, from)) in
            let high = sum_after each p v (8 * k + 8) (omega (arith, same, to)) inside in
            let here = ap (λ (r : ℕ). slice_index (set eights j w) r) same ∙ get_or-set_same eights j w 0 there in
            let old = ap (λ (r : ℕ). slice_index eights r) same in
            omega (arith, was, low, high, here, old, e)
        | inr other ↦
            let here = get_or-set_other eights j k w 0 other in
            elim (cases_lt k j) [
              | inl m ↦
                  let low = sum_before each p v (8 * k) (omega (arith, m, from)) in
                  let high = sum_before each p v (8 * k + 8) (omega (arith, m, from)) in
                  omega (arith, was, low, high, here)
              | inr h ↦
                  let low = sum_after each p v (8 * k) (omega (arith, h, other, to)) inside in
                  let high = sum_after each p v (8 * k + 8) (omega (arith, h, other, to)) inside in
                  omega (arith, was, low, high, here)
            ]
      ];
}

-- the sum of eight numbers is at most 512, and each of them is at most it
pub eight_few : (each eights : List ℕ) (j : ℕ) → AreSums each eights → j < 8 → slice_index eights j ≤ 4096
eight_few each eights j sums l =
    let is = sums.sums j l in
    let few = sum_few each sums.few (8 * j + 8) in
    omega (arith, is, few, l)

pub eight_has : (each eights : List ℕ) (p j : ℕ) → AreSums each eights → j < 8 → 8 * j ≤ p → p < 8 * j + 8 → slice_index each p ≤ slice_index eights j
eight_has each eights p j sums l from to =
    let is = sums.sums j l in
    let low = sum_rises each (8 * j) p from in
    let high = sum_rises each (suc p) (8 * j + 8) (omega (arith, to)) in
    let more = sum_more each p in
    omega (arith, is, low, high, more)

-- a list of zeros
pub sum_zeros : (xs : List ℕ) → ((p : ℕ) → slice_index xs p ≡ 0) → (n : ℕ) → sum_first xs n ≡ 0
sum_zeros xs none n = sum_stays xs 0 n (omega arith) (λ p _. none p) ∙ sum_none xs

pub sums_none : (each eights : List ℕ) → ((p : ℕ) → slice_index each p ≡ 0) → ((k : ℕ) → slice_index eights k ≡ 0) → AreSums each eights
sums_none each eights none zeros = record {
  few = λ p. let e = none p in omega (arith, e);
  sums = λ k l. let a = sum_zeros each none (8 * k + 8) in let b = sum_zeros each none (8 * k) in let z = zeros k in omega (arith, a, b, z);
}

-- the members of a set below a number are those that pass
pub below_is : (set : ℕ) (f : ℕ → Bool) → ((q : ℕ) → has set q ≡ f q) → (n : ℕ) → count_below set n ≡ count_first f n
unfolding count_below count_first
below_is set f same zero = refl
below_is set f same (suc n) = rw (below_is set f same n, same n) refl

pub first_more : (f : ℕ → Bool) (n : ℕ) → f n ≡ false → count_first f (suc n) ≡ count_first f n
unfolding count_first
first_more f n e = rw e (add-zero _)

-- where none passes past a number, no more are counted
pub first_stays : (f : ℕ → Bool) (a b : ℕ) → a ≤ b → ((q : ℕ) → a ≤ q → f q ≡ false) → count_first f b ≡ count_first f a
first_stays f a zero l none = let e : zero ≡ a = omega (arith, l) in ap (λ (n : ℕ). count_first f n) e
first_stays f a (suc b) l none = elim (cases_lt b a) [
  | inl m ↦ let e : suc b ≡ a = omega (arith, l, m) in ap (λ (n : ℕ). count_first f n) e
  | inr h ↦ first_more f b (none b h) ∙ first_stays f a b h none
]

pub count_is : (set : ℕ) (f : ℕ → Bool) (n : ℕ) → ((q : ℕ) → has set q ≡ f q) → n ≤ 64 → ((q : ℕ) → n ≤ q → f q ≡ false) → count_of set ≡ count_first f n
count_is set f n same few none = below_is set f same 64 ∙ first_stays f n 64 few none

-- counts of rows sum up to those of pairs
pub pairs_are : (f : ℕ → ℕ → Bool) (m : ℕ) (counts : List ℕ) (n : ℕ) → ((p : ℕ) → p < n → slice_index counts p ≡ count_first (f p) m) → sum_first counts n ≡ count_pairs f m n
unfolding count_pairs
pairs_are f m counts zero each = sum_none counts
pairs_are f m counts (suc n) each =
    let before = pairs_are f m counts n (λ p l. each p (omega (arith, l))) in
    let more = sum_more counts n in
    let last = each n (omega arith) in
    cc

-- how many members are below a number
pub below_more : (set p : ℕ) → has set p ≡ true → count_below set (suc p) ≡ count_below set p + 1
unfolding count_below
below_more set p e = rw e refl

pub below_stays : (set a b : ℕ) → a ≤ b → ((q : ℕ) → a ≤ q → q < b → has set q ≡ false) → count_below set b ≡ count_below set a
unfolding count_below
below_stays set a zero l none = let e : zero ≡ a = omega (arith, l) in ap (λ (n : ℕ). count_below set n) e
below_stays set a (suc b) l none = elim (cases_lt b a) [
  | inl m ↦ let e : suc b ≡ a = omega (arith, l, m) in ap (λ (n : ℕ). count_below set n) e
  | inr h ↦ (rw (none b h (omega arith)) (add-zero _)) ∙ below_stays set a b h (λ q k m. none q k (omega (arith, m)))
]

pub below_none : (set : ℕ) → count_below set 0 ≡ 0
unfolding count_below
below_none set = refl

pub below_few : (set n : ℕ) → count_below set n ≤ n
unfolding count_below
below_few set zero = omega arith
below_few set (suc n) = let few = below_few set n in bit_few (has set n) (count_below set n) n few
  where
    bit_few : (b : Bool) (k m : ℕ) → k ≤ m → k + (if b then 1 else 0) ≤ suc m
    bit_few true k m l = omega (arith, l)
    bit_few false k m l = omega (arith, l)

pub below_rises : (set a b : ℕ) → a ≤ b → count_below set a ≤ count_below set b
unfolding count_below
below_rises set a zero l = let e : a ≡ 0 = omega (arith, l) in subst (λ (n : ℕ). count_below set n ≤ count_below set 0) (sym e) (omega arith)
below_rises set a (suc b) l = elim (cases_lt b a) [
  | inl m ↦ let e : suc b ≡ a = omega (arith, l, m) in subst (λ (n : ℕ). count_below set a ≤ count_below set n) (sym e) (omega arith)
  | inr h ↦ let before = below_rises set a b h in omega (arith, before)
]

-- two sets that differ in nothing below a number have as many members there
pub below_same : (a b n : ℕ) → ((q : ℕ) → q < n → has a q ≡ has b q) → count_below a n ≡ count_below b n
unfolding count_below
below_same a b zero same = refl
below_same a b (suc n) same = rw (below_same a b n (λ q l. same q (omega (arith, l))), same n (omega arith)) refl

-- a set with one member more
pub below_with : (a b p n : ℕ) → p < n → ((q : ℕ) → q ≢ p → has a q ≡ has b q) → has a p ≡ true → has b p ≡ false → count_below a n ≡ count_below b n + 1
unfolding count_below
below_with a b p zero l same on off = absurd (omega (arith, l))
below_with a b p (suc n) l same on off = elim (cases_lt p n) [
  | inl m ↦
      let before = below_with a b p n m same on off in
      let here = same n (let d : n ≢ p = omega (arith, m) in d) in
      rw (before, here) (swapped (count_below b n) (if has b n then 1 else 0))
  | inr h ↦
      let e : n ≡ p = omega (arith, l, h) in
      let before = below_same a b n (λ q k. same q (let d : q ≢ p = omega (arith, k, e) in d)) in
      let one : has a n ≡ true = ap (has a) e ∙ on in
      let none : has b n ≡ false = ap (has b) e ∙ off in
      rw (before, one, none) (omega arith)
]
  where
    swapped : (x y : ℕ) → (x + 1) + y ≡ (x + y) + 1
    swapped x y = omega arith

pub zeros : (n p : ℕ) → slice_index (replicate n 0) p ≡ 0
zeros zero p = refl
zeros (suc n) zero = refl
zeros (suc n) (suc p) = zeros n p

pub sum_next : (xs : List ℕ) (n : ℕ) → sum_first xs (n + 1) ≡ sum_first xs n + slice_index xs n
sum_next xs n = ap (λ (m : ℕ). sum_first xs m) (add-one n) ∙ sum_more xs n

on_some : {X : Type 0} (o : Option X) (P Q : X → Type 0) → IfSome o P → ((x : X) → P x → Q x) → IfSome o Q
on_some None P Q h f = tt
on_some (Some x) P Q h f = f x h

both_some : {X : Type 0} (o : Option X) (P Q R : X → Type 0) → IfSome o P → IfSome o Q → ((x : X) → P x → Q x → R x) → IfSome o R
both_some None P Q R h k f = tt
both_some (Some x) P Q R h k f = f x h k

on_none : {X : Type 0} (o : Option X) (P Q : Type 0) → IfNone o P → (P → Q) → IfNone o Q
on_none None P Q h f = f h
on_none (Some x) P Q h f = tt

-- the members of a set from b on are left, and so many came before
pub record LeftOf (set left b passed : ℕ) : Type 0 where
  pub later : (q : ℕ) → b ≤ q → has left q ≡ has set q
  pub earlier : (q : ℕ) → q < b → has left q ≡ false
  pub counted : count_below set b ≡ passed

pub left_all : (set : ℕ) → LeftOf set set 0 0
left_all set = record {
  later = λ q _. refl;
  earlier = λ q l. absurd (omega (arith, l));
  counted = below_none set;
}

module _ (set left b passed : ℕ) (t : LeftOf set left b passed) where
  -- the next member
  pub next_from : (p : ℕ) → has left p ≡ true → b ≤ p
  next_from p e = elim (cases_lt p b) [
    | inl l ↦ absurd (let f = t.earlier p l in cc (e, f))
    | inr h ↦ h
  ]

  pub next_member : (p : ℕ) → has left p ≡ true → has set p ≡ true
  next_member p e = sym (t.later p (next_from p e)) ∙ e

  pub next_counted : (p : ℕ) → has left p ≡ true → ((q : ℕ) → q < p → has left q ≡ false) → count_below set p ≡ passed
  next_counted p e least = below_stays set b p (next_from p e) (λ q k l. sym (t.later q k) ∙ least q l) ∙ t.counted

  pub left_less : (less p : ℕ) → has left p ≡ true → ((q : ℕ) → q < p → has left q ≡ false) → has less p ≡ false → ((q : ℕ) → q ≢ p → has less q ≡ has left q) → LeftOf set less (suc p) (passed + 1)
  left_less less p e least gone others = record {
    later = λ q k. others q (let d : q ≢ p = omega (arith, k) in d) ∙ t.later q (let from = next_from p e in omega (arith, k, from));
    earlier = λ q k. elim (cases_lt q p) [
      | inl l ↦ others q (let d : q ≢ p = omega (arith, l) in d) ∙ least q l
      | inr h ↦ let same : q ≡ p = omega (arith, k, h) in ap (has less) same ∙ gone
    ];
    counted = below_more set p (next_member p e) ∙ ap (λ (n : ℕ). n + 1) (next_counted p e least);
  }

  -- none is left
  pub none_left : ((q : ℕ) → has left q ≡ false) → count_of set ≤ passed
  none_left none = elim (cases_lt b 64) [
    | inl l ↦ let same = below_stays set b 64 (omega (arith, l)) (λ q k _. sym (t.later q k) ∙ none q) in let is = t.counted in omega (arith, same, is)
    | inr h ↦ let less = below_rises set 64 b h in let is = t.counted in omega (arith, less, is)
  ]

module _ (set left b passed : ℕ) (t : LeftOf set left b passed) (o : Option ℕ) (member : IfSome o (λ p. has left p ≡ true)) where
  pub found_member : IfSome o (λ p. has set p ≡ true)
  found_member = on_some o _ _ member (λ p e. next_member set left b passed t p e)

  pub found_counted : (place : ℕ) → passed ≡ place → IfSome o (λ p. (q : ℕ) → q < p → has left q ≡ false) → IfSome o (λ p. count_below set p ≡ place)
  found_counted place is least = both_some o _ _ _ member least (λ p e l. next_counted set left b passed t p e l ∙ is)

  pub found_none : (place : ℕ) → passed ≤ place → IfNone o ((q : ℕ) → has left q ≡ false) → IfNone o (count_of set ≤ place)
  found_none place few none = on_none o _ _ none (λ h. let l = none_left set left b passed t h in omega (arith, l, few))
