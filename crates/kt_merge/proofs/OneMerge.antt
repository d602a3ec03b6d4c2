-- Lists of rows that are sorted, and have the same rows of each process in order, are one list.
use Rattle.std.proofs.Common.{◌≡◌, ◌≢◌, ◌∙◌, ◌<◌, ◌≤◌, ◌==◌, ◌⊎◌, ℕ, suc, Bool, true, false, Some, List, [], ◌∷◌, length, refl, sym, ap, subst, arith, inl, inr}
use Rattle.std.specs.Prelude.{cond, All, AllPairs}
use Rattle.std.specs.List.{slice_get}
use Rattle.std.proofs.lemmas.Bool.{cases_eq, cases_lt}
use Rattle.std.proofs.lemmas.List.Elements.{All-head, All-tail}
use Rattle.std.proofs.lemmas.Option.{slice_get_within, get_or_from_slice_get}
use Rattle.kt_meaning.proofs.PlaceFacts.{same_test, tested}
use Rattle.kt_spacetime.specs.declared.named_rows.ClockedRow.{ClockedRow}
use Rattle.kt_spacetime.specs.ClockedRows.{rows_of}
use Rattle.kt_merge.specs.Reading.{PartRead}
use Rattle.kt_merge.proofs.TextFacts.{one_part}
use Rattle.kt_merge.specs.Heads.{IsNotLater}
use Rattle.kt_merge.specs.Merging.{AreKnown, IsMergeOf}

-- a row of a process among its rows, and one of another process
pub of_it : (p : ℕ) (x : ClockedRow) (xs : List ClockedRow) → x.row.p ≡ p → rows_of p (x ∷ xs) ≡ x ∷ rows_of p xs
of_it p x xs e =
    let yes : (x.row.p == p) ≡ true = subst (λ (q : ℕ). (x.row.p == q) ≡ true) e (same_test x.row.p) in
    ap (λ (b : Bool). cond b (x ∷ rows_of p xs) (rows_of p xs)) yes

not_test : (a b : ℕ) → a ≢ b → (a == b) ≡ false
not_test a b n = at_test (a == b) refl
  where
    at_test : (t : Bool) → (a == b) ≡ t → (a == b) ≡ false
    at_test true e = absurd (n (tested a b e))
    at_test false e = e

pub of_other : (p : ℕ) (x : ClockedRow) (xs : List ClockedRow) → x.row.p ≢ p → rows_of p (x ∷ xs) ≡ rows_of p xs
of_other p x xs n = ap (λ (b : Bool). cond b (x ∷ rows_of p xs) (rows_of p xs)) (not_test x.row.p p n)

-- the first row of a process stands among all
pub stands : (p : ℕ) (x : ClockedRow) (rest ys : List ClockedRow) → rows_of p ys ≡ x ∷ rest → (j : ℕ) × (slice_get ys j ≡ Some x)
stands p x rest [] e = cc e
stands p x rest (y ∷ ys) e = elim (cases_eq y.row.p p) [
  | inl same ↦ let here : y ≡ x = cc (sym (of_it p y ys same) ∙ e) in (0, ap Some here)
  | inr other ↦
      let there = stands p x rest ys (sym (of_other p y ys other) ∙ e) in
      (suc there.0, there.1)
]

-- what comes after the first row of a sorted list
pub after_first : (y x : ClockedRow) (ys : List ClockedRow) (j : ℕ) → AllPairs IsNotLater (y ∷ ys) → slice_get ys j ≡ Some x → IsNotLater y x
after_first y x ys j sorted e =
    let within = slice_get_within ys j x e in
    let pair = sorted 0 (suc j) y (omega arith) (omega (arith, within)) in
    subst (λ (r : ClockedRow). IsNotLater y r) (get_or_from_slice_get ys j x y e) pair

pub rest_sorted : (y : ClockedRow) (ys : List ClockedRow) → AllPairs IsNotLater (y ∷ ys) → AllPairs IsNotLater ys
rest_sorted y ys sorted i j d low l = sorted (suc i) (suc j) d (omega (arith, low)) (omega (arith, l))

pub both_ways : (x y : ClockedRow) → IsNotLater x y → IsNotLater y x → x.row.p ≡ y.row.p
both_ways x y (inl a) (inl b) = absurd (omega (arith, a, b))
both_ways x y (inl a) (inr b) = absurd (omega (arith, a, b.0))
both_ways x y (inr a) (inl b) = absurd (omega (arith, a.0, b))
both_ways x y (inr a) (inr b) = omega (arith, a.1, b.1)

-- the first rows are one
same_first : (x y : ClockedRow) (xs ys : List ClockedRow) → AllPairs IsNotLater (x ∷ xs) → AllPairs IsNotLater (y ∷ ys) → ((p : ℕ) → rows_of p (x ∷ xs) ≡ rows_of p (y ∷ ys)) → x ≡ y
same_first x y xs ys s t e = elim (cases_eq y.row.p x.row.p) [
  | inl same ↦
      let firsts : x ∷ rows_of x.row.p xs ≡ y ∷ rows_of x.row.p ys = sym (of_it x.row.p x xs refl) ∙ (e x.row.p ∙ of_it x.row.p y ys same) in
      cc firsts
  | inr other ↦
      let x_there = stands x.row.p x (rows_of x.row.p xs) ys (sym (of_other x.row.p y ys other) ∙ (sym (e x.row.p) ∙ of_it x.row.p x xs refl)) in
      let y_there = stands y.row.p y (rows_of y.row.p ys) xs (sym (of_other y.row.p x xs (λ f. other (sym f))) ∙ (e y.row.p ∙ of_it y.row.p y ys refl)) in
      absurd (other (both_ways y x (after_first y x ys x_there.0 t x_there.1) (after_first x y xs y_there.0 s y_there.1)))
]

-- what is left of each process, without a first row that is one
same_rest : (x y : ClockedRow) (xs ys : List ClockedRow) → x ≡ y → ((p : ℕ) → rows_of p (x ∷ xs) ≡ rows_of p (y ∷ ys)) → (p : ℕ) → rows_of p xs ≡ rows_of p ys
same_rest x y xs ys same e p = elim (cases_eq x.row.p p) [
  | inl here ↦
      let y_here : y.row.p ≡ p = ap (λ (r : ClockedRow). r.row.p) (sym same) ∙ here in
      let whole : x ∷ rows_of p xs ≡ y ∷ rows_of p ys = sym (of_it p x xs here) ∙ (e p ∙ of_it p y ys y_here) in
      cc whole
  | inr other ↦
      let y_other : y.row.p ≢ p = λ f. other (ap (λ (r : ClockedRow). r.row.p) same ∙ f) in
      sym (of_other p x xs other) ∙ (e p ∙ of_other p y ys y_other)
]

pub merged_once : (rows others : List ClockedRow) → AllPairs IsNotLater rows → AllPairs IsNotLater others → ((p : ℕ) → rows_of p rows ≡ rows_of p others) → rows ≡ others
merged_once [] [] s t e = refl
merged_once [] (y ∷ ys) s t e = let none : [] ≡ y ∷ rows_of y.row.p ys = e y.row.p ∙ of_it y.row.p y ys refl in cc none
merged_once (x ∷ xs) [] s t e = let none : x ∷ rows_of x.row.p xs ≡ [] = sym (of_it x.row.p x xs refl) ∙ e x.row.p in cc none
merged_once (x ∷ xs) (y ∷ ys) s t e =
    let same = same_first x y xs ys s t e in
    let rest = merged_once xs ys (rest_sorted x xs s) (rest_sorted y ys t) (same_rest x y xs ys same e) in
    cc (same, rest)

-- no row is of a process without a part
pub none_beyond : (n p : ℕ) (rows : List ClockedRow) → n ≤ p → All (λ r. r.row.p < n) rows → rows_of p rows ≡ []
none_beyond n p [] l a = refl
none_beyond n p (x ∷ xs) l a =
    let here : x.row.p < n = All-head (λ (r : ClockedRow). r.row.p < n) x xs a in
    of_other p x xs (λ e. absurd (omega (arith, here, e, l))) ∙ none_beyond n p xs l (All-tail (λ (r : ClockedRow). r.row.p < n) x xs a)

pub one_merge : (parts : List PartRead) (rows others : List ClockedRow) → AreKnown parts → IsMergeOf parts rows → IsMergeOf parts others → rows ≡ others
one_merge parts rows others known m n = merged_once rows others m.sorted.sorted n.sorted.sorted each
  where
    each : (p : ℕ) → rows_of p rows ≡ rows_of p others
    each p = at_part (cases_lt p (length parts))
      where
        at_part : (p < length parts) ⊎ (length parts ≤ p) → rows_of p rows ≡ rows_of p others
        at_part (inl less) = let text = known p less in one_part p text.0 (rows_of p rows) (rows_of p others) (m.whole p text.0 text.1) (n.whole p text.0 text.1)
        at_part (inr more) = none_beyond (length parts) p rows more m.sorted.of_parts ∙ sym (none_beyond (length parts) p others more n.sorted.of_parts)
