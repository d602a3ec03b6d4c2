-- Messages in the order of their sends, and where one belongs among them.
use Rattle.std.proofs.Common.{◌≡◌, ℕ, zero, suc, ◌+◌, ◌-◌, ◌<◌, ◌≤◌, true, false, Some, List, [], ◌∷◌, ◌++◌, length, length-append, get_or, take, drop, refl, sym, ap, ◌∙◌, subst, arith, inl, inr}
use Rattle.std.specs.List.{slice_get, remove}
use Rattle.std.specs.List.Sorted.{IsPartitionPoint, IsPartitionedBy}
use Rattle.std.specs.Prelude.{nat_lt}
use Rattle.std.proofs.lemmas.Bool.{cases_lt, cases_eq}
use Rattle.std.proofs.lemmas.Bool.Decides.{nat_tests}
use Rattle.std.proofs.lemmas.Option.{slice_get_within, slice_get-get_or, get_or_from_slice_get}
use Rattle.kt_walk.specs.declared.in_transit.Sent.{Sent}
use Rattle.kt_walk.specs.TransitList.{IsBySend, Belongs, AreSentBefore}
use Rattle.kt_walk.specs.Marks.{AreRisingMessages}

pub get_left : {X : Type 0} (xs ys : List X) (i : ℕ) → i < length xs → slice_get (xs ++ ys) i ≡ slice_get xs i
get_left [] ys i l = absurd (omega arith)
get_left (x ∷ xs) ys zero l = refl
get_left (x ∷ xs) ys (suc i) l = get_left xs ys i (omega arith)

pub get_right : {X : Type 0} (xs ys : List X) (i n : ℕ) → n ≡ length xs + i → slice_get (xs ++ ys) n ≡ slice_get ys i
get_right [] ys i n e = ap (slice_get ys) (omega (arith, e))
get_right (x ∷ xs) ys i zero e = absurd (omega (arith, e))
get_right (x ∷ xs) ys i (suc n) e = get_right xs ys i n (omega (arith, e))

-- each half of messages in order is in order
pub in_order_left : (xs ys : List Sent) → IsBySend (xs ++ ys) → IsBySend xs
in_order_left xs ys o = record {
  each = λ j k a b l e f. o.each j k a b l (get_left xs ys j (slice_get_within xs j a e) ∙ e) (get_left xs ys k (slice_get_within xs k b f) ∙ f);
}

pub in_order_right : (xs ys : List Sent) → IsBySend (xs ++ ys) → IsBySend ys
in_order_right xs ys o = record {
  each = λ j k a b l e f. o.each (length xs + j) (length xs + k) a b (omega (arith, l)) (get_right xs ys j (length xs + j) refl ∙ e) (get_right xs ys k (length xs + k) refl ∙ f);
}

pub rising_left : (xs ys : List Sent) → AreRisingMessages (xs ++ ys) → AreRisingMessages xs
rising_left xs ys o = record {
  each = λ j k a b l e f. o.each j k a b l (get_left xs ys j (slice_get_within xs j a e) ∙ e) (get_left xs ys k (slice_get_within xs k b f) ∙ f);
}

pub rising_right : (xs ys : List Sent) → AreRisingMessages (xs ++ ys) → AreRisingMessages ys
rising_right xs ys o = record {
  each = λ j k a b l e f. o.each (length xs + j) (length xs + k) a b (omega (arith, l)) (get_right xs ys j (length xs + j) refl ∙ e) (get_right xs ys k (length xs + k) refl ∙ f);
}

pub rising_by_send : (xs : List Sent) → IsBySend xs → AreRisingMessages xs
rising_by_send xs o = record { each = λ j k a b l e f. (o.each j k a b l e f).msg }

-- messages in order are parted by a number
pub parted_by : (xs : List Sent) (msg : ℕ) → AreRisingMessages xs → IsPartitionedBy (λ (a : Sent). nat_lt a.msg msg) xs
parted_by xs msg o i j d le lt below = elim (cases_eq i j) [
  | inl same ↦ rw same below
  | inr other ↦
      let low : (get_or xs i d).msg < (get_or xs j d).msg =
      (o.each i j (get_or xs i d) (get_or xs j d) (omega (arith, other, le)) (slice_get-get_or xs i d (omega (arith, le, lt))) (slice_get-get_or xs j d lt)) in
      still_below (get_or xs i d).msg (get_or xs j d).msg msg low below
]
  where
    still_below : (a b n : ℕ) → a < b → nat_lt b n ≡ true → nat_lt a n ≡ true
    still_below a b n l e = grind (arith, nat_tests)

pub belongs_at : (xs : List Sent) (msg i : ℕ) → i ≤ length xs → IsPartitionPoint (λ (a : Sent). nat_lt a.msg msg ≡ true) (λ (a : Sent). nat_lt a.msg msg ≡ false) xs i → Belongs msg xs i
belongs_at xs msg i within p = record {
  within = within;
  below = λ k a low e.
      let here : nat_lt a.msg msg ≡ true = subst (λ (b : Sent). nat_lt b.msg msg ≡ true) (get_or_from_slice_get xs k a a e) (p.0 k a (omega arith) low) in
      below_of a.msg msg here;
  above = λ k a low e.
      let here : nat_lt a.msg msg ≡ false = subst (λ (b : Sent). nat_lt b.msg msg ≡ false) (get_or_from_slice_get xs k a a e) (p.1 k a low (slice_get_within xs k a e)) in
      above_of a.msg msg here;
}
  where
    below_of : (a b : ℕ) → nat_lt a b ≡ true → a < b
    below_of a b e = grind (arith, nat_tests)

    above_of : (a b : ℕ) → nat_lt a b ≡ false → b ≤ a
    above_of a b e = grind (arith, nat_tests)

-- a number that is not below the first of the messages after the cursor belongs before it
pub belongs_before : (xs ys : List Sent) (msg i : ℕ) → AreRisingMessages (xs ++ ys) → ((a : Sent) → slice_get ys 0 ≡ Some a → msg ≤ a.msg) → Belongs msg xs i → Belongs msg (xs ++ ys) i
belongs_before xs ys msg i o first b = record {
  within = omega (arith, b.within, length-append xs ys);
  below = λ k a low e. b.below k a low (sym (get_left xs ys k (omega (arith, low, b.within))) ∙ e);
  above = λ k a high e. elim (cases_lt k (length xs)) [
    | inl left ↦ b.above k a high (sym (get_left xs ys k left) ∙ e)
    | inr right ↦ after (k - length xs) a (sym (get_right xs ys (k - length xs) k (omega (arith, right))) ∙ e)
  ];
}
  where
    after : (j : ℕ) (a : Sent) → slice_get ys j ≡ Some a → msg ≤ a.msg
    after zero a e = first a e
    after (suc j) a e =
        let there : slice_get ys 0 ≡ Some (get_or ys 0 a) = slice_get-get_or ys 0 a (omega (arith, slice_get_within ys (suc j) a e)) in
        omega (arith, first (get_or ys 0 a) there, (rising_right xs ys o).each 0 (suc j) (get_or ys 0 a) a (omega arith) there e)

-- a number above the first of the messages after the cursor belongs among them
pub belongs_after : (xs ys : List Sent) (msg i : ℕ) (first : Sent) → AreRisingMessages (xs ++ ys) → slice_get ys 0 ≡ Some first → first.msg < msg → Belongs msg ys i
    → Belongs msg (xs ++ ys) (length xs + i)
belongs_after xs ys msg i first o at low b = record {
  within = omega (arith, b.within, length-append xs ys);
  below = λ k a less e. elim (cases_lt k (length xs)) [
    | inl left ↦ omega (arith, low, o.each k (length xs + 0) a first (omega (arith, left)) e (get_right xs ys 0 (length xs + 0) refl ∙ at))
    | inr right ↦ b.below (k - length xs) a (omega (arith, right, less)) (sym (get_right xs ys (k - length xs) k (omega (arith, right))) ∙ e)
  ];
  above = λ k a more e. b.above (k - length xs) a (omega (arith, more)) (sym (get_right xs ys (k - length xs) k (omega (arith, more))) ∙ e);
}

-- what is taken and put at the cursor
pub taken_at : {X : Type 0} (xs ys : List X) (n : ℕ) → length xs ≡ n → xs ++ drop 1 ys ≡ remove (xs ++ ys) n
taken_at xs ys n e = subst (λ (i : ℕ). xs ++ drop 1 ys ≡ remove (xs ++ ys) i) e (at_seam xs ys)
  where
    at_seam : {X : Type 0} (xs ys : List X) → xs ++ drop 1 ys ≡ remove (xs ++ ys) (length xs)
    at_seam [] [] = refl
    at_seam [] (y ∷ ys) = refl
    at_seam (x ∷ xs) ys = ap (λ (l : _). x ∷ l) (at_seam xs ys)

pub take_joined : {X : Type 0} (xs ys : List X) (n : ℕ) → take n xs ++ take (n - length xs) ys ≡ take n (xs ++ ys)
take_joined [] ys zero = refl
take_joined [] ys (suc n) =
    let all : suc n - 0 ≡ suc n = omega arith in
    ap (λ (k : ℕ). take k ys) all
take_joined (x ∷ xs) ys zero =
    let none : 0 - suc (length xs) ≡ 0 = omega arith in
    ap (λ (k : ℕ). take k ys) none
take_joined (x ∷ xs) ys (suc n) =
    let one_less : suc n - suc (length xs) ≡ n - length xs = omega arith in
    ap (λ (k : ℕ). x ∷ (take n xs ++ take k ys)) one_less ∙ ap (λ (l : _). x ∷ l) (take_joined xs ys n)

-- messages in order are parted by a place
pub parted_by_place : (xs : List Sent) (place : ℕ) → IsBySend xs → IsPartitionedBy (λ (a : Sent). nat_lt a.place place) xs
parted_by_place xs place o i j d le lt below = elim (cases_eq i j) [
  | inl same ↦ rw same below
  | inr other ↦
      let low : (get_or xs i d).place < (get_or xs j d).place =
      (o.each i j (get_or xs i d) (get_or xs j d) (omega (arith, other, le)) (slice_get-get_or xs i d (omega (arith, le, lt))) (slice_get-get_or xs j d lt)).place in
      still_below (get_or xs i d).place (get_or xs j d).place place low below
]
  where
    still_below : (a b n : ℕ) → a < b → nat_lt b n ≡ true → nat_lt a n ≡ true
    still_below a b n l e = grind (arith, nat_tests)

pub sent_before_at : (xs : List Sent) (place i : ℕ) → IsPartitionPoint (λ (a : Sent). nat_lt a.place place ≡ true) (λ (a : Sent). nat_lt a.place place ≡ false) xs i → AreSentBefore place xs i
sent_before_at xs place i p = record {
  before = λ k a low e.
      let here : nat_lt a.place place ≡ true = subst (λ (b : Sent). nat_lt b.place place ≡ true) (get_or_from_slice_get xs k a a e) (p.0 k a (omega arith) low) in
      below_of a.place place here;
  not_before = λ k a low e.
      let here : nat_lt a.place place ≡ false = subst (λ (b : Sent). nat_lt b.place place ≡ false) (get_or_from_slice_get xs k a a e) (p.1 k a low (slice_get_within xs k a e)) in
      above_of a.place place here;
}
  where
    below_of : (a b : ℕ) → nat_lt a b ≡ true → a < b
    below_of a b e = grind (arith, nat_tests)

    above_of : (a b : ℕ) → nat_lt a b ≡ false → b ≤ a
    above_of a b e = grind (arith, nat_tests)

-- where the first half was sent before the place, the second one tells the rest
pub before_right : (xs ys : List Sent) (place i : ℕ) → AreSentBefore place xs (length xs) → AreSentBefore place ys i → AreSentBefore place (xs ++ ys) (length xs + i)
before_right xs ys place i all b = record {
  before = λ k a l e. elim (cases_lt k (length xs)) [
    | inl left ↦ all.before k a left (sym (get_left xs ys k left) ∙ e)
    | inr right ↦ b.before (k - length xs) a (omega (arith, l, right)) (sym (get_right xs ys (k - length xs) k (omega (arith, right))) ∙ e)
  ];
  not_before = λ k a high e. b.not_before (k - length xs) a (omega (arith, high)) (sym (get_right xs ys (k - length xs) k (omega (arith, high))) ∙ e);
}
