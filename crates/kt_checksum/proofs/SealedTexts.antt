-- Texts with four bytes behind them that differ in one byte.
use Rattle.std.proofs.Common.{◌≡◌, ◌≢◌, ◌⊎◌, ◌∙◌, ◌+◌, ◌^◌, ◌<◌, ◌≤◌, ◌-◌, ◌++◌, ℕ, List, [], ◌∷◌, length, get_or, take, drop, refl, sym, ap, arith, inl, inr, length-append, subst}
use Rattle.std.specs.Int.{w32, to_le_bytes, from_le_bytes}
use Rattle.std.proofs.lemmas.Bool.{cases_lt}
use Rattle.std.proofs.lemmas.List.{get_or_past, get_or-take, length-take, length-drop, take-append-drop}
use Rattle.std.proofs.Math.Seq.{take-length}
use Rattle.std.proofs.lemmas.Nat.{from_le_bytes-to_le_bytes_4}
use Rattle.kt_checksum.specs.Checksums.{checksum, sealed, AreBytes, DifferInOneByte}
use Rattle.kt_checksum.proofs.Apart.{changed, within_32}

head_is : (x y : ℕ) (xs ys : List ℕ) → x ∷ xs ≡ y ∷ ys → x ≡ y
head_is x y xs ys e = ap (λ (l : List ℕ). get_or l 0 0) e

tail_is : (x y : ℕ) (xs ys : List ℕ) → x ∷ xs ≡ y ∷ ys → xs ≡ ys
tail_is x y xs ys e = ap (λ (l : List ℕ). drop 1 l) e

-- lists of one length before others
pub same_front : (xs ys s t : List ℕ) → length xs ≡ length ys → xs ++ s ≡ ys ++ t → (xs ≡ ys) × (s ≡ t)
same_front [] [] s t n e = (refl, e)
same_front [] (y ∷ ys) s t n e = absurd (omega (arith, n))
same_front (x ∷ xs) [] s t n e = absurd (omega (arith, n))
same_front (x ∷ xs) (y ∷ ys) s t n e =
    let more = same_front xs ys s t (omega (arith, n)) (tail_is x y (xs ++ s) (ys ++ t) e) in
    ((λ i. head_is x y (xs ++ s) (ys ++ t) e i ∷ more.0 i), more.1)

-- the byte that differs is in one of two parts
abbrev IsInOne : List ℕ → List ℕ → List ℕ → List ℕ → Type 0
IsInOne xs ys s t = (DifferInOneByte xs ys × (s ≡ t)) ⊎ ((xs ≡ ys) × (s ≡ t → ⊥))

also : (x y : ℕ) (xs ys s t : List ℕ) → x ≡ y → IsInOne xs ys s t → IsInOne (x ∷ xs) (y ∷ ys) s t
also x y xs ys s t e (inl (d, same)) = inl (record { front = x ∷ d.front; back = d.back; old = d.old; new = d.new; other = d.other; is_old = ap (λ (l : List ℕ). x ∷ l) d.is_old; is_new = λ i. sym e i ∷ d.is_new i }, same)
also x y xs ys s t e (inr (same, differ)) = inr ((λ i. e i ∷ same i), differ)

in_one : (front back xs ys s t : List ℕ) (a b : ℕ) → a ≢ b → length xs ≡ length ys → xs ++ s ≡ front ++ a ∷ back → ys ++ t ≡ front ++ b ∷ back → IsInOne xs ys s t
in_one front back [] [] s t a b other n e f =
    inr (refl, λ same. other (head_is a b back back (same_front front front (a ∷ back) (b ∷ back) refl (sym e ∙ (same ∙ f))).1))
in_one front back [] (y ∷ ys) s t a b other n e f = absurd (omega (arith, n))
in_one front back (x ∷ xs) [] s t a b other n e f = absurd (omega (arith, n))
in_one [] back (x ∷ xs) (y ∷ ys) s t a b other n e f =
    let same = same_front xs ys s t (omega (arith, n)) (tail_is x a (xs ++ s) back e ∙ sym (tail_is y b (ys ++ t) back f)) in
    inl (record { front = []; back = xs; old = a; new = b; other = other; is_old = (λ i. head_is x a (xs ++ s) back e i ∷ xs); is_new = (λ i. head_is y b (ys ++ t) back f i ∷ sym same.0 i) }, same.1)
in_one (z ∷ front) back (x ∷ xs) (y ∷ ys) s t a b other n e f =
    also x y xs ys s t (head_is x z (xs ++ s) (front ++ a ∷ back) e ∙ sym (head_is y z (ys ++ t) (front ++ b ∷ back) f))
    (in_one front back xs ys s t a b other (omega (arith, n)) (tail_is x z (xs ++ s) (front ++ a ∷ back) e) (tail_is y z (ys ++ t) (front ++ b ∷ back) f))

pub one_sum : (a b : ℕ) → a < 2 ^ 32 → b < 2 ^ 32 → to_le_bytes w32 a ≡ to_le_bytes w32 b → a ≡ b
one_sum a b h k e = sym (from_le_bytes-to_le_bytes_4 a h) ∙ (ap (from_le_bytes w32) e ∙ from_le_bytes-to_le_bytes_4 b k)

pub length_sealed : (xs : List ℕ) → length (sealed xs) ≡ length xs + 4
length_sealed xs = length-append xs (to_le_bytes w32 (checksum xs))

same_length : (front back : List ℕ) (a b : ℕ) → length (front ++ a ∷ back) ≡ length (front ++ b ∷ back)
same_length front back a b = length-append front (a ∷ back) ∙ sym (length-append front (b ∷ back))

pub sealed_apart : (xs ys : List ℕ) → AreBytes xs → AreBytes ys → DifferInOneByte (sealed xs) (sealed ys) → ⊥
sealed_apart xs ys f g d =
    let lengths : length xs ≡ length ys = omega (arith, length_sealed xs, length_sealed ys, ap length d.is_old, ap length d.is_new, same_length d.front d.back d.old d.new) in
    at_part (in_one d.front d.back xs ys (to_le_bytes w32 (checksum xs)) (to_le_bytes w32 (checksum ys)) d.old d.new d.other lengths d.is_old d.is_new)
  where
    at_part : IsInOne xs ys (to_le_bytes w32 (checksum xs)) (to_le_bytes w32 (checksum ys)) → ⊥
    at_part (inl (e, same)) = changed xs ys f g e (one_sum (checksum xs) (checksum ys) (within_32 xs f) (within_32 ys g) same)
    at_part (inr (same, differ)) = differ (ap (λ l. to_le_bytes w32 (checksum l)) same)

-- the first four bytes are bytes
pub front_fits : (bs : List ℕ) → ((i : ℕ) → get_or bs i 0 < 256) → (i : ℕ) → get_or (take 4 bs) i 0 < 256
front_fits bs h i = elim (cases_lt i 4) [
  | inl less ↦ subst (λ (b : ℕ). b < 256) (sym (get_or-take 4 bs i 0 less)) (h i)
  | inr more ↦ subst (λ (b : ℕ). b < 256) (sym (get_or_past (take 4 bs) i 0 (omega (arith, length-take 4 bs)))) (omega arith)
]

-- a text and four bytes, cut apart, whose number is n
pub record IsCut (bytes text sum : List ℕ) (n : ℕ) : Type 0 where
  pub whole : bytes ≡ text ++ sum
  pub four : length sum ≡ 4
  pub number : to_le_bytes w32 n ≡ take 4 sum

sum_is : (bytes text sum : List ℕ) (n : ℕ) → IsCut bytes text sum n → sum ≡ to_le_bytes w32 n
sum_is bytes text sum n h =
    let all : take 4 sum ≡ sum = sym (ap (λ k. take k sum) h.four) ∙ take-length sum in
    sym all ∙ sym h.number

pub is_sealed : (bytes text sum : List ℕ) (n : ℕ) → IsCut bytes text sum n → n ≡ checksum text → bytes ≡ sealed text
is_sealed bytes text sum n h e = h.whole ∙ ap (λ (l : List ℕ). text ++ l) (sum_is bytes text sum n h ∙ ap (to_le_bytes w32) e)

pub one_sealed : (xs ys : List ℕ) → sealed xs ≡ sealed ys → xs ≡ ys
one_sealed xs ys e =
    let lengths : length xs ≡ length ys = omega (arith, length_sealed xs, length_sealed ys, ap length e) in
    (same_front xs ys (to_le_bytes w32 (checksum xs)) (to_le_bytes w32 (checksum ys)) lengths e).0

-- only what is there is sealed so
cut_as : (bytes text sum other : List ℕ) (n : ℕ) → IsCut bytes text sum n → bytes ≡ sealed other → (text ≡ other) × (sum ≡ to_le_bytes w32 (checksum other))
cut_as bytes text sum other n h f =
    let lengths : length text ≡ length other = omega (arith, ap length h.whole, ap length f, length-append text sum, length_sealed other, h.four) in
    same_front text other sum (to_le_bytes w32 (checksum other)) lengths (sym h.whole ∙ f)

pub is_that : (bytes text sum other : List ℕ) (n : ℕ) → IsCut bytes text sum n → bytes ≡ sealed other → text ≡ other
is_that bytes text sum other n h f = (cut_as bytes text sum other n h f).0

pub is_not_sealed : (bytes text sum : List ℕ) (n m : ℕ) → IsCut bytes text sum n → n < 2 ^ 32 → m < 2 ^ 32 → m ≡ checksum text → (n ≡ m → ⊥) → (other : List ℕ) → bytes ≡ sealed other → ⊥
is_not_sealed bytes text sum n m h a b e differ other f =
    let same = cut_as bytes text sum other n h f in
    differ (one_sum n m a b (sym (sum_is bytes text sum n h) ∙ (same.1 ∙ ap (to_le_bytes w32) (ap checksum (sym same.0) ∙ sym e))))

pub is_short : (bytes : List ℕ) → length bytes < 4 → (text : List ℕ) → bytes ≡ sealed text → ⊥
is_short bytes h text e = omega (arith, ap length e, length_sealed text)

-- bytes that are cut four before their end
pub is_cut : (bytes text sum : List ℕ) (n : ℕ) → 4 ≤ length bytes → text ≡ take (length bytes - 4) bytes → sum ≡ drop (length bytes - 4) bytes → to_le_bytes w32 n ≡ take 4 sum → IsCut bytes text sum n
is_cut bytes text sum n h e f g = record {
  whole = sym (take-append-drop (length bytes - 4) bytes) ∙ (λ i. sym e i ++ sym f i);
  four = omega (arith, ap length f, length-drop (length bytes - 4) bytes);
  number = g;
}
