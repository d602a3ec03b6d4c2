-- How the text of a number begins.
use Rattle.std.proofs.Common.{◌≡◌, ◌≢◌, ◌∙◌, ◌<◌, ◌≤◌, ◌+◌, ◌-◌, ◌*◌, ◌^◌, ℕ, ℤ, zero, suc, List, [], ◌∷◌, length, drop, slice_index, slice_get, Option, Some, None, IsSome, IfSome, IfNone, ◌↔◌, sym, ap, subst, refl, inl, inr, arith, rules, Result, Ok, FitsSigned}
use Rattle.std.specs.Prelude.{pos, negsuc, neg_ℤ}
use Rattle.std.specs.Int.{IsInRange, w64}
use Rattle.std.specs.Result.{OkIff, result_ok}
use Rattle.std.specs.Int.Signed.{mag}
use Rattle.std.specs.Fmt.{decimal, signed_decimal}
use Rattle.std.specs.Str.Parse.{AllDigits, IsNumeral, ParsesUnsigned, ParsesSigned, digits_value, digits_value_after, without_leading_plus}
use Rattle.std.proofs.lemmas.Fmt.{decimal_is_IsNumeral, decimal_digit, first_decimal, decimal-digits_value, length-decimal-le}
use Rattle.std.specs.Char.{digit_value}
use Rattle.std.proofs.lemmas.Bool.{cases_eq}
use Rattle.std.proofs.lemmas.Str.{digit_value_digit}
use Rattle.std.proofs.lemmas.Str.Parse.{digit_from_value, numerals_by_value, tells_digits, without_leading_plus_none, parse_signed_plain, parse_signed_minus}
use Rattle.kt_base.specs.Numbers.{IsProcNo}
use Rattle.kt_text.specs.Words.{BeginsAsNumber, BeginsAsBody}
use Rattle.kt_text.proofs.FieldFacts.{same_number, too_great}

digits_begin : (t : List ℕ) → IsNumeral 10 t → (slice_index t 0 ≡ 48 → length t ≡ 1) → BeginsAsNumber t
digits_begin [] h z = absurd (omega (arith, h.0))
digits_begin (c ∷ cs) h z = (h.0, digit_from_value c h.1.0, z)

-- so does what spells a number
pub spelt_begins : (n : ℕ) (t : List ℕ) → n < 2 ^ 64 → t ≡ decimal n → BeginsAsNumber t
spelt_begins n t small e = subst BeginsAsNumber (sym e) (digits_begin (decimal n) (decimal_is_IsNumeral n small).0 (first n small))
  where
    first : (m : ℕ) → m < 2 ^ 64 → slice_index (decimal m) 0 ≡ 48 → length (decimal m) ≡ 1
    first zero l z = ap length (decimal_digit 0 (omega arith))
    first (suc m) l z = absurd (omega (arith, z, first_decimal (suc m) (omega arith) l))

-- its first byte, where there is one
pub no_first : (n : ℕ) (t : List ℕ) → n < 2 ^ 64 → t ≡ decimal n → slice_get t 0 ≡ None → ⊥
no_first n [] small e h = absurd (omega (arith, (spelt_begins n [] small e).0))
no_first n (c ∷ cs) small e h = cc h

pub other_first : (n x : ℕ) (t : List ℕ) → n < 2 ^ 64 → t ≡ decimal n → slice_get t 0 ≡ Some x → IsInRange 48 57 x × (x ≡ 48 → length t ≡ 1)
other_first n x [] small e h = absurd (omega (arith, (spelt_begins n [] small e).0))
other_first n x (c ∷ cs) small e h =
    let same : c ≡ x = cc h in
    subst (λ (y : ℕ). IsInRange 48 57 y × (y ≡ 48 → length (c ∷ cs) ≡ 1)) same (let b = spelt_begins n (c ∷ cs) small e in (b.1, b.2))

-- and a text that begins so, and is read as a number, spells it
pub begun_spells : {E : Type 0} (n : ℕ) (t : List ℕ) (r : Result ℕ E) → BeginsAsNumber t → ParsesUnsigned 32 10 t r → r ≡ Ok n → t ≡ decimal n
begun_spells {E} n t r b p e =
    let read : ParsesUnsigned {E = E} 32 10 t (Ok n) = subst (λ (x : Result ℕ E). ParsesUnsigned {E = E} 32 10 t x) e p in
    let plain : without_leading_plus t ≡ t = without_leading_plus_none t (λ (s : slice_index t 0 ≡ 43). absurd (omega (arith, s, b.1))) in
    let digits : IsNumeral 10 t = subst (IsNumeral 10) plain read.0.0 in
    let small : digits_value 10 t < 2 ^ 32 = subst (λ (x : List ℕ). digits_value 10 x < 2 ^ 32) plain read.0.1 in
    let value : n ≡ digits_value 10 t = read.1 ∙ ap (digits_value 10) plain in
    sym (ap decimal value ∙ decimal-digits_value (numerals_by_value (AllDigits 10) tells_digits) t digits.1 b.0 b.2 (omega (arith, small)))

-- the digits of a number that begins so
digits_spell : (t : List ℕ) → BeginsAsNumber t → AllDigits 10 t → digits_value 10 t < 2 ^ 64 → decimal (digits_value 10 t) ≡ t
digits_spell t b d small = decimal-digits_value (numerals_by_value (AllDigits 10) tells_digits) t d b.0 b.2 small

pub small_body : (z : ℤ) → FitsSigned w64 z → mag z < 2 ^ 63
small_body (pos n) f = search (rules, f)
small_body (negsuc n) f = search (rules, f)

-- what spells a body begins as one
pub spelt_body : (z : ℤ) (t : List ℕ) → FitsSigned w64 z → t ≡ signed_decimal z → BeginsAsBody t
spelt_body (pos n) t f e =
    let b = spelt_begins n t (omega (arith, small_body (pos n) f)) e in
    ((λ _. b), λ minus. absurd (omega (arith, minus, b.1)))
spelt_body (negsuc n) t f e =
    let small : suc n < 2 ^ 64 = omega (arith, small_body (negsuc n) f) in
    subst BeginsAsBody (sym e) ((λ plain. absurd (plain refl)), λ minus. (spelt_begins (suc n) (decimal (suc n)) small refl, λ z. absurd (omega (arith, z, first_decimal (suc n) (omega arith) small))))

-- after a `-` it has a number other than 0
pub minus_body : (z : ℤ) (t ds : List ℕ) → FitsSigned w64 z → t ≡ signed_decimal z → t ≡ 45 ∷ ds → (n : ℕ) × (n < 2 ^ 64) × (ds ≡ decimal n) × (slice_index ds 0 ≢ 48)
minus_body (pos n) t ds f e whole =
    let minus : slice_index t 0 ≡ 45 = ap (λ (l : List ℕ). slice_index l 0) whole in
    absurd (omega (arith, minus, (spelt_begins n t (omega (arith, small_body (pos n) f)) e).1))
minus_body (negsuc n) t ds f e whole =
    let small : suc n < 2 ^ 64 = omega (arith, small_body (negsuc n) f) in
    let same : ds ≡ decimal (suc n) = ap (drop 1) (sym whole ∙ e) in
    (suc n, small, same, λ z. absurd (omega (arith, z, ap (λ (l : List ℕ). slice_index l 0) same, first_decimal (suc n) (omega arith) small)))

minus_text : (t ds : List ℕ) (v : ℕ) → slice_index t 0 ≡ 45 → drop 1 t ≡ ds → slice_index ds 0 ≢ 48 → decimal v ≡ ds → t ≡ signed_decimal (neg_ℤ (pos v))
minus_text [] ds v at e other d = absurd (omega (arith, at))
minus_text (c ∷ cs) ds zero at e other d = absurd (other (ap (λ (l : List ℕ). slice_index l 0) (sym d ∙ decimal_digit 0 (omega arith))))
minus_text (c ∷ cs) ds (suc n) at e other d = ap (λ (x : ℕ). x ∷ cs) at ∙ ap (λ (l : List ℕ). 45 ∷ l) (e ∙ sym d)

-- and a text that begins so, and is read as a body, spells it
pub begun_body : {E : Type 0} (z : ℤ) (t : List ℕ) (r : Result ℤ E) → BeginsAsBody t → ParsesSigned w64 10 t r → r ≡ Ok z → t ≡ signed_decimal z
begun_body {E = E} z t r b p e = elim (cases_eq (slice_index t 0) 45) [
  | inl minus ↦
      let begins = b.1 minus in
      let read : OkIff {E = E} (Ok z) (AllDigits 10 (drop 1 t) × (0 < length (drop 1 t)) × (digits_value 10 (drop 1 t) ≤ 2 ^ 63)) (neg_ℤ (pos (digits_value 10 (drop 1 t))))
      = subst (λ (x : Result ℤ E). OkIff x (AllDigits 10 (drop 1 t) × (0 < length (drop 1 t)) × (digits_value 10 (drop 1 t) ≤ 2 ^ 63)) (neg_ℤ (pos (digits_value 10 (drop 1 t))))) e (parse_signed_minus (numerals_by_value (AllDigits 10) tells_digits) w64 t r p minus) in
      let spelt = digits_spell (drop 1 t) begins.0 read.0.0 (omega (arith, read.0.2)) in
      minus_text t (drop 1 t) (digits_value 10 (drop 1 t)) minus refl begins.1 spelt ∙ ap signed_decimal (sym read.1)
  | inr plain ↦
      let begins = b.0 plain in
      let read : OkIff {E = E} (Ok z) (AllDigits 10 t × (0 < length t) × (digits_value 10 t < 2 ^ 63)) (pos (digits_value 10 t))
      = subst (λ (x : Result ℤ E). OkIff x (AllDigits 10 t × (0 < length t) × (digits_value 10 t < 2 ^ 63)) (pos (digits_value 10 t))) e (parse_signed_plain (numerals_by_value (AllDigits 10) tells_digits) w64 t r p (λ (s : slice_index t 0 ≡ 43). absurd (omega (arith, s, begins.1))) plain) in
      sym (ap signed_decimal read.1 ∙ digits_spell t begins read.0.0 (omega (arith, read.0.2)))
]

-- what is read as a body is one
pub body_fits : {E : Type 0} (z : ℤ) (t : List ℕ) (r : Result ℤ E) → ParsesSigned w64 10 t r → r ≡ Ok z → FitsSigned w64 z
body_fits {E = E} z t r p e =
    let read : ParsesSigned {E = E} w64 10 t (Ok z) = subst (λ (x : Result ℤ E). ParsesSigned {E = E} w64 10 t x) e p in
    subst (FitsSigned w64) (sym read.1) read.0.1

-- digits are read up to a place, and write this number so far
abbrev pub IsReading : List ℕ → ℕ → ℕ → Type 0
IsReading t i n = (digits_value_after 10 n (drop i t) ≡ digits_value 10 t) × (AllDigits 10 (drop i t) → AllDigits 10 t) × (AllDigits 10 t → AllDigits 10 (drop i t))

-- what spells a number has digits, of that value
pub spelt_value : (n : ℕ) (t : List ℕ) → n < 2 ^ 64 → t ≡ decimal n → AllDigits 10 t × (digits_value 10 t ≡ n)
spelt_value n t l e =
    let digits = decimal_is_IsNumeral n l in
    (subst (AllDigits 10) (sym e) digits.0.1, ap (digits_value 10) e ∙ digits.1)

-- a value below 2^32 is spelled by its digits
pub value_spells : {E : Type 0} (t : List ℕ) (n : ℕ) (r : Result ℕ E) (o : Option ℕ) → BeginsAsNumber t → AllDigits 10 t → n ≡ digits_value 10 t → n < 2 ^ 64 → OkIff r (n < 2 ^ 32) n → o ≡ result_ok r → IfSome o (λ m. t ≡ decimal m)
value_spells t n r None b d v l f e = tt
value_spells t n r (Some m) b d v l f e = sym (ap decimal (same_number n (2 ^ 32) m r f (sym e) ∙ v) ∙ digits_spell t b d (omega (arith, v, l)))

-- and a greater one spells none of them
pub value_is_spelt : {E : Type 0} (t : List ℕ) (n : ℕ) (r : Result ℕ E) (o : Option ℕ) → n ≡ digits_value 10 t → OkIff r (n < 2 ^ 32) n → o ≡ result_ok r → IfNone o ((k : ℕ) → k < 2 ^ 32 → t ≢ decimal k)
value_is_spelt t n r (Some m) v f e = tt
value_is_spelt t n r None v f e = λ k l spelt. omega (arith, l, v, (spelt_value k t (omega (arith, l)) spelt).1, too_great n (2 ^ 32) r f (sym e))

pub spelt_short : (n : ℕ) (t : List ℕ) → n < 2 ^ 32 → t ≡ decimal n → length t ≤ 10
spelt_short n t l e = omega (arith, ap length e, length-decimal-le 10 n (omega arith) (omega (arith, l)) (omega (arith, l)))

-- texts of one byte and of two
pub spelt_one : (n : ℕ) (t : List ℕ) → n < 2 ^ 64 → t ≡ decimal n → length t ≡ 1 → IsInRange 48 57 (slice_index t 0) × (n ≡ slice_index t 0 - 48)
spelt_one n [] l e one = absurd (omega (arith, one))
spelt_one n (a ∷ b ∷ rest) l e one = absurd (omega (arith, one))
spelt_one n (a ∷ []) l e one =
    let spelt = spelt_value n (a ∷ []) l e in
    let digit = digit_from_value a spelt.0.0 in
    (digit, omega (arith, spelt.1, digit_value_digit a digit))

pub spelt_two : (n : ℕ) (t : List ℕ) → n < 2 ^ 64 → t ≡ decimal n → length t ≡ 2 → (slice_index t 0 ≢ 48) × IsInRange 48 57 (slice_index t 0) × IsInRange 48 57 (slice_index t 1) × (n ≡ (slice_index t 0 - 48) * 10 + (slice_index t 1 - 48))
spelt_two n [] l e two = absurd (omega (arith, two))
spelt_two n (a ∷ []) l e two = absurd (omega (arith, two))
spelt_two n (a ∷ b ∷ c ∷ rest) l e two = absurd (omega (arith, two))
spelt_two n (a ∷ b ∷ []) l e two =
    let spelt = spelt_value n (a ∷ b ∷ []) l e in
    let tens = digit_from_value a spelt.0.0 in
    let units = digit_from_value b spelt.0.1.0 in
    let begins = spelt_begins n (a ∷ b ∷ []) l e in
    ((λ zero. absurd (omega (arith, begins.2 zero))), tens, units, omega (arith, spelt.1, tens, units, digit_value_digit a tens, digit_value_digit b units))

pub one_spells : (t : List ℕ) → length t ≡ 1 → IsInRange 48 57 (slice_index t 0) → t ≡ decimal (slice_index t 0 - 48)
one_spells [] one d = absurd (omega (arith, one))
one_spells (a ∷ b ∷ rest) one d = absurd (omega (arith, one))
one_spells (a ∷ []) one d =
    let value : digits_value 10 (a ∷ []) ≡ a - 48 = omega (arith, d, digit_value_digit a d) in
    let low : digit_value a < 10 = omega (arith, d, digit_value_digit a d) in
    sym (ap decimal (sym value) ∙ digits_spell (a ∷ []) (omega arith, d, λ zero. refl) (low, tt) (omega (arith, value, d)))

pub two_spell : (t : List ℕ) → length t ≡ 2 → slice_index t 0 ≢ 48 → IsInRange 48 57 (slice_index t 0) → IsInRange 48 57 (slice_index t 1) → t ≡ decimal ((slice_index t 0 - 48) * 10 + (slice_index t 1 - 48))
two_spell [] two other d u = absurd (omega (arith, two))
two_spell (a ∷ []) two other d u = absurd (omega (arith, two))
two_spell (a ∷ b ∷ c ∷ rest) two other d u = absurd (omega (arith, two))
two_spell (a ∷ b ∷ []) two other d u =
    let value : digits_value 10 (a ∷ b ∷ []) ≡ (a - 48) * 10 + (b - 48) = omega (arith, d, u, digit_value_digit a d, digit_value_digit b u) in
    let tens : digit_value a < 10 = omega (arith, d, digit_value_digit a d) in
    let units : digit_value b < 10 = omega (arith, u, digit_value_digit b u) in
    sym (ap decimal (sym value) ∙ digits_spell (a ∷ b ∷ []) (omega arith, d, λ zero. absurd (other zero)) (tens, (units, tt)) (omega (arith, value, d, u)))

pub spelt_process : (n : ℕ) (t : List ℕ) → n < 64 → t ≡ decimal n → (0 < length t) × (length t ≤ 2)
spelt_process n t l e = ((spelt_begins n t (omega (arith, l)) e).0, omega (arith, ap length e, length-decimal-le 2 n (omega arith) (omega (arith, l)) (omega (arith, l))))

-- a process of a number, where there is one
pub process_spells : (t : List ℕ) (n : ℕ) (o : Option ℕ) → t ≡ decimal n → (IsSome o ↔ IsProcNo n) → IfSome o (λ p. p ≡ n) → IfSome o (λ p. IsProcNo p × (t ≡ decimal p))
process_spells t n None e valid same = tt
process_spells t n (Some p) e valid same = (omega (arith, same, valid.0 refl), e ∙ ap decimal (sym same))

pub process_is_spelt : (t : List ℕ) (n : ℕ) (o : Option ℕ) → ((p : ℕ) → p < 64 → t ≡ decimal p → p ≡ n) → (IsSome o ↔ IsProcNo n) → IfNone o ((p : ℕ) → IsProcNo p → t ≢ decimal p)
process_is_spelt t n (Some p) one valid = tt
process_is_spelt t n None one valid = λ p l e. cc (valid.1 (omega (arith, l, one p l e)))
