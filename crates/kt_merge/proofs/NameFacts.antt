-- Numbers below 2^64, and names, as they are spelled.
use Rattle.std.proofs.Common.{◌≡◌, ◌∙◌, ◌<◌, ◌≤◌, ◌+◌, ◌^◌, ℕ, zero, suc, List, [], ◌∷◌, ◌++◌, length, take, drop, Option, Some, None, Result, Ok, IfSome, IfNone, MatchOption, slice_index, ◌⊎◌, inl, inr, refl, sym, ap, subst, arith}
use Rattle.std.specs.Str.{IsUtf8}
use Rattle.std.specs.Str.Parse.{AllDigits, IsNumeral, ParsesUnsigned, digits_value, without_leading_plus}
use Rattle.std.specs.Fmt.{decimal}
use Rattle.std.proofs.lemmas.Fmt.{decimal-digits_value, IsAscii-decimal, parse-decimal}
use Rattle.std.proofs.lemmas.Str.{IsUtf8-from_ascii}
use Rattle.std.proofs.lemmas.Str.Parse.{numerals_by_value, tells_digits, without_leading_plus_none}
use Rattle.kt_base.specs.Numbers.{IsProcNo}
use Rattle.kt_text.specs.Words.{BeginsAsNumber}
use Rattle.kt_text.proofs.NumberFacts.{spelt_process}
use Rattle.std.proofs.lemmas.List.{append_cancel_left}

-- a text that begins as a number, and is read as one, spells it
pub long_spells : {E : Type 0} (n : ℕ) (t : List ℕ) (r : Result ℕ E) → BeginsAsNumber t → ParsesUnsigned 64 10 t r → r ≡ Ok n → t ≡ decimal n
long_spells {E} n t r b p e =
    let read : ParsesUnsigned {E = E} 64 10 t (Ok n) = subst (λ (x : Result ℕ E). ParsesUnsigned {E = E} 64 10 t x) e p in
    let plain : without_leading_plus t ≡ t = without_leading_plus_none t (λ (s : slice_index t 0 ≡ 43). absurd (omega (arith, s, b.1))) in
    let digits : IsNumeral 10 t = subst (IsNumeral 10) plain read.0.0 in
    let small : digits_value 10 t < 2 ^ 64 = subst (λ (x : List ℕ). digits_value 10 x < 2 ^ 64) plain read.0.1 in
    let value : n ≡ digits_value 10 t = read.1 ∙ ap (digits_value 10) plain in
    sym (ap decimal value ∙ decimal-digits_value (numerals_by_value (AllDigits 10) tells_digits) t digits.1 b.0 b.2 small)

-- what spells a number is text, and is read
pub spelt_text : (n : ℕ) (t : List ℕ) → n < 2 ^ 64 → t ≡ decimal n → IsUtf8 t
spelt_text n t l e = let P : List ℕ → Type 0 = IsUtf8 in subst P (sym e) (IsUtf8-from_ascii (decimal n) (IsAscii-decimal n l))

pub spelt_reads : {E : Type 0} (n : ℕ) (t u : List ℕ) (r : Result ℕ E) → n < 2 ^ 64 → u ≡ t → t ≡ decimal n → ParsesUnsigned 64 10 u r → r ≡ Ok n
spelt_reads n t u r l same e p = parse-decimal 64 n u r l l (same ∙ e) p

-- what a clause by cases says of each
pub on_some : {A : Type 0} (o : Option A) (P : Type 0) (Q : A → Type 0) → MatchOption o P Q → IfSome o Q
on_some None P Q h = tt
on_some (Some x) P Q h = h

pub on_none : {A : Type 0} (o : Option A) (P : Type 0) (Q : A → Type 0) → MatchOption o P Q → IfNone o P
on_none None P Q h = h
on_none (Some x) P Q h = tt

pub if_none : {A : Type 0} {P Q : Type 0} (o : Option A) → (P → Q) → IfNone o P → IfNone o Q
if_none None f h = f h
if_none (Some x) f h = tt

pub at_none : {A : Type 0} {P : Type 0} (o : Option A) → P → IfNone o P
at_none None h = h
at_none (Some x) h = tt

-- what follows a mark and a process
pub own_rest : (mark : ℕ) (process text name dotted rest : List ℕ) → text ≡ mark ∷ name → name ≡ process ++ dotted → text ≡ mark ∷ (process ++ rest) → dotted ≡ rest
own_rest mark process text name dotted rest e f g =
    let after : name ≡ process ++ rest = cc (sym e ∙ g) in
    append_cancel_left process dotted rest (sym f ∙ after)

-- what stands before a dot at a place, and behind it
pub cut : (n : ℕ) (process rest : List ℕ) → length process ≡ n → (n < length (process ++ 46 ∷ rest)) × (slice_index (process ++ 46 ∷ rest) n ≡ 46) × (take n (process ++ 46 ∷ rest) ≡ process) × (drop (n + 1) (process ++ 46 ∷ rest) ≡ rest)
cut zero [] rest e = (omega arith, refl, refl, refl)
cut zero (x ∷ process) rest e = absurd (omega (arith, e))
cut (suc n) [] rest e = absurd (omega (arith, e))
cut (suc n) (x ∷ process) rest e =
    let h = cut n process rest (omega (arith, e)) in
    let next : suc n + 1 ≡ suc (n + 1) = omega arith in
    (omega (arith, h.0), h.1, ap (λ (t : List ℕ). x ∷ t) h.2, ap (λ (k : ℕ). drop k (x ∷ (process ++ 46 ∷ rest))) next ∙ h.3)

pub joined_at : (n : ℕ) (name : List ℕ) → n < length name → slice_index name n ≡ 46 → name ≡ take n name ++ 46 ∷ drop (n + 1) name
joined_at n [] l e = absurd (omega (arith, l))
joined_at zero (x ∷ name) l e = ap (λ (y : ℕ). y ∷ name) e
joined_at (suc n) (x ∷ name) l e =
    let next : suc n + 1 ≡ suc (n + 1) = omega arith in
    ap (λ (t : List ℕ). x ∷ t) (joined_at n name (omega (arith, l)) e) ∙ ap (λ (k : ℕ). x ∷ (take n name ++ 46 ∷ drop k (x ∷ name))) (sym next)

-- a process has one digit or two
pub one_or_two : (p : ℕ) → IsProcNo p → (length (decimal p) ≡ 1) ⊎ (length (decimal p) ≡ 2)
one_or_two p l = by_length (length (decimal p)) refl
  where
    short : (0 < length (decimal p)) × (length (decimal p) ≤ 2)
    short = spelt_process p (decimal p) l refl

    by_length : (n : ℕ) → length (decimal p) ≡ n → (length (decimal p) ≡ 1) ⊎ (length (decimal p) ≡ 2)
    by_length zero e = absurd (omega (arith, e, short.0))
    by_length (suc zero) e = inl e
    by_length (suc (suc zero)) e = inr e
    by_length (suc (suc (suc n))) e = absurd (omega (arith, e, short.1))
