-- What is escaped has no mark.
use Rattle.std.proofs.Common.{◌≡◌, ℕ, Bool, true, false, List, [], ◌∷◌, ◌++◌, eqb, eqb-true, cond, refl, ap, sym, ◌∙◌, length, codes, nat_le, Option, Some, None}
use Rattle.std.specs.Prelude.{◌&&◌, ◌||◌, not, if◌then◌else◌, slice_get}
use Rattle.std.specs.Fmt.{decimal}
use Rattle.std.specs.Char.{is_ascii_lowercase, is_ascii_digit}
use Rattle.std.specs.List.{list_all}
use Rattle.std.proofs.lemmas.List.Elements.{All-contains}
use Rattle.std.proofs.lemmas.Option.{get_or_from_slice_get, slice_get_within}
use Rattle.kt_plan.specs.Names.{AreNames, is_name, is_name_byte}
use Rattle.kt_picture.specs.Escaping.{is_no_mark, escaped_byte, escaped}
use Rattle.kt_picture.specs.Texts.{name_or, name_text}

picked : (t : Bool) (xs ys : List ℕ) → list_all is_no_mark xs ≡ true → (t ≡ false → list_all is_no_mark ys ≡ true) → list_all is_no_mark (cond t xs ys) ≡ true
picked true xs ys x y = x
picked false xs ys x y = y refl

plain_byte : (b : ℕ) → eqb b 34 ≡ false → eqb b 39 ≡ false → eqb b 60 ≡ false → eqb b 62 ≡ false → list_all is_no_mark (b ∷ []) ≡ true
plain_byte b q a l g = λ i. not (l i || (g i || (q i || a i))) && true

byte_is_plain : (b : ℕ) → list_all is_no_mark (escaped_byte b) ≡ true
byte_is_plain b =
    picked (eqb b 34) _ _ refl (λ q. picked (eqb b 38) _ _ refl (λ _. picked (eqb b 39) _ _ refl (λ a. picked (eqb b 60) _ _ refl (λ l. picked (eqb b 62) _ _ refl (λ g. plain_byte b q a l g)))))

kept : (t a b : Bool) → (a ≡ true → b ≡ true) → (t && a) ≡ true → (t && b) ≡ true
kept true a b f h = f h
kept false a b f h = h

both_plain : (xs ys : List ℕ) → list_all is_no_mark xs ≡ true → list_all is_no_mark ys ≡ true → list_all is_no_mark (xs ++ ys) ≡ true
both_plain [] ys x y = y
both_plain (b ∷ xs) ys x y = kept (is_no_mark b) (list_all is_no_mark xs) (list_all is_no_mark (xs ++ ys)) (λ h. both_plain xs ys h y) x

-- no byte of what is escaped begins or ends a mark
pub escaped_plain : (text : List ℕ) → list_all is_no_mark (escaped text) ≡ true
escaped_plain [] = refl
escaped_plain (b ∷ text) = both_plain (escaped_byte b) (escaped text) (byte_is_plain b) (escaped_plain text)

first_of_both : (t a : Bool) → (t && a) ≡ true → t ≡ true
first_of_both true a h = refl
first_of_both false a h = h

second_of_both : (t a : Bool) → (t && a) ≡ true → a ≡ true
second_of_both true a h = h
second_of_both false a h = cc

differ : true ≡ false → ⊥
differ e = cc

-- a byte of a name is not this one, which no name has
other_byte : (b k : ℕ) → is_name_byte k ≡ false → is_name_byte b ≡ true → eqb b k ≡ false
other_byte b k other h = by_test (eqb b k) refl
  where
    by_test : (t : Bool) → eqb b k ≡ t → eqb b k ≡ false
    by_test false e = e
    by_test true e = absurd (differ (sym h ∙ ap is_name_byte (eqb-true b k e) ∙ other))

byte_kept : (b : ℕ) → is_name_byte b ≡ true → escaped_byte b ≡ b ∷ []
byte_kept b h =
    let q = other_byte b 34 refl h in
    let m = other_byte b 38 refl h in
    let a = other_byte b 39 refl h in
    let l = other_byte b 60 refl h in
    let g = other_byte b 62 refl h in
    λ i. if q i then codes "&quot;" else if m i then codes "&amp;" else if a i then codes "&apos;" else if l i then codes "&lt;" else if g i then codes "&gt;" else b ∷ []

bytes_kept : (bytes : List ℕ) → list_all is_name_byte bytes ≡ true → escaped bytes ≡ bytes
bytes_kept [] h = refl
bytes_kept (b ∷ bytes) h =
    (λ i. byte_kept b (first_of_both (is_name_byte b) (list_all is_name_byte bytes) h) i ++ bytes_kept bytes (second_of_both (is_name_byte b) (list_all is_name_byte bytes) h) i)

letter_in_name : (b : ℕ) → is_ascii_lowercase b ≡ true → is_name_byte b ≡ true
letter_in_name b h = ap (λ (t : Bool). t || (is_ascii_digit b || eqb b 95)) h

-- a name has no byte that is read as a mark
pub name_kept : (name : List ℕ) → is_name name ≡ true → escaped name ≡ name
name_kept [] h = refl
name_kept (b ∷ rest) h =
    let both = second_of_both (nat_le (length rest) 15) (is_ascii_lowercase b && list_all is_name_byte rest) h in
    (λ i. byte_kept b (letter_in_name b (first_of_both (is_ascii_lowercase b) (list_all is_name_byte rest) both)) i ++ bytes_kept rest (second_of_both (is_ascii_lowercase b) (list_all is_name_byte rest) both) i)

-- the name of a process that has one
pub name_at : (names : List (List ℕ)) (p : ℕ) (name : List ℕ) → AreNames names → slice_get names p ≡ Some name → name_text names p ≡ name
name_at names p name are at =
    let proper : is_name name ≡ true = All-contains (λ (n : List ℕ). is_name n ≡ true) names name are.proper (p, slice_get_within names p name at, get_or_from_slice_get names p name name at) in
    ap (λ (o : Option (List ℕ)). name_or o p) at ∙ name_kept name proper

-- that of one that has none
pub number_at : (names : List (List ℕ)) (p : ℕ) → slice_get names p ≡ None → name_text names p ≡ decimal p
number_at names p at = ap (λ (o : Option (List ℕ)). name_or o p) at
