-- A saved state has one value.
use Rattle.std.proofs.Common.{◌≡◌, ◌<◌, ℕ, ◌^◌, List, [], ◌∷◌, length, take, drop, refl, ap, sym, ◌∙◌, arith}
use Rattle.std.specs.Prelude.{ℤ, pos, negsuc, FitsSigned, All}
use Rattle.std.specs.Int.{w64, cast_unsigned, cast_signed, from_be_bytes}
use Rattle.std.specs.List.{flat_map}
use Rattle.std.proofs.lemmas.Int.{to_z-of_z}
use Rattle.std.proofs.lemmas.Nat.{from_be_bytes-to_be_bytes_8}
use Rattle.std.proofs.lemmas.List.{take_at, drop_at}
use Rattle.std.proofs.lemmas.List.Elements.{All-head, All-tail}
use Rattle.kt_object.specs.Bytes.{number_bytes, saved_bytes, IsSavedState}

-- the two's complement of an i64 fits eight bytes
unsigned_fits : (number : ℤ) → FitsSigned w64 number → cast_unsigned w64 number < 2 ^ 64
unsigned_fits (pos n) fits = let small = fits.sfits in omega arith
unsigned_fits (negsuc n) fits = let small = fits.sfits in omega arith

-- eight bytes give their number back
number_back : (number : ℤ) → FitsSigned w64 number → cast_signed w64 (from_be_bytes w64 (number_bytes number)) ≡ number
number_back number fits =
    ap (cast_signed w64) (from_be_bytes-to_be_bytes_8 (cast_unsigned w64 number) (unsigned_fits number fits)) ∙ to_z-of_z w64 number fits

-- two numbers with the same bytes are one
pub number_bytes-once : (x y : ℤ) → FitsSigned w64 x → FitsSigned w64 y → number_bytes x ≡ number_bytes y → x ≡ y
number_bytes-once x y x_fits y_fits same =
    sym (number_back x x_fits) ∙ ap (λ bytes. cast_signed w64 (from_be_bytes w64 bytes)) same ∙ number_back y y_fits

-- two lists of numbers with the same bytes are one
pub numbers_once : (xs ys : List ℤ) → All (λ number. FitsSigned w64 number) xs → All (λ number. FitsSigned w64 number) ys
    → length xs ≡ length ys → flat_map number_bytes xs ≡ flat_map number_bytes ys → xs ≡ ys
numbers_once [] [] xs_fit ys_fit long same = refl
numbers_once [] (y ∷ ys) xs_fit ys_fit long same = absurd (omega arith)
numbers_once (x ∷ xs) [] xs_fit ys_fit long same = absurd (omega arith)
numbers_once (x ∷ xs) (y ∷ ys) xs_fit ys_fit long same =
    let front : number_bytes x ≡ number_bytes y =
    sym (take_at (number_bytes x) (flat_map number_bytes xs) 8 refl) ∙ ap (take 8) same
    ∙ take_at (number_bytes y) (flat_map number_bytes ys) 8 refl in
    let back : flat_map number_bytes xs ≡ flat_map number_bytes ys =
    sym (drop_at (number_bytes x) (flat_map number_bytes xs) 8 refl) ∙ ap (drop 8) same
    ∙ drop_at (number_bytes y) (flat_map number_bytes ys) 8 refl in
    let head = number_bytes-once x y (All-head (λ number. FitsSigned w64 number) x xs xs_fit)
    (All-head (λ number. FitsSigned w64 number) y ys ys_fit) front in
    let tail = numbers_once xs ys (All-tail (λ number. FitsSigned w64 number) x xs xs_fit)
    (All-tail (λ number. FitsSigned w64 number) y ys ys_fit) (omega arith) back in
    cc (head, tail)

-- a saved state has one kind
pub kind_once : (kind other : ℕ) (value gives : List ℤ) (saved : List ℕ)
    → IsSavedState kind value saved → IsSavedState other gives saved → kind ≡ other
kind_once kind other value gives saved one two =
    let same : saved_bytes kind value ≡ saved_bytes other gives = sym one.bytes ∙ two.bytes in cc same

-- a saved state has one value
pub value_once : (kind other : ℕ) (value gives : List ℤ) (saved : List ℕ)
    → IsSavedState kind value saved → IsSavedState other gives saved → value ≡ gives
value_once kind other value gives saved one two =
    let same : saved_bytes kind value ≡ saved_bytes other gives = sym one.bytes ∙ two.bytes in
    numbers_once value gives one.proper.numbers two.proper.numbers (cc same) (cc same)
