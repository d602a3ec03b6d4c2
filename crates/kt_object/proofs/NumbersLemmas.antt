-- The bytes of numbers.
use Rattle.std.proofs.Common.{◌≡◌, ◌≤◌, ◌<◌, ℕ, ◌+◌, ◌*◌, ◌-◌, suc, zero, List, [], ◌∷◌, ◌++◌, length, take, drop, refl, ap, sym, ◌∙◌, arith, get_or, append_assoc, slice_index_or, length-append}
use Rattle.std.specs.Prelude.{ℤ, pos}
use Rattle.std.specs.List.{flat_map}
use Rattle.std.proofs.lemmas.Grind.{flat_map-append}
use Rattle.std.proofs.lemmas.List.{take_more}
use Rattle.std.proofs.Math.Seq.{take-add}
use Rattle.kt_object.specs.Bytes.{number_bytes, saved_bytes}
use Rattle.kt_object.specs.Value.{IsValueCount, last_eight}

-- a value has at most eight numbers
pub IsValueCount-few : (kind count : ℕ) → IsValueCount kind count → count ≤ 8
IsValueCount-few zero count is = omega arith
IsValueCount-few (suc zero) count is = omega arith
IsValueCount-few (suc (suc kind)) count is = is

-- with fewer than eight numbers one more keeps all
pub last_eight-few : (numbers : List ℤ) (number : ℤ) → length numbers < 8 → last_eight (numbers ++ number ∷ []) ≡ numbers ++ number ∷ []
last_eight-few numbers number few =
    let none : length (numbers ++ number ∷ []) - 8 ≡ 0 = omega (arith, length-append numbers (number ∷ [])) in
    ap (λ n. drop n (numbers ++ number ∷ [])) none

-- eight bytes a number
pub length-number_bytes : (numbers : List ℤ) → length (flat_map number_bytes numbers) ≡ 8 * length numbers
length-number_bytes [] = refl
length-number_bytes (number ∷ numbers) =
    omega (arith, length-append (number_bytes number) (flat_map number_bytes numbers), length-number_bytes numbers)

-- the bytes of one number more
pub number_bytes-push : (numbers : List ℤ) (number : ℤ)
    → flat_map number_bytes (numbers ++ number ∷ []) ≡ flat_map number_bytes numbers ++ number_bytes number
number_bytes-push numbers number = flat_map-append number_bytes numbers (number ∷ [])

-- what a saved state begins with, and how long it is
pub saved_head : (kind : ℕ) (value : List ℤ) (saved : List ℕ) → saved ≡ saved_bytes kind value
    → (slice_index_or saved 0 0 ≡ kind) × (slice_index_or saved 1 0 ≡ length value) × (length saved ≡ 2 + 8 * length value)
saved_head kind value saved is = rw is (refl, refl, omega (arith, length-number_bytes value))

-- eight bytes more were read, and one number more
pub read_more : (bytes : List ℕ) (numbers : List ℤ) (place : ℕ) (number : ℤ)
    → take (8 * place) bytes ≡ flat_map number_bytes numbers → number_bytes number ≡ take 8 (drop (8 * place) bytes)
    → take (8 * (place + 1)) bytes ≡ flat_map number_bytes (numbers ++ number ∷ [])
read_more bytes numbers place number so at =
    let next : take (8 * (place + 1)) bytes ≡ take (8 * place) bytes ++ take 8 (drop (8 * place) bytes) =
    ap (λ n. take n bytes) (omega arith) ∙ take-add (8 * place) 8 bytes in
    rw (next, number_bytes-push numbers number, so, at) refl

-- the bytes so far, and one number more
pub saved_more : (start now : List ℕ) (kind count place : ℕ) (numbers : List ℤ) (number : ℤ) (new : List ℕ) → place < length numbers
    → number ≡ get_or numbers place (pos 0) → now ≡ start ++ kind ∷ count ∷ flat_map number_bytes (take place numbers)
    → new ≡ now ++ number_bytes number
    → new ≡ start ++ kind ∷ count ∷ flat_map number_bytes (take (place + 1) numbers)
saved_more start now kind count place numbers number new low is so more =
    let taken : take (place + 1) numbers ≡ take place numbers ++ number ∷ [] = rw is (take_more numbers place (pos 0) low) in
    let step : flat_map number_bytes (take (place + 1) numbers) ≡ flat_map number_bytes (take place numbers) ++ number_bytes number =
    rw taken (number_bytes-push (take place numbers) number) in
    more ∙ ap (λ s. s ++ number_bytes number) so
    ∙ append_assoc start (kind ∷ count ∷ flat_map number_bytes (take place numbers)) (number_bytes number)
    ∙ ap (λ rest. start ++ kind ∷ count ∷ rest) (sym step)
