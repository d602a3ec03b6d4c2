-- The tables have what each byte comes to, before so many bits that are 0.
use Rattle.std.proofs.Common.{◌≡◌, ◌∙◌, ◌+◌, ◌<◌, ◌^◌, ◌&&◌, ◌==◌, ◌/◌, ◌%◌, ℕ, zero, suc, Bool, true, false, List, [], ◌∷◌, length, get_or, bit_and, bit_xor, refl, sym, ap, arith}
use Rattle.std.proofs.lemmas.Bool.{false≢true}
use Rattle.std.proofs.lemmas.Bool.Decides.{nat_tests}
use Rattle.std.proofs.lemmas.Nat.{and_mask}
use Rattle.kt_checksum.specs.Checksums.{after_bits}
use Rattle.kt_checksum.specs.declared.table.TheConstants.{TABLES}
use Rattle.kt_checksum.proofs.Linear.{by_lowest, apart_lowest}

abbrev is_table_from : ℕ → ℕ → List ℕ → Bool
is_table_from n k [] = true
is_table_from n k (x ∷ xs) = (x == after_bits n k) && is_table_from n (suc k) xs

both : (a b : Bool) → (a && b) ≡ true → (a ≡ true) × (b ≡ true)
both true b h = (refl, h)
both false b h = absurd (false≢true h)

is_same : (x y : ℕ) → (x == y) ≡ true → x ≡ y
is_same x y h = grind (arith, nat_tests)

at_place : (m k : ℕ) (xs : List ℕ) (i n : ℕ) → is_table_from m k xs ≡ true → i < length xs → k + i ≡ n → get_or xs i 0 ≡ after_bits m n
at_place m k [] i n h b e = absurd (omega arith)
at_place m k (x ∷ xs) zero n h b e =
    let here : k ≡ n = omega arith in
    is_same x (after_bits m k) (both _ _ h).0 ∙ ap (after_bits m) here
at_place m k (x ∷ xs) (suc i) n h b e = at_place m (suc k) xs i n (both _ _ h).1 (omega arith) (omega arith)

abbrev table : ℕ → List ℕ
table k = get_or TABLES k []

-- entry i of a whole table, where i is the lowest byte of r
lowest_of : (m : ℕ) (xs : List ℕ) (r : ℕ) → is_table_from m 0 xs ≡ true → length xs ≡ 256 → get_or xs (bit_and r 255) 0 ≡ after_bits m (r % 256)
lowest_of m xs r whole long =
    let lowest : bit_and r 255 ≡ r % 256 = and_mask r 8 in
    ap (λ i. get_or xs i 0) lowest ∙ at_place m 0 xs (r % 256) (r % 256) whole (omega (arith, long)) (omega arith)

-- a register after a byte, by the table
pub by_table : (r : ℕ) → bit_xor (r / 256) (get_or (table 0) (bit_and r 255) 0) ≡ after_bits 8 r
by_table r = ap (bit_xor (r / 256)) (lowest_of 8 (table 0) r refl refl) ∙ sym (by_lowest r)

-- one byte more
next_table : (m r rest : ℕ) (xs : List ℕ) → rest ≡ after_bits m (r / 256) → is_table_from (8 + m) 0 xs ≡ true → length xs ≡ 256 →
    bit_xor rest (get_or xs (bit_and r 255) 0) ≡ after_bits (8 + m) r
next_table m r rest xs e whole long =
    (λ i. bit_xor (e i) (lowest_of (8 + m) xs r whole long i)) ∙ sym (apart_lowest m r)

-- and after the eight bytes of a number
pub by_word : (r : ℕ) → r < 2 ^ 64 →
    bit_xor (bit_xor (bit_xor (bit_xor (bit_xor (bit_xor (bit_xor (get_or (table 0) (r / 2 ^ 56) 0) (get_or (table 1) (bit_and (r / 2 ^ 48) 255) 0)) (get_or (table 2) (bit_and (r / 2 ^ 40) 255) 0)) (get_or (table 3) (bit_and (r / 2 ^ 32) 255) 0)) (get_or (table 4) (bit_and (r / 2 ^ 24) 255) 0)) (get_or (table 5) (bit_and (r / 2 ^ 16) 255) 0)) (get_or (table 6) (bit_and (r / 2 ^ 8) 255) 0)) (get_or (table 7) (bit_and r 255) 0) ≡ after_bits 64 r
by_word r h =
    let e0 : get_or (table 0) (r / 2 ^ 56) 0 ≡ after_bits 8 (r / 2 ^ 56) = at_place 8 0 (table 0) (r / 2 ^ 56) (r / 2 ^ 56) refl (omega arith) (omega arith) in
    let s1 : r / 2 ^ 56 ≡ (r / 2 ^ 48) / 256 = omega arith in
    let e1 = next_table 8 (r / 2 ^ 48) _ (table 1) (e0 ∙ ap (after_bits 8) s1) refl refl in
    let s2 : r / 2 ^ 48 ≡ (r / 2 ^ 40) / 256 = omega arith in
    let e2 = next_table 16 (r / 2 ^ 40) _ (table 2) (e1 ∙ ap (after_bits 16) s2) refl refl in
    let s3 : r / 2 ^ 40 ≡ (r / 2 ^ 32) / 256 = omega arith in
    let e3 = next_table 24 (r / 2 ^ 32) _ (table 3) (e2 ∙ ap (after_bits 24) s3) refl refl in
    let s4 : r / 2 ^ 32 ≡ (r / 2 ^ 24) / 256 = omega arith in
    let e4 = next_table 32 (r / 2 ^ 24) _ (table 4) (e3 ∙ ap (after_bits 32) s4) refl refl in
    let s5 : r / 2 ^ 24 ≡ (r / 2 ^ 16) / 256 = omega arith in
    let e5 = next_table 40 (r / 2 ^ 16) _ (table 5) (e4 ∙ ap (after_bits 40) s5) refl refl in
    let s6 : r / 2 ^ 16 ≡ (r / 2 ^ 8) / 256 = omega arith in
    let e6 = next_table 48 (r / 2 ^ 8) _ (table 6) (e5 ∙ ap (after_bits 48) s6) refl refl in
    let s7 : r / 2 ^ 8 ≡ r / 256 = omega arith in
    let e7 = next_table 56 r _ (table 7) (e6 ∙ ap (after_bits 56) s7) refl refl in
    e7
