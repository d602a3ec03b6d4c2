-- What eight bytes come to at once.
use Rattle.std.proofs.Common.{◌≡◌, ◌∙◌, ◌+◌, ◌*◌, ◌^◌, ◌<◌, ◌≤◌, ◌++◌, ℕ, List, [], ◌∷◌, length, take, drop, bit_xor, refl, sym, ap, arith}
use Rattle.std.specs.Int.{w64, from_le_bytes}
use Rattle.std.proofs.lemmas.List.{take-append-drop, length-take-le}
use Rattle.std.proofs.lemmas.List.Elements.{All-take}
use Rattle.std.proofs.lemmas.Nat.{xor_comm}
use Rattle.kt_checksum.specs.Checksums.{after_bits, after_byte, after_bytes, AreBytes}
use Rattle.kt_checksum.proofs.Linear.{fall, linear_bits, more_bits}
use Rattle.kt_checksum.proofs.Apart.{first, others}
use lib.Bits.{xor_assoc, xor_zero_r, xor_shifted}

-- the number of bytes, the lowest first
abbrev value : List ℕ → ℕ
value [] = 0
value (b ∷ bs) = b + 256 * value bs

-- a byte, and a number above it
joined : (r b v : ℕ) → b < 256 → bit_xor (bit_xor r b) (v * 256) ≡ bit_xor r (b + 256 * v)
joined r b v h =
    let sum : v * 2 ^ 8 + b ≡ b + 256 * v = omega arith in
    xor_assoc r b (v * 256) ∙ ap (bit_xor r) (xor_comm b (v * 256) ∙ (xor_shifted v 8 b (omega arith) ∙ sum))

by_value : (bs : List ℕ) (r : ℕ) → AreBytes bs → after_bytes r bs ≡ after_bits (8 * length bs) (bit_xor r (value bs))
by_value [] r f = sym (xor_zero_r r)
by_value (b ∷ bs) r f =
    let m = 8 * length bs in
    let v = value bs in
    let z = bit_xor r b in
    let inside : bit_xor (after_bits 8 z) v ≡ after_bits 8 (bit_xor r (b + 256 * v)) =
    ap (bit_xor (after_bits 8 z)) (sym (fall v)) ∙ (sym (linear_bits 8 z (v * 256)) ∙ ap (after_bits 8) (joined r b v (first b bs f))) in
    let count : 8 + m ≡ 8 * length (b ∷ bs) = omega arith in
    by_value bs (after_byte r b) (others b bs f) ∙ (ap (after_bits m) inside ∙ (sym (more_bits 8 m (bit_xor r (b + 256 * v))) ∙ ap (λ k. after_bits k (bit_xor r (b + 256 * v))) count))

value_is : (bs : List ℕ) → length bs ≡ 8 → value bs ≡ from_le_bytes w64 bs
value_is (a ∷ b ∷ c ∷ d ∷ e ∷ f ∷ g ∷ h ∷ []) n = omega arith
value_is [] n = absurd (omega (arith, n))
value_is (a ∷ []) n = absurd (omega (arith, n))
value_is (a ∷ b ∷ []) n = absurd (omega (arith, n))
value_is (a ∷ b ∷ c ∷ []) n = absurd (omega (arith, n))
value_is (a ∷ b ∷ c ∷ d ∷ []) n = absurd (omega (arith, n))
value_is (a ∷ b ∷ c ∷ d ∷ e ∷ []) n = absurd (omega (arith, n))
value_is (a ∷ b ∷ c ∷ d ∷ e ∷ f ∷ []) n = absurd (omega (arith, n))
value_is (a ∷ b ∷ c ∷ d ∷ e ∷ f ∷ g ∷ []) n = absurd (omega (arith, n))
value_is (a ∷ b ∷ c ∷ d ∷ e ∷ f ∷ g ∷ h ∷ i ∷ bs) n = absurd (omega (arith, n))

after_both : (r : ℕ) (xs ys : List ℕ) → after_bytes r (xs ++ ys) ≡ after_bytes (after_bytes r xs) ys
after_both r [] ys = refl
after_both r (x ∷ xs) ys = after_both (after_byte r x) xs ys

-- the first eight bytes at once, and then the others
pub by_eight : (r n : ℕ) (bs : List ℕ) → AreBytes bs → 8 ≤ length bs → n ≡ from_le_bytes w64 (take 8 bs) →
    after_bytes (after_bits 64 (bit_xor r n)) (drop 8 bs) ≡ after_bytes r bs
by_eight r n bs f b e =
    let long : length (take 8 bs) ≡ 8 = length-take-le 8 bs b in
    let bits : after_bits (8 * length (take 8 bs)) (bit_xor r (value (take 8 bs))) ≡ after_bits 64 (bit_xor r n) =
    ap (λ k. after_bits (8 * k) (bit_xor r (value (take 8 bs)))) long ∙ ap (λ v. after_bits 64 (bit_xor r v)) (value_is (take 8 bs) long ∙ sym e) in
    sym (ap (after_bytes r) (sym (take-append-drop 8 bs)) ∙ (after_both r (take 8 bs) (drop 8 bs)
    ∙ ap (λ s. after_bytes s (drop 8 bs)) (by_value (take 8 bs) r (All-take (λ b. b < 2 ^ 8) 8 bs f) ∙ bits)))
