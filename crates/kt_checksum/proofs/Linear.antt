-- What becomes of a sum of two registers is the sum of what becomes of each.
use Rattle.std.proofs.Common.{◌≡◌, ◌∙◌, ◌+◌, ◌*◌, ◌/◌, ◌%◌, ℕ, zero, suc, bit_xor, refl, sym, ap, arith, inl, inr}
use Rattle.std.proofs.lemmas.Bool.{cases_eq}
use Rattle.std.proofs.lemmas.Bool.Decides.{nat_tests}
use Rattle.std.proofs.lemmas.Nat.{xor_comm, xor_shr, xor_mod, shr_split}
use Rattle.kt_checksum.specs.Checksums.{polynomial, after_bit, after_bits}
use lib.Bits.{xor_assoc, xor_self, xor_zero_r, xor_shifted}

-- a register whose lowest bit is 0, and 1
pub even : (r : ℕ) → r % 2 ≡ 0 → after_bit r ≡ r / 2
even r e = grind (arith, nat_tests)

pub odd : (r : ℕ) → r % 2 ≡ 1 → after_bit r ≡ bit_xor (r / 2) polynomial
odd r e = grind (arith, nat_tests)

-- a polynomial in one of two sums, and in both
in_first : (a b p : ℕ) → bit_xor (bit_xor a p) b ≡ bit_xor (bit_xor a b) p
in_first a b p = xor_assoc a p b ∙ (ap (bit_xor a) (xor_comm p b) ∙ sym (xor_assoc a b p))

pub twice : (a p : ℕ) → bit_xor (bit_xor a p) p ≡ a
twice a p = xor_assoc a p p ∙ (ap (bit_xor a) (xor_self p) ∙ xor_zero_r a)

in_both : (a b p : ℕ) → bit_xor (bit_xor a p) (bit_xor b p) ≡ bit_xor a b
in_both a b p = sym (xor_assoc (bit_xor a p) b p) ∙ (ap (λ x. bit_xor x p) (in_first a b p) ∙ twice (bit_xor a b) p)

pub linear : (a b : ℕ) → after_bit (bit_xor a b) ≡ bit_xor (after_bit a) (after_bit b)
linear a b =
    let half : bit_xor a b / 2 ≡ bit_xor (a / 2) (b / 2) = xor_shr a b 1 in
    let low : bit_xor a b % 2 ≡ bit_xor (a % 2) (b % 2) = xor_mod a b 1 in
    elim (cases_eq (a % 2) 1) [
      | inl e ↦ elim (cases_eq (b % 2) 1) [
        | inl f ↦ even _ (low ∙ (λ i. bit_xor (e i) (f i))) ∙ (half ∙ (sym (in_both (a / 2) (b / 2) polynomial) ∙ (λ i. bit_xor (sym (odd a e) i) (sym (odd b f) i))))
        | inr g ↦
            let f : b % 2 ≡ 0 = omega arith in
            odd _ (low ∙ (λ i. bit_xor (e i) (f i))) ∙ (ap (λ x. bit_xor x polynomial) half ∙ (sym (in_first (a / 2) (b / 2) polynomial) ∙ (λ i. bit_xor (sym (odd a e) i) (sym (even b f) i))))
      ]
      | inr g ↦
          let e : a % 2 ≡ 0 = omega arith in
          elim (cases_eq (b % 2) 1) [
            | inl f ↦ odd _ (low ∙ (λ i. bit_xor (e i) (f i))) ∙ (ap (λ x. bit_xor x polynomial) half ∙ (xor_assoc (a / 2) (b / 2) polynomial ∙ (λ i. bit_xor (sym (even a e) i) (sym (odd b f) i))))
            | inr h ↦
                let f : b % 2 ≡ 0 = omega arith in
                even _ (low ∙ (λ i. bit_xor (e i) (f i))) ∙ (half ∙ (λ i. bit_xor (sym (even a e) i) (sym (even b f) i)))
          ]
    ]

pub linear_bits : (n a b : ℕ) → after_bits n (bit_xor a b) ≡ bit_xor (after_bits n a) (after_bits n b)
linear_bits zero a b = refl
linear_bits (suc n) a b = ap (after_bits n) (linear a b) ∙ linear_bits n (after_bit a) (after_bit b)

-- bits that are 0 fall out
falls : (n x y : ℕ) → x ≡ y * 2 → after_bits (suc n) x ≡ after_bits n y
falls n x y e =
    let half : x / 2 ≡ y = omega arith in
    ap (after_bits n) (even x (omega arith) ∙ half)

pub fall : (h : ℕ) → after_bits 8 (h * 256) ≡ h
fall h =
    falls 7 (h * 256) (h * 128) (omega arith) ∙ (falls 6 (h * 128) (h * 64) (omega arith) ∙ (falls 5 (h * 64) (h * 32) (omega arith)
    ∙ (falls 4 (h * 32) (h * 16) (omega arith) ∙ (falls 3 (h * 16) (h * 8) (omega arith) ∙ (falls 2 (h * 8) (h * 4) (omega arith)
    ∙ (falls 1 (h * 4) (h * 2) (omega arith) ∙ falls 0 (h * 2) h (omega arith)))))))

-- eight bits of a register: what its lowest byte comes to, and the others
pub by_lowest : (r : ℕ) → after_bits 8 r ≡ bit_xor (r / 256) (after_bits 8 (r % 256))
by_lowest r =
    let split : bit_xor (r / 256 * 256) (r % 256) ≡ r = xor_shifted (r / 256) 8 (r % 256) (omega arith) ∙ shr_split r 8 in
    ap (after_bits 8) (sym split) ∙ (linear_bits 8 (r / 256 * 256) (r % 256) ∙ ap (λ x. bit_xor x (after_bits 8 (r % 256))) (fall (r / 256)))

-- so many bits and then more
pub more_bits : (n m r : ℕ) → after_bits (n + m) r ≡ after_bits m (after_bits n r)
more_bits zero m r =
    let e : 0 + m ≡ m = omega arith in
    ap (λ k. after_bits k r) e
more_bits (suc n) m r =
    let e : suc n + m ≡ suc (n + m) = omega arith in
    ap (λ k. after_bits k r) e ∙ more_bits n m (after_bit r)

-- what comes of the lowest byte of a register, and of the others
pub apart_lowest : (m r : ℕ) → after_bits (8 + m) r ≡ bit_xor (after_bits m (r / 256)) (after_bits (8 + m) (r % 256))
apart_lowest m r =
    more_bits 8 m r ∙ (ap (after_bits m) (by_lowest r) ∙ (linear_bits m (r / 256) (after_bits 8 (r % 256))
    ∙ ap (bit_xor (after_bits m (r / 256))) (sym (more_bits 8 m (r % 256)))))
