-- Registers that differ stay apart.
use Rattle.std.proofs.Common.{◌≡◌, ◌≢◌, ◌∙◌, ◌/◌, ◌%◌, ◌^◌, ◌<◌, ◌++◌, ℕ, zero, suc, List, [], ◌∷◌, bit_xor, sym, ap, subst, arith, inl, inr}
use Rattle.std.proofs.lemmas.Bool.{cases_eq}
use Rattle.std.proofs.lemmas.Nat.{xor_comm, xor_shr, xor_of_32}
use Rattle.kt_checksum.specs.Checksums.{polynomial, ones, after_bit, after_bits, after_byte, after_bytes, checksum, AreBytes, DifferInOneByte}
use Rattle.kt_checksum.proofs.Linear.{even, odd, twice}

cancel : (a b p : ℕ) → bit_xor a p ≡ bit_xor b p → a ≡ b
cancel a b p e = sym (twice a p) ∙ (ap (λ x. bit_xor x p) e ∙ twice b p)

cancel_first : (p a b : ℕ) → bit_xor p a ≡ bit_xor p b → a ≡ b
cancel_first p a b e = cancel a b p (xor_comm a p ∙ (e ∙ xor_comm p b))

within : (r : ℕ) → r < 2 ^ 32 → after_bit r < 2 ^ 32
within r h = elim (cases_eq (r % 2) 1) [
  | inl e ↦ subst (λ (x : ℕ). x < 2 ^ 32) (sym (odd r e)) (xor_of_32 (r / 2) polynomial (omega arith) (omega arith))
  | inr f ↦ subst (λ (x : ℕ). x < 2 ^ 32) (sym (even r (omega arith))) (omega arith)
]

within_bits : (n r : ℕ) → r < 2 ^ 32 → after_bits n r < 2 ^ 32
within_bits zero r h = h
within_bits (suc n) r h = within_bits n (after_bit r) (within r h)

mixed : (r b : ℕ) → r < 2 ^ 32 → b < 256 → bit_xor r b < 2 ^ 32
mixed r b h f = xor_of_32 r b h (omega arith)

pub within_byte : (r b : ℕ) → r < 2 ^ 32 → b < 256 → after_byte r b < 2 ^ 32
within_byte r b h f = within_bits 8 (bit_xor r b) (mixed r b h f)

-- the highest bit tells which bit fell out
top : (r : ℕ) → r < 2 ^ 32 → after_bit r / 2 ^ 31 ≡ r % 2
top r h = elim (cases_eq (r % 2) 1) [
  | inl e ↦
      let none : r / 2 / 2 ^ 31 ≡ 0 = omega arith in
      ap (λ x. x / 2 ^ 31) (odd r e) ∙ (xor_shr (r / 2) polynomial 31 ∙ (ap (λ x. bit_xor x (polynomial / 2 ^ 31)) none ∙ sym e))
  | inr f ↦
      let e : r % 2 ≡ 0 = omega arith in
      let none : r / 2 / 2 ^ 31 ≡ 0 = omega arith in
      ap (λ x. x / 2 ^ 31) (even r e) ∙ (none ∙ sym e)
]

from_halves : (r s : ℕ) → r % 2 ≡ s % 2 → r / 2 ≡ s / 2 → r ≡ s
from_halves r s e f = omega arith

one_bit : (r s : ℕ) → r < 2 ^ 32 → s < 2 ^ 32 → after_bit r ≡ after_bit s → r ≡ s
one_bit r s h k e =
    let low : r % 2 ≡ s % 2 = sym (top r h) ∙ (ap (λ x. x / 2 ^ 31) e ∙ top s k) in
    elim (cases_eq (r % 2) 1) [
      | inl f ↦ from_halves r s low (cancel (r / 2) (s / 2) polynomial (sym (odd r f) ∙ (e ∙ odd s (sym low ∙ f))))
      | inr g ↦
          let f : r % 2 ≡ 0 = omega arith in
          from_halves r s low (sym (even r f) ∙ (e ∙ even s (sym low ∙ f)))
    ]

one_of_bits : (n r s : ℕ) → r < 2 ^ 32 → s < 2 ^ 32 → after_bits n r ≡ after_bits n s → r ≡ s
one_of_bits zero r s h k e = e
one_of_bits (suc n) r s h k e = one_bit r s h k (one_of_bits n (after_bit r) (after_bit s) (within r h) (within s k) e)

pub first : (b : ℕ) (bs : List ℕ) → AreBytes (b ∷ bs) → b < 256
first b bs f = f 0 0 (omega arith)

pub others : (b : ℕ) (bs : List ℕ) → AreBytes (b ∷ bs) → AreBytes bs
others b bs f = λ k d h. f (suc k) d (omega arith)

one_of_bytes : (bs : List ℕ) (r s : ℕ) → AreBytes bs → r < 2 ^ 32 → s < 2 ^ 32 → after_bytes r bs ≡ after_bytes s bs → r ≡ s
one_of_bytes [] r s f h k e = e
one_of_bytes (b ∷ bs) r s f h k e =
    let byte = first b bs f in
    cancel r s b (one_of_bits 8 (bit_xor r b) (bit_xor s b) (mixed r b h byte) (mixed s b k byte)
    (one_of_bytes bs (after_byte r b) (after_byte s b) (others b bs f) (within_byte r b h byte) (within_byte s b k byte) e))

apart : (front back : List ℕ) (a b r : ℕ) → AreBytes (front ++ a ∷ back) → AreBytes (front ++ b ∷ back) → r < 2 ^ 32 → a ≢ b →
    after_bytes r (front ++ a ∷ back) ≡ after_bytes r (front ++ b ∷ back) → ⊥
apart [] back a b r f g h other e =
    let x = first a back f in
    let y = first b back g in
    other (cancel_first r a b (one_of_bits 8 (bit_xor r a) (bit_xor r b) (mixed r a h x) (mixed r b h y)
    (one_of_bytes back (after_byte r a) (after_byte r b) (others a back f) (within_byte r a h x) (within_byte r b h y) e)))
apart (x ∷ front) back a b r f g h other e =
    apart front back a b (after_byte r x) (others x (front ++ a ∷ back) f) (others x (front ++ b ∷ back) g) (within_byte r x h (first x (front ++ a ∷ back) f)) other e

pub changed : (xs ys : List ℕ) → AreBytes xs → AreBytes ys → DifferInOneByte xs ys → checksum xs ≡ checksum ys → ⊥
changed xs ys f g d e =
    apart d.front d.back d.old d.new ones (subst AreBytes d.is_old f) (subst AreBytes d.is_new g) (omega arith) d.other
    (ap (after_bytes ones) (sym d.is_old) ∙ (cancel (after_bytes ones xs) (after_bytes ones ys) ones e ∙ ap (after_bytes ones) d.is_new))

within_bytes : (bs : List ℕ) (r : ℕ) → AreBytes bs → r < 2 ^ 32 → after_bytes r bs < 2 ^ 32
within_bytes [] r f h = h
within_bytes (b ∷ bs) r f h = within_bytes bs (after_byte r b) (others b bs f) (within_byte r b h (first b bs f))

pub within_32 : (bs : List ℕ) → AreBytes bs → checksum bs < 2 ^ 32
within_32 bs f = xor_of_32 (after_bytes ones bs) ones (within_bytes bs ones f (omega arith)) (omega arith)
