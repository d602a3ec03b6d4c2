-- Sets of pairs of processes, bit by bit.
use Rattle.std.proofs.Common.{◌≡◌, ◌≢◌, ℕ, zero, suc, ◌+◌, ◌-◌, ◌*◌, ◌/◌, ◌%◌, ◌^◌, ◌<◌, ◌≤◌, Bool, true, false, List, length, replicate, get_or, set, refl, sym, ap, ◌∙◌, arith, inl, inr, w64, get_or-set_same, get_or-set_other, bit_and, bit_or}
use Rattle.std.specs.Prelude.{◌==◌, ◌&&◌, ◌||◌}
use Prim.Native.Nat.{min}
use Rattle.std.specs.Int.{bit_at, bit_not, trailing_zeros}
use Rattle.std.proofs.lemmas.Bool.{cases_eq, cases_lt}
use Rattle.std.proofs.lemmas.Bool.Decides.{nat_tests}
use Rattle.std.proofs.lemmas.List.{length-set}
use Rattle.std.proofs.lemmas.Nat.{shr-shr, shr_le}
use Rattle.std.proofs.lemmas.Nat.Bits.{bit_at_set_same, bit_at_set_other, bit_at_clear_same, bit_at_clear_other, bit_at-trailing_zeros, bit_at_and, bit_at-lt, bit_at-zero, bit_at_above}
use Rattle.kt_base.specs.Sets.{has}
use Rattle.kt_walk.specs.Peers.{is_in}

-- a word is set
here : (xs : List ℕ) (p w : ℕ) → length xs ≡ 64 → p < 4096 → is_in (set xs (p / 64) w) p ≡ has w (p % 64)
here xs p w long low = ap (λ (x : ℕ). has x (p % 64)) (get_or-set_same xs (p / 64) w 0 (omega (arith, long, low)))

-- the bits of the words set elsewhere, and the other bits of the word set
elsewhere : (xs : List ℕ) (p i w : ℕ) → length xs ≡ 64 → p < 4096 → i ≢ p → ((q : ℕ) → q < 64 → q ≢ p % 64 → has w q ≡ has (get_or xs (p / 64) 0) q) → is_in (set xs (p / 64) w) i ≡ is_in xs i
elsewhere xs p i w long low other bits = elim (cases_eq (i / 64) (p / 64)) [
  | inl same ↦
      let apart : i % 64 ≢ p % 64 = λ e. other (omega (arith, same, e)) in
      ap (λ (r : ℕ). has (get_or (set xs (p / 64) w) r 0) (i % 64)) same
      ∙ (ap (λ (x : ℕ). has x (i % 64)) (get_or-set_same xs (p / 64) w 0 (omega (arith, long, low)))
      ∙ (bits (i % 64) (omega arith) apart ∙ ap (λ (r : ℕ). has (get_or xs r 0) (i % 64)) (sym same)))
  | inr apart ↦ ap (λ (x : ℕ). has x (i % 64)) (get_or-set_other xs (p / 64) (i / 64) w 0 apart)
]

-- a pair is added
pub added : (xs : List ℕ) (p : ℕ) → length xs ≡ 64 → p < 4096 → is_in (set xs (p / 64) (bit_or (get_or xs (p / 64) 0) (1 * 2 ^ (p % 64) % 2 ^ 64))) p ≡ true
added xs p long low = here xs p _ long low ∙ ap (λ (b : ℕ). b == 1) (bit_at_set_same w64 (get_or xs (p / 64) 0) (p % 64) (omega arith))

pub added_others : (xs : List ℕ) (p i : ℕ) → length xs ≡ 64 → p < 4096 → i ≢ p → is_in (set xs (p / 64) (bit_or (get_or xs (p / 64) 0) (1 * 2 ^ (p % 64) % 2 ^ 64))) i ≡ is_in xs i
added_others xs p i long low other = elsewhere xs p i _ long low other (λ q small apart. ap (λ (b : ℕ). b == 1) (bit_at_set_other w64 (get_or xs (p / 64) 0) (p % 64) (omega arith) q apart))

-- a pair is removed
pub removed : (xs : List ℕ) (p : ℕ) → length xs ≡ 64 → p < 4096 → is_in (set xs (p / 64) (bit_and (get_or xs (p / 64) 0) (bit_not w64 (1 * 2 ^ (p % 64) % 2 ^ 64)))) p ≡ false
removed xs p long low = here xs p _ long low ∙ ap (λ (b : ℕ). b == 1) (bit_at_clear_same w64 (get_or xs (p / 64) 0) (p % 64) (omega arith))

pub removed_others : (xs : List ℕ) (p i : ℕ) → length xs ≡ 64 → p < 4096 → i ≢ p → is_in (set xs (p / 64) (bit_and (get_or xs (p / 64) 0) (bit_not w64 (1 * 2 ^ (p % 64) % 2 ^ 64)))) i ≡ is_in xs i
removed_others xs p i long low other = elsewhere xs p i _ long low other (λ q small apart. ap (λ (b : ℕ). b == 1) (bit_at_clear_other w64 (get_or xs (p / 64) 0) (p % 64) (omega arith) q small apart))

-- the bits of a word that is moved down
moved : (bits start i : ℕ) → bit_at (bits / 2 ^ start) i ≡ bit_at bits (start + i)
moved bits start i = ap (λ (n : ℕ). n % 2) (shr-shr bits start i)

pub none_moved : (bits start k : ℕ) → bits / 2 ^ start ≡ 0 → start ≤ k → has bits k ≡ false
none_moved bits start k none from =
    let at : start + (k - start) ≡ k = omega (arith, from) in
    ap (λ (b : ℕ). b == 1) (ap (bit_at bits) (sym at) ∙ (sym (moved bits start (k - start)) ∙ (ap (λ (n : ℕ). bit_at n (k - start)) none ∙ bit_at-zero (k - start))))

-- what two words have in common
pub has_both : (a b q : ℕ) → has (bit_and a b) q ≡ (has a q && has b q)
has_both a b q = ap (λ (n : ℕ). n == 1) (bit_at_and a b q) ∙ both (bit_at a q) (bit_at b q) (bit_at-lt a q) (bit_at-lt b q)
  where
    both : (x y : ℕ) → x < 2 → y < 2 → (min x y == 1) ≡ ((x == 1) && (y == 1))
    both x y p q = grind (arith, nat_tests)

-- the first bit of a word that is moved down
pub first_moved : (bits start : ℕ) → bits / 2 ^ start ≢ 0 → bits < 2 ^ 64
    → (start ≤ start + trailing_zeros w64 (bits / 2 ^ start)) × (start + trailing_zeros w64 (bits / 2 ^ start) < 64) × (has bits (start + trailing_zeros w64 (bits / 2 ^ start)) ≡ true)
    × ((k : ℕ) → start ≤ k → k < start + trailing_zeros w64 (bits / 2 ^ start) → has bits k ≡ false)
first_moved bits start some small = (omega arith, low, ap (λ (b : ℕ). b == 1) set, before)
  where
    rest : ℕ
    rest = bits / 2 ^ start

    less : rest < 2 ^ 64
    less = omega (arith, shr_le bits start, small)

    known : (trailing_zeros w64 rest < 64) × (bit_at rest (trailing_zeros w64 rest) ≡ 1) × ((i : ℕ) → i < trailing_zeros w64 rest → bit_at rest i ≡ 0)
    known = bit_at-trailing_zeros w64 rest (omega (arith, some)) less

    set : bit_at bits (start + trailing_zeros w64 rest) ≡ 1
    set = sym (moved bits start (trailing_zeros w64 rest)) ∙ known.1

    low : start + trailing_zeros w64 rest < 64
    low = elim (cases_lt (start + trailing_zeros w64 rest) 64) [
      | inl within ↦ within
      | inr past ↦ let clash : 1 ≡ 0 = sym set ∙ bit_at_above bits 64 (start + trailing_zeros w64 rest) small past in absurd (omega (arith, clash))
    ]

    before : (k : ℕ) → start ≤ k → k < start + trailing_zeros w64 rest → has bits k ≡ false
    before k from below =
        let at : start + (k - start) ≡ k = omega (arith, from) in
        ap (λ (b : ℕ). b == 1) (ap (bit_at bits) (sym at) ∙ (sym (moved bits start (k - start)) ∙ known.2 (k - start) (omega (arith, from, below))))

-- no pair is in words without bits
no_bits : (n i : ℕ) → get_or {A = ℕ} (replicate n 0) i 0 ≡ 0
no_bits zero i = refl
no_bits (suc n) zero = refl
no_bits (suc n) (suc i) = no_bits n i

pub none_in : (i : ℕ) → is_in (replicate 64 0) i ≡ false
none_in i = ap (λ (w : ℕ). has w (i % 64)) (no_bits 64 (i / 64)) ∙ ap (λ (b : ℕ). b == 1) (bit_at-zero (i % 64))

-- the bits below a number are those of a set, and no other bit is set
pub record AreBits (bits members number : ℕ) : Type 0 where
  pub same : (q : ℕ) → q < number → has bits q ≡ has members q
  pub none : (q : ℕ) → number ≤ q → q < 64 → has bits q ≡ false

pub bit_more : (bits members n : ℕ) → n < 64 → has members n ≡ true → AreBits bits members n → AreBits (bit_or bits (1 * 2 ^ n % 2 ^ 64)) members (n + 1)
bit_more bits members n low there h = record {
  same = λ q below. elim (cases_eq q n) [
    | inl at ↦ ap (has (bit_or bits (1 * 2 ^ n % 2 ^ 64))) at ∙ (ap (λ (b : ℕ). b == 1) (bit_at_set_same w64 bits n low) ∙ (sym there ∙ ap (has members) (sym at)))
    | inr apart ↦ ap (λ (b : ℕ). b == 1) (bit_at_set_other w64 bits n low q apart) ∙ h.same q (omega (arith, below, apart))
  ];
  none = λ q from small. ap (λ (b : ℕ). b == 1) (bit_at_set_other w64 bits n low q (λ at. omega (arith, at, from))) ∙ h.none q (omega (arith, from)) small;
}

pub bit_less : (bits members n : ℕ) → n < 64 → has members n ≡ false → AreBits bits members n → AreBits bits members (n + 1)
bit_less bits members n low none h = record {
  same = λ q below. elim (cases_eq q n) [
    | inl at ↦ h.none q (omega (arith, at)) (omega (arith, at, low)) ∙ (sym none ∙ ap (has members) (sym at))
    | inr apart ↦ h.same q (omega (arith, below, apart))
  ];
  none = λ q from small. h.none q (omega (arith, from)) small;
}

-- the words below a number have, of their bits, those with a member as receiver or as sender; the others are unchanged
pub record AreOfMembers (before now : List ℕ) (members number : ℕ) : Type 0 where
  pub count : length now ≡ 64
  pub done : (r q : ℕ) → r < number → q < 64 → has (get_or now r 0) q ≡ (has (get_or before r 0) q && (has members r || has members q))
  pub rest : (r : ℕ) → number ≤ r → get_or now r 0 ≡ get_or before r 0

pub word_of_others : (before now : List ℕ) (members bits n : ℕ) → n < 64 → has members n ≡ false → ((q : ℕ) → q < 64 → has bits q ≡ has members q) → AreOfMembers before now members n
    → AreOfMembers before (set now n (bit_and (get_or now n 0) bits)) members (n + 1)
word_of_others before now members bits n low none same h = record {
  count = length-set now n _ ∙ h.count;
  done = λ r q below small. elim (cases_eq r n) [
    | inl at ↦
        ap (λ (x : ℕ). has (get_or (set now n (bit_and (get_or now n 0) bits)) x 0) q) at
        ∙ (ap (λ (x : ℕ). has x q) (get_or-set_same now n (bit_and (get_or now n 0) bits) 0 (omega (arith, low, h.count)))
        ∙ (has_both (get_or now n 0) bits q
        ∙ ((λ i. has (rest_here i) q && same q small i)
        ∙ ((λ i. has (get_or before n 0) q && (sym none i || has members q))
        ∙ ap (λ (x : ℕ). has (get_or before x 0) q && (has members x || has members q)) (sym at)))))
    | inr apart ↦ ap (λ (x : ℕ). has x q) (get_or-set_other now n r (bit_and (get_or now n 0) bits) 0 apart) ∙ h.done r q (omega (arith, below, apart)) small
  ];
  rest = λ r from. get_or-set_other now n r (bit_and (get_or now n 0) bits) 0 (λ at. omega (arith, at, from)) ∙ h.rest r (omega (arith, from));
}
  where
    rest_here : get_or now n 0 ≡ get_or before n 0
    rest_here = h.rest n (omega arith)

pub word_of_member : (before now : List ℕ) (members n : ℕ) → has members n ≡ true → AreOfMembers before now members n → AreOfMembers before now members (n + 1)
word_of_member before now members n there h = record {
  count = h.count;
  done = λ r q below small. elim (cases_eq r n) [
    | inl at ↦
        ap (λ (x : ℕ). has (get_or now x 0) q) at
        ∙ ((λ i. has (rest_here i) q)
        ∙ (sym (and_true (has (get_or before n 0) q))
        ∙ ((λ i. has (get_or before n 0) q && (sym there i || has members q))
        ∙ ap (λ (x : ℕ). has (get_or before x 0) q && (has members x || has members q)) (sym at))))
    | inr apart ↦ h.done r q (omega (arith, below, apart)) small
  ];
  rest = λ r from. h.rest r (omega (arith, from));
}
  where
    rest_here : get_or now n 0 ≡ get_or before n 0
    rest_here = h.rest n (omega arith)

    and_true : (b : Bool) → (b && true) ≡ b
    and_true true = refl
    and_true false = refl

-- all words have the pairs of members
pub of_members : (before now : List ℕ) (members i : ℕ) → i < 4096 → AreOfMembers before now members 64 → is_in now i ≡ (is_in before i && (has members (i / 64) || has members (i % 64)))
of_members before now members i low h = h.done (i / 64) (i % 64) (omega (arith, low)) (omega arith)
