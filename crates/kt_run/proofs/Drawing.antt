-- Numbers that a generator draws.
use Rattle.std.specs.Prelude.{◌%◌, ◌-◌, nat_lt, if◌then◌else◌}
use Rattle.std.proofs.Common.{◌≡◌, ◌<◌, ◌≤◌, ℕ, zero, suc, Bool, true, false, refl, sym, ap, subst, arith}
use Rattle.std.proofs.lemmas.Bool.Decides.{nat_tests}
use Rattle.rand_xoshiro.specs.Xoshiro256.{plus_plus}
use Rattle.kt_run.specs.Orders.{Generator, even_part, drawn}

-- a word that counts gives the number
pub drawn_here : (k n : ℕ) (g : Generator) (word : ℕ) (after : Generator) → 0 < k → (word, after) ≡ plus_plus g → word < even_part n → (word % n, after) ≡ drawn k n g
drawn_here zero n g word after some e l = absurd (omega (arith, some))
drawn_here (suc k) n g word after some e l =
    let t : nat_lt word (even_part n) ≡ true = grind (arith, nat_tests, l) in
    subst (λ (p : ℕ × Generator). (word % n, after) ≡ (if nat_lt p.0 (even_part n) then (p.0 % n, p.1) else drawn k n p.1)) e
    (sym (ap (λ (b : Bool). if b then (word % n, after) else drawn k n after) t))

-- another one does not
pub drawn_again : (k n : ℕ) (g : Generator) (word : ℕ) (after : Generator) → 0 < k → (word, after) ≡ plus_plus g → even_part n ≤ word → drawn k n g ≡ drawn (k - 1) n after
drawn_again zero n g word after some e l = absurd (omega (arith, some))
drawn_again (suc k) n g word after some e l =
    let t : nat_lt word (even_part n) ≡ false = grind (arith, nat_tests, l) in
    let less : k ≡ suc k - 1 = omega arith in
    subst (λ (m : ℕ). drawn (suc k) n g ≡ drawn m n after) less
    (subst (λ (p : ℕ × Generator). (if nat_lt p.0 (even_part n) then (p.0 % n, p.1) else drawn k n p.1) ≡ drawn k n after) e
    (ap (λ (b : Bool). if b then (word % n, after) else drawn k n after) t))

-- no word is left
pub drawn_none : (k n : ℕ) (g : Generator) → k ≡ 0 → (0, g) ≡ drawn k n g
drawn_none zero n g e = refl
drawn_none (suc k) n g e = absurd (omega (arith, e))
