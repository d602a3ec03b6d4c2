-- Lanes, found one by one.
use Rattle.std.proofs.Common.{◌≡◌, ◌≢◌, ◌∙◌, ◌<◌, ◌≤◌, ◌+◌, ℕ, zero, suc, Bool, true, false, List, [], ◌∷◌, ◌++◌, length, refl, sym, ap, subst, cond, filter, arith, map, add-one}
use Rattle.std.proofs.lemmas.List.{map-id, map-append, append-nil, length_push}
use Rattle.std.proofs.lemmas.List.FromFn.{filter_of_map_range_with_len_more}
use Rattle.std.specs.List.{range_with_len}
use Rattle.std.specs.Prelude.{◌==◌, ◌||◌}
use Rattle.std.proofs.lemmas.Bool.Decides.{nat_tests}
use Rattle.kt_base.specs.Sets.{has}

-- one more lane at most
pub few_more : (t : Bool) (lanes : List ℕ) (p n : ℕ) → length lanes ≤ n → length (lanes ++ cond t (p ∷ []) []) ≤ n + 1
few_more true lanes p n l = omega (arith, length_push lanes p, l)
few_more false lanes p n l = omega (arith, ap length (append-nil lanes), l)

all_pass : (xs : List ℕ) → filter (λ p. true) xs ≡ xs
all_pass [] = refl
all_pass (x ∷ xs) = ap (λ (l : List ℕ). x ∷ l) (all_pass xs)

-- one more process is tested
pub lanes_more : (p : ℕ → Bool) (n : ℕ) → filter p (range_with_len 0 (n + 1)) ≡ filter p (range_with_len 0 n) ++ cond (p n) (n ∷ []) []
lanes_more p n =
    let same : (m : ℕ) → map (λ (x : ℕ). x) (range_with_len 0 m) ≡ range_with_len 0 m = λ m. map-id (range_with_len 0 m) in
    ap (filter p) (sym (same (n + 1))) ∙ filter_of_map_range_with_len_more p (λ (x : ℕ). x) 0 n n (omega arith) ∙ ap (λ (x : List ℕ). filter p x ++ cond (p n) (n ∷ []) []) (same n)

range_more : (n : ℕ) → range_with_len 0 (n + 1) ≡ range_with_len 0 n ++ n ∷ []
range_more n = sym (all_pass (range_with_len 0 (n + 1))) ∙ lanes_more (λ p. true) n ∙ ap (λ (l : List ℕ). l ++ n ∷ []) (all_pass (range_with_len 0 n))

-- one process more, of which something is made
pub ends_more : {B : Type 0} (f : ℕ → B) (n : ℕ) → map f (range_with_len 0 (n + 1)) ≡ map f (range_with_len 0 n) ++ f n ∷ []
ends_more f n = ap (map f) (range_more n) ∙ map-append f (range_with_len 0 n) (n ∷ [])

-- two tests that agree find the same lanes
pub same_lanes : (p q : ℕ → Bool) (n : ℕ) → ((k : ℕ) → k < n → p k ≡ q k) → filter p (range_with_len 0 n) ≡ filter q (range_with_len 0 n)
same_lanes p q zero h = refl
same_lanes p q (suc n) h =
    let number = add-one n in
    let rest = same_lanes p q n (λ k l. h k (omega (arith, l))) in
    ap (λ (m : ℕ). filter p (range_with_len 0 m)) (sym number) ∙ lanes_more p n
    ∙ (λ j. rest j ++ cond (h n (omega arith) j) (n ∷ []) [])
    ∙ sym (lanes_more q n) ∙ ap (λ (m : ℕ). filter q (range_with_len 0 m)) number

or_assoc : (a b d : Bool) → (a || (b || d)) ≡ ((a || b) || d)
or_assoc true b d = refl
or_assoc false b d = refl

or_true : (a : Bool) → (a || true) ≡ true
or_true true = refl
or_true false = refl

or_false : (a : Bool) → (a || false) ≡ a
or_false true = refl
or_false false = refl

-- a set with one process more
with_one : (old new p : ℕ) → has new p ≡ true → ((q : ℕ) → q ≢ p → has new q ≡ has old q) → (q : ℕ) → has new q ≡ (has old q || p == q)
with_one old new p added others q = at_test (p == q) refl
  where
    at_test : (b : Bool) → (p == q) ≡ b → has new q ≡ (has old q || b)
    at_test true t =
        let same : p ≡ q = grind (arith, nat_tests, t) in
        subst (λ (k : ℕ). has new k ≡ true) same added ∙ sym (or_true (has old q))
    at_test false t =
        others q (λ e. absurd (let found : (p == q) ≡ true = grind (arith, nat_tests, e) in cc)) ∙ sym (or_false (has old q))

-- and with two
pub with_two : (old one two p peer : ℕ) → has one p ≡ true → ((q : ℕ) → q ≢ p → has one q ≡ has old q) → has two peer ≡ true → ((q : ℕ) → q ≢ peer → has two q ≡ has one q)
    → (q : ℕ) → has two q ≡ (has old q || (p == q || peer == q))
with_two old one two p peer first rest second others q =
    with_one one two peer second others q ∙ ap (λ (b : Bool). b || peer == q) (with_one old one p first rest q) ∙ sym (or_assoc (has old q) (p == q) (peer == q))
