-- Whether some label of a list passes a test.
use Rattle.std.specs.Prelude.{◌↔◌, nat_lt, nat_le, IsTrue, Contains, ◌||◌}
use Rattle.std.specs.List.{list_any}
use Rattle.std.proofs.Common.{◌≡◌, ℕ, suc, ◌<◌, ◌≤◌, Bool, true, false, List, [], ◌∷◌, length, get_or, refl, arith, sym}
use Rattle.std.proofs.lemmas.Bool.Decides.{nat_tests}
use Rattle.std.proofs.lemmas.List.Folds.{list_any_at}

-- two tests that are true together are one
both : (a b : Bool) → (a ≡ true → b ≡ true) → (b ≡ true → a ≡ true) → a ≡ b
both true b f g = sym (f refl)
both false true f g = g refl
both false false f g = refl

found_in : (p : ℕ → Bool) (xs : List ℕ) → list_any p xs ≡ true → (x : ℕ) × Contains xs x × (p x ≡ true)
found_in p [] e = absurd (cc)
found_in p (x ∷ xs) e = at_test (p x) refl (λ h. found_in p xs h)
  where
    rest : (a b : Bool) → a ≡ false → (a || b) ≡ true → b ≡ true
    rest a b e f = grind (arith, nat_tests)

    at_test : (b : Bool) → p x ≡ b → (list_any p xs ≡ true → (y : ℕ) × Contains xs y × (p y ≡ true)) → (y : ℕ) × Contains (x ∷ xs) y × (p y ≡ true)
    at_test true t more = (x, (0, (let k : 0 < length (x ∷ xs) = omega arith in k), refl), t)
    at_test false t more =
        let h = more (rest (p x) (list_any p xs) t e) in
        (h.0, (suc h.1.0, (let b = h.1.1 in let k : suc h.1.0 < length (x ∷ xs) = omega arith in k), h.1.2), h.2)

le_of : (a b : ℕ) → nat_le a b ≡ true → a ≤ b
le_of a b e = grind (arith, nat_tests)

of_le : (a b : ℕ) → a ≤ b → nat_le a b ≡ true
of_le a b e = grind (arith, nat_tests)

lt_of : (a b : ℕ) → nat_lt a b ≡ true → a < b
lt_of a b e = grind (arith, nat_tests)

of_lt : (a b : ℕ) → a < b → nat_lt a b ≡ true
of_lt a b e = grind (arith, nat_tests)

pub up_to_test : (b : Bool) (xs : List ℕ) (l : ℕ) → (IsTrue b ↔ ((x : ℕ) × Contains xs x × (x ≤ l))) → b ≡ list_any (λ x. nat_le x l) xs
up_to_test b xs l h = both b (list_any (λ x. nat_le x l) xs)
    (λ e. let k = h.0 e in list_any_at (λ x. nat_le x l) xs k.1.0 k.0 k.1.1 (of_le (get_or xs k.1.0 k.0) l (omega (arith, k.1.2, k.2))))
    (λ e. let k = found_in (λ x. nat_le x l) xs e in h.1 (k.0, k.1, le_of k.0 l k.2))

pub above_test : (b : Bool) (xs : List ℕ) (l : ℕ) → (IsTrue b ↔ ((x : ℕ) × Contains xs x × (l < x))) → b ≡ list_any (λ x. nat_lt l x) xs
above_test b xs l h = both b (list_any (λ x. nat_lt l x) xs)
    (λ e. let k = h.0 e in list_any_at (λ x. nat_lt l x) xs k.1.0 k.0 k.1.1 (of_lt l (get_or xs k.1.0 k.0) (omega (arith, k.1.2, k.2))))
    (λ e. let k = found_in (λ x. nat_lt l x) xs e in h.1 (k.0, k.1, lt_of l k.0 k.2))
