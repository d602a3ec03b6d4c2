-- Functions with another value at one place.
use Rattle.std.proofs.Common.{◌≡◌, ℕ, Bool, true, false, refl, arith, subst}
use Rattle.std.specs.Prelude.{◌==◌, if◌then◌else◌}
use Rattle.std.proofs.lemmas.Bool.Decides.{nat_tests}
use Rattle.kt_meaning.specs.Past.{at_one}

pub same_number : (a b : ℕ) → (a == b) ≡ true → b ≡ a
same_number a b e = grind (arith, nat_tests)

-- what holds of the new value at its place, and of each old one at its own
pub at_one_all : {X : Type 0} (P : ℕ → X → Type 0) (p : ℕ) (x : X) (f : ℕ → X) → P p x → ((q : ℕ) → P q (f q)) → (q : ℕ) → P q (at_one p x f q)
at_one_all {X} P p x f here others q = at_test (q == p) refl
  where
    at_test : (b : Bool) → (q == p) ≡ b → P q (if b then x else f q)
    at_test true e = subst (λ (u : ℕ). P u x) (same_number q p e) here
    at_test false e = others q
