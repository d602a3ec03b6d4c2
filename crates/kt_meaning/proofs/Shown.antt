-- Tables go on showing what is known, row by row.
use Rattle.std.proofs.Common.{◌≡◌, ◌≢◌, ℕ, ◌+◌, ◌<◌, ◌≤◌, [], ◌∷◌, ◌++◌, ◌∙◌, arith}
use Rattle.std.proofs.lemmas.Bool.Decides.{nat_tests}
use Rattle.kt_meaning.specs.Past.{at_one}

-- a function with another value at one place
pub at_same : {X : Type 0} (p : ℕ) (x : X) (f : ℕ → X) → at_one p x f p ≡ x
at_same p x f = grind (arith, nat_tests)

pub at_other : {X : Type 0} (p q : ℕ) (x : X) (f : ℕ → X) → q ≢ p → at_one p x f q ≡ f q
at_other p q x f n = grind (arith, nat_tests, n)
