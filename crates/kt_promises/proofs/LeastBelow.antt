-- The least number that passes a test.
use Rattle.std.proofs.Common.{◌≡◌, ℕ, zero, suc, ◌≤◌, ◌<◌, Bool, true, false, refl, arith, inl, inr, Some, None}
use Rattle.std.specs.Prelude.{Option}
use Rattle.std.proofs.lemmas.Bool.{cases_eq, cases_lt}
use Rattle.kt_promises.specs.Defaults.{least_below, or_this}

pub record IsLeast (n : ℕ) (f : ℕ → Bool) (i : ℕ) : Type 0 where
  pub low : i < n
  pub passes : f i ≡ true
  pub first : (v : ℕ) → v < i → f v ≡ false

abbrev pub LeastIs : ℕ → (ℕ → Bool) → Option ℕ → Type 0
LeastIs n f None = (v : ℕ) → v < n → f v ≡ false
LeastIs n f (Some i) = IsLeast n f i

pub least_is : (n : ℕ) (f : ℕ → Bool) → LeastIs n f (least_below n f)
least_is zero f = λ v h. absurd (omega (arith, h))
least_is (suc n) f = go (least_below n f) (f n) refl (least_is n f)
  where
    all : ((v : ℕ) → v < n → f v ≡ false) → f n ≡ false → (v : ℕ) → v < suc n → f v ≡ false
    all h e v l = elim (cases_eq v n) [ inl x ↦ rw x e | inr x ↦ h v (omega (arith, l, x)) ]

    go : (o : Option ℕ) (b : Bool) → f n ≡ b → LeastIs n f o → LeastIs (suc n) f (or_this o n b)
    go (Some i) b e h = record { low = (let l = h.low in omega (arith, l)); passes = h.passes; first = h.first }
    go None true e h = record { low = omega arith; passes = e; first = h }
    go None false e h = all h e

-- one that passes is not before the least
pub not_before : (n : ℕ) (f : ℕ → Bool) (i v : ℕ) → IsLeast n f i → f v ≡ true → i ≤ v
not_before n f i v h e = elim (cases_lt v i) [ inl l ↦ absurd (let x = h.first v l in cc (e, x)) | inr l ↦ omega (arith, l) ]
