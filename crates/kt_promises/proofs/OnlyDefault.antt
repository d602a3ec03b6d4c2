-- The default step is the only one that comes first.
use Rattle.std.proofs.Common.{◌≡◌, ℕ, true, refl, arith, sym, ap, inl, inr, Some, None}
use Rattle.std.specs.Prelude.{◌==◌, ◌&&◌, ◌||◌, nat_lt, ◌⊎◌, Option}
use Rattle.std.proofs.lemmas.Bool.Decides.{nat_tests}
use Rattle.kt_plan.specs.Limits.{Planned, IsPlan}
use Rattle.kt_plan.specs.declared.steps.Step.{Step}
use Rattle.kt_plan.specs.declared.steps.Step.TheVariants.{Do, Take}
use Rattle.kt_promises.specs.Progress.{Progress}
use Rattle.kt_promises.specs.Steps.{enabled}
use Rattle.kt_promises.specs.Defaults.{default_step}
use Rattle.kt_promises.specs.Runs.{RunReaches}
use Rattle.kt_promises.specs.Order.{next_place, comes_before, IsFirstEnabled}
use Rattle.kt_promises.proofs.DefaultOrder.{none_is, some_is}

takes_apart : (p q u v : ℕ) → (nat_lt p u || (p == u && nat_lt q v)) ≡ true → (nat_lt u p || (u == p && nat_lt v q)) ≡ true → ⊥
takes_apart p q u v a b = grind (arith, nat_tests, a, b)

less_apart : (m n : ℕ) → nat_lt m n ≡ true → nat_lt n m ≡ true → ⊥
less_apart m n a b = grind (arith, nat_tests, a, b)

not_both_first : (plan : Planned) (w : Progress) (x y : Step) → comes_before plan w x y ≡ true → comes_before plan w y x ≡ true → ⊥
not_both_first plan w (Take p q) (Take u v) a b = takes_apart p q u v a b
not_both_first plan w (Take p q) (Do u) a b = cc (b)
not_both_first plan w (Do p) (Take u v) a b = cc (a)
not_both_first plan w (Do p) (Do u) a b = less_apart (next_place plan w p) (next_place plan w u) a b

-- exactly the first one that is enabled
pub exact_first : (plan : Planned) (w : Progress) (x : Step) → IsFirstEnabled plan w x → default_step plan w ≡ Some x
exact_first plan w x s = go (default_step plan w) refl
  where
    go : (o : Option Step) → default_step plan w ≡ o → o ≡ Some x
    go None d = absurd (let n = none_is plan w d x in let e = s.on in cc (n, e))
    go (Some z) d = elim ((some_is plan w z d).first x s.on) [
      | inl e ↦ ap Some e
      | inr b ↦ elim (s.first z (some_is plan w z d).on) [
        | inl e ↦ ap Some (sym e)
        | inr c ↦ absurd (not_both_first plan w z x b c)
      ]
    ]

pub only_first : (plan : Planned) (first : ℕ) (w : Progress) (x : Step) → IsPlan plan → RunReaches plan first w → enabled plan w x ≡ true → ((y : Step) → enabled plan w y ≡ true → (x ≡ y) ⊎ (comes_before plan w x y ≡ true)) → default_step plan w ≡ Some x
only_first plan first w x i r e f = exact_first plan w x (record { on = e; first = f })
