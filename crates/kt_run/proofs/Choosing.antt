-- The step that comes next in an order.
use Rattle.std.specs.Prelude.{Option, IfSome, IfNone, slice_get}
use Rattle.std.proofs.Common.{◌≡◌, ◌<◌, ℕ, Some, None, List, length, sym, arith}
use Rattle.std.proofs.lemmas.Option.{slice_get-get_or, slice_get_past}
use Rattle.kt_plan.specs.declared.steps.Step.{Step}
use Rattle.kt_plan.specs.declared.steps.Step.TheVariants.{Do}

-- nothing stands in an empty list
pub none_at : (l : List Step) (n : ℕ) → length l ≡ 0 → None ≡ slice_get l n
none_at l n e = sym (slice_get_past l n (omega (arith, e)))

-- something stands at a place within
pub none_within : (P : Type 0) (o : Option Step) (l : List Step) (n : ℕ) → o ≡ slice_get l n → n < length l → IfNone o P
none_within P None l n e k = absurd (let there = slice_get-get_or l n (Do 0) k in cc (e, there))
none_within P (Some x) l n e k = tt

pub some_any : {X P : Type 0} (o : Option X) → P → IfSome o (λ _. P)
some_any None p = tt
some_any (Some x) p = p
