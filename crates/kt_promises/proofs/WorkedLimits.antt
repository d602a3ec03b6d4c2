-- Plans of two and of three processes that were worked out by hand keep to the limits.
use Rattle.std.specs.Prelude.{All, AllPairs, ◌≢◌, slice_index_or}
use Rattle.std.specs.List.Sorted.{IsNonDecreasingBy}
use Rattle.std.proofs.Common.{◌≡◌, ◌<◌, ◌≤◌, ℕ, zero, suc, true, List, [], ◌∷◌, length, ap, get_or, arith, refl}
use Rattle.std.proofs.lemmas.List.Elements.{All-cons, All-nil}
use Rattle.std.proofs.lemmas.List.Kept.{AllPairs-cons}
use Rattle.kt_plan.specs.declared.commands.Command.{Command}
use Rattle.kt_plan.specs.Limits.{IsPlan, IsKindOfObject, IsCommandOf}
use Rattle.kt_plan.specs.Names.{AreNames, is_name}
use Rattle.kt_promises.specs.WorkedPlans.{worked_plan, two, three}
use Rattle.kt_promises.proofs.PhaseOrder.{AreInPhases}

-- a name of one letter
abbrev Proper : List ℕ → Type 0
Proper name = is_name name ≡ true

abbrev Apart : List ℕ → List ℕ → Type 0
Apart one other = one ≢ other

apart : (a b : ℕ) → a ≢ b → Apart (a ∷ []) (b ∷ [])
apart a b n e = n (ap (λ (xs : List ℕ). get_or xs 0 0) e)

none : AllPairs Apart []
none i j d h l = absurd (omega (arith, l))

two_names : AreNames two
two_names = record {
  few = omega arith;
  proper = All-cons Proper (97 ∷ []) ((98 ∷ []) ∷ []) refl (All-cons Proper (98 ∷ []) [] refl (All-nil Proper));
  distinct = AllPairs-cons Apart (97 ∷ []) ((98 ∷ []) ∷ []) (All-cons (Apart (97 ∷ [])) (98 ∷ []) [] (apart 97 98 (λ e. omega (arith, e))) (All-nil (Apart (97 ∷ []))))
      (AllPairs-cons Apart (98 ∷ []) [] (All-nil (Apart (98 ∷ []))) none);
}

three_names : AreNames three
three_names = record {
  few = omega arith;
  proper = All-cons Proper (97 ∷ []) ((98 ∷ []) ∷ (99 ∷ []) ∷ []) refl (All-cons Proper (98 ∷ []) ((99 ∷ []) ∷ []) refl (All-cons Proper (99 ∷ []) [] refl (All-nil Proper)));
  distinct = AllPairs-cons Apart (97 ∷ []) ((98 ∷ []) ∷ (99 ∷ []) ∷ [])
      (All-cons (Apart (97 ∷ [])) (98 ∷ []) ((99 ∷ []) ∷ []) (apart 97 98 (λ e. omega (arith, e))) (All-cons (Apart (97 ∷ [])) (99 ∷ []) [] (apart 97 99 (λ e. omega (arith, e))) (All-nil (Apart (97 ∷ [])))))
      (AllPairs-cons Apart (98 ∷ []) ((99 ∷ []) ∷ []) (All-cons (Apart (98 ∷ [])) (99 ∷ []) [] (apart 98 99 (λ e. omega (arith, e))) (All-nil (Apart (98 ∷ []))))
      (AllPairs-cons Apart (99 ∷ []) [] (All-nil (Apart (99 ∷ []))) none));
}

are_commands : (n low : ℕ) (cs : List Command) → AreInPhases n low cs → All (IsCommandOf n) cs
are_commands n low [] o = All-nil (IsCommandOf n)
are_commands n low (c ∷ cs) o = All-cons (IsCommandOf n) c cs (o.0, o.1) (are_commands n c.phase cs o.3)

from_low : (n low : ℕ) (cs : List Command) → AreInPhases n low cs → (j : ℕ) (d : Command) → j < length cs → low ≤ (slice_index_or cs j d).phase
from_low n low [] o j d l = absurd (omega (arith, l))
from_low n low (c ∷ cs) o zero d l = o.2
from_low n low (c ∷ cs) o (suc j) d l = let h = from_low n c.phase cs o.3 j d (omega (arith, l)) in omega (arith, h, o.2)

in_order : (n low : ℕ) (cs : List Command) → AreInPhases n low cs → IsNonDecreasingBy (λ (c : Command). c.phase) cs
in_order n low [] o i j d h l = absurd (omega (arith, l))
in_order n low (c ∷ cs) o zero zero d h l = omega arith
in_order n low (c ∷ cs) o zero (suc j) d h l = from_low n c.phase cs o.3 j d (omega (arith, l))
in_order n low (c ∷ cs) o (suc i) zero d h l = absurd (omega (arith, h))
in_order n low (c ∷ cs) o (suc i) (suc j) d h l = in_order n c.phase cs o.3 i j d (omega (arith, h)) (omega (arith, l))

pub plan_of_two : (cs : List Command) → length cs ≤ 4096 → AreInPhases 2 0 cs → IsPlan (worked_plan two cs)
plan_of_two cs few o = record {
  names = two_names;
  one_kind_each = refl;
  kinds = All-cons IsKindOfObject 0 (0 ∷ []) (omega arith) (All-cons IsKindOfObject 0 [] (omega arith) (All-nil IsKindOfObject));
  few = few;
  commands = are_commands 2 0 cs o;
  phases = in_order 2 0 cs o;
}

pub plan_of_three : (cs : List Command) → length cs ≤ 4096 → AreInPhases 3 0 cs → IsPlan (worked_plan three cs)
plan_of_three cs few o = record {
  names = three_names;
  one_kind_each = refl;
  kinds = All-cons IsKindOfObject 0 (0 ∷ 0 ∷ []) (omega arith) (All-cons IsKindOfObject 0 (0 ∷ []) (omega arith) (All-cons IsKindOfObject 0 [] (omega arith) (All-nil IsKindOfObject)));
  few = few;
  commands = are_commands 3 0 cs o;
  phases = in_order 3 0 cs o;
}
