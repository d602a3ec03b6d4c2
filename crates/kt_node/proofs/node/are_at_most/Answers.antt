use Rattle.std.proofs.Common.{ℕ, ◌<◌, ◌≤◌, Bool, true, false, List, length, slice_index, MatchBool, arith, refl, subst, sym, rules, tests, inl, inr}
use Rattle.std.specs.List.{AllWithin, HoldsAt}
use Rattle.std.specs.Prelude.{IsTrue, ◌↔◌}
use Rattle.std.proofs.lemmas.Bool.{cases_lt, false≢true}
use Rattle.std.proofs.lemmas.List.{get_or_past}
use Rattle.std.proofs.lemmas.Iterator.{cases_from_all, YieldsList-from_slice}
use Rattle.kt_node.proofs.node.are_at_most.Goals as goal

at_most_each : (r : Bool) (xs : List ℕ) (most : ℕ) → MatchBool r (AllWithin (λ x. x ≤ most) xs 0 (length xs)) ((k : ℕ) × (k < length xs) × HoldsAt (λ x. most < x) xs k) →
    IsTrue r ↔ ((q : ℕ) → slice_index xs q ≤ most)
at_most_each true xs most h = (
  λ t q. elim (cases_lt q (length xs)) [
    | inl b ↦ h q 0 (omega arith) b
    | inr b ↦ subst (λ (n : ℕ). n ≤ most) (sym (get_or_past xs q 0 b)) (omega arith)
  ],
  λ f. refl,
)
at_most_each false xs most w = (λ e. absurd (false≢true e), λ f. absurd (omega (arith, f w.0, w.2 0)))

pub returns : goal.returns
returns c =
    at_most_each c.all.result c.args.counts.now c.args.most
    (cases_from_all _ _ _ (λ x. x ≤ c.args.most) (λ x. c.args.most < x) c.all.ensures.ran (YieldsList-from_slice c.args.counts.now cc)
    (λ x q k. search (rules, tests)) (λ x q k. search (rules, tests)))
