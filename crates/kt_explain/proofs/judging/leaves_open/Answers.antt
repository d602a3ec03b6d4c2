use Rattle.std.proofs.Common.{◌≡◌, ◌<◌, ℕ, Bool, true, false, List, [], ◌∷◌, length, MatchBool, refl, ap, subst, arith}
use Rattle.std.specs.Prelude.{nat_lt}
use Rattle.std.proofs.lemmas.Bool.Decides.{nat_tests}
use Rattle.kt_spacetime.specs.declared.event.Event.{Event}
use Rattle.kt_spacetime.specs.declared.verdict.Verdict.{Verdict}
use Rattle.kt_spacetime.specs.declared.verdict.Verdict.TheVariants.{Yes}
use Rattle.kt_explain.specs.declared.explanation.Explanation.{Explanation}
use Rattle.kt_explain.specs.Judged.{open_instances, receivers_in_transit}
use Rattle.kt_explain.specs.Told.{IsExplanation}
use Rattle.kt_explain.specs.Judging.{IsAtRest}
use Rattle.kt_explain.proofs.OpenInstances.{all_told}
use Rattle.kt_explain.proofs.judging.leaves_open.Goals as goal

none_of : {X : Type 0} (xs : List X) → length xs ≡ 0 → xs ≡ []
none_of [] e = refl
none_of (x ∷ xs) e = absurd (omega (arith, e))

-- by how many messages are in transit, where no instance is open
by_count : (rows : List Event) (verdict : Verdict) (count : ℕ) (b : Bool) → nat_lt 0 count ≡ b → verdict ≡ Yes → count ≡ length (receivers_in_transit rows) → open_instances rows ≡ []
    → MatchBool b ((verdict ≡ Yes) × ¬ IsAtRest rows) (verdict ≡ Yes → IsAtRest rows)
by_count rows verdict count true e passed is closed = (passed, λ rest. let none = ap length rest.received in let some : 0 < count = grind (arith, nat_tests, e) in absurd (omega (arith, none, some, is)))
by_count rows verdict count false e passed is closed =
    let none : count ≡ 0 = grind (arith, nat_tests, e) in
    λ _. record { closed = closed; received = none_of (receivers_in_transit rows) (omega (arith, none, is)) }

pub returns-else-len-gt0 : goal.returns-else-len-gt0
returns-else-len-gt0 c = λ rows certificates verdict told.
    let judged = subst (λ (e : Explanation). IsExplanation rows certificates verdict e) c.in-Judged.is told in
    let left = judged.1.left in
    let many = all_told rows c.in-Judged.judged left in
    let none : length (open_instances rows) ≡ 0 = grind (arith, nat_tests, c.len.ensures, c.if-len-gt0.false, many) in
    by_count rows verdict c.in-Judged.judged.in_transit (nat_lt 0 c.in-Judged.judged.in_transit) refl judged.0 left.in_transit (none_of (open_instances rows) none)
