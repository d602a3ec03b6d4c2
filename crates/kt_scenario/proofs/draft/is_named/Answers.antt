use Rattle.std.proofs.Common.{◌≡◌, ◌<◌, ◌∙◌, ℕ, List, Some, ap, map, length, subst, get_or, sym, arith}
use Rattle.std.specs.Prelude.{codes}
use Rattle.std.specs.String.{string_bytes}
use Rattle.std.proofs.lemmas.List.{get_or_default, length-map}
use Rattle.std.proofs.lemmas.Slice.Eq.{bytes_eq-Decides}
use Rattle.kt_plan.specs.Names.{number_in, AreNames}
use Rattle.kt_plan.proofs.NameFacts.{at_place}
use Rattle.kt_scenario.proofs.WrittenFacts.{number_is}
use Rattle.kt_scenario.proofs.draft.is_named.Goals as goal

-- the name at a place has its number
numbered : (names : List (List ℕ)) (word : List ℕ) (p : ℕ) → AreNames names → p < length names → get_or names p word ≡ word → number_in names word ≡ Some p
numbered names word p are l same =
    subst (λ (w : List ℕ). number_in names w ≡ Some p) (get_or_default names p (codes "-") word l ∙ same) (number_is names are p l)

pub returns-in-Some-clause-named : goal.returns-in-Some-clause-named
returns-in-Some-clause-named c = λ e.
    let names = c.args.names.now in
    let found = rw c.from.ensures at c.in-Some.ensures.lookup in
    let same : string_bytes c.in-Some.name.now ≡ c.args.word.now =
    sym c.as_str.ensures.value ∙ (sym c.as_bytes.ensures.value ∙ (bytes_eq-Decides c.as_bytes.result.now c.args.word.now).0 (sym c.eq.ensures ∙ e)) in
    let long : length (map string_bytes c.list.result.now) ≡ length c.list.result.now = length-map c.list.result.now string_bytes in
    let below : c.args.number < length names = omega (arith, found.3.0, long, ap length c.list.ensures.list) in
    let here = at_place string_bytes c.list.result.now names c.args.number c.in-Some.name.now c.list.ensures.list found.1 in
    numbered names c.args.word.now c.args.number c.list.ensures.names below (subst (λ (w : List ℕ). get_or names c.args.number w ≡ w) same here)
