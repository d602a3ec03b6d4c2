-- Names that are given twice, by what is asked for.
use Rattle.std.proofs.Common.{◌≡◌, ◌⊎◌, Bool, List, inl, inr, refl, subst}
use Rattle.std.specs.Prelude.{MatchBool}
use Rattle.kt_program.specs.declared.line.Asked.{Asked}
use Rattle.kt_program.specs.declared.line.Asked.TheVariants.{Merge}
use Rattle.kt_program.specs.declared.line.Merging.{Merging}
use Rattle.kt_program.specs.Names.{AreNamedApart, IsApart, IsOfParts, Name, inputs_of, outputs_of}

-- what is so of these names is so of what is asked for
pub clash_of : (asked : Asked) (inputs outputs : List Name) (twice : Bool) → inputs ≡ inputs_of asked → outputs ≡ outputs_of asked
    → MatchBool twice (¬ AreNamedApart inputs outputs) (AreNamedApart inputs outputs) → MatchBool twice (¬ IsApart asked) (IsApart asked)
clash_of asked inputs outputs twice i o are =
    subst (λ (others : List Name). MatchBool twice (¬ AreNamedApart (inputs_of asked) others) (AreNamedApart (inputs_of asked) others)) o
    (subst (λ (others : List Name). MatchBool twice (¬ AreNamedApart others outputs) (AreNamedApart others outputs)) i are)

-- no parts are asked for
no_parts : (asked : Asked) → ((merging : Merging) → asked ≡ Merge merging → ⊥) → IsOfParts asked → ⊥
no_parts (Merge merging) none parts = none merging refl
no_parts _ none parts = parts

pub few_inputs : (asked : Asked) (inputs : List Name) → ((merging : Merging) → asked ≡ Merge merging → ⊥) → IsOfParts asked ⊎ (inputs ≡ inputs_of asked) → inputs ≡ inputs_of asked
few_inputs asked inputs none (inl parts) = absurd (no_parts asked none parts)
few_inputs asked inputs none (inr few) = few
