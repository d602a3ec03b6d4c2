-- The words of a step's line have one meaning.
use Rattle.std.proofs.Common.{◌≡◌, ◌⊎◌, ◌∙◌, ℕ, List, [], ◌∷◌, ◌++◌, length, ap, refl, sym, subst, arith, inl, inr}
use Rattle.std.specs.Prelude.{Option, Some, None, IsSome}
use Rattle.kt_plan.specs.declared.steps.Step.{Step}
use Rattle.kt_plan.specs.declared.steps.Step.TheVariants as step
use Rattle.kt_plan.specs.Names.{number_in}
use Rattle.kt_scenario.specs.declared.steps.StepWord.{StepWord}
use Rattle.kt_scenario.specs.declared.steps.StepWord.TheVariants.{Do, Take}
use Rattle.kt_scenario.specs.declared.fault.StepLineFault.{StepLineFault}
use Rattle.kt_scenario.specs.declared.fault.StepLineFault.TheVariants as fault
use Rattle.kt_scenario.specs.Steps.{step_word_in, IsDo, IsTake, StepsAfter, StepSays, IsWrongDo, IsWrongTake, IsWrongStepIn, IsWrongStepAfter, IsWrongStep, step_word_count}
use Rattle.kt_scenario.proofs.LineLaws.{AreClear}
use Rattle.kt_scenario.proofs.SayingFacts.{same_value, there_or_not, some_or_not}

one_do : (names : List (List ℕ)) (old new other : List Step) (name : List ℕ) → IsDo names old name new → IsDo names old name other → new ≡ other
one_do names old new other name a b =
    a.adds.1 ∙ (ap (λ (p : ℕ). old ++ step.Do p ∷ []) (same_value a.process b.process a.known b.known) ∙ sym b.adds.1)

one_take : (names : List (List ℕ)) (old new other : List Step) (at from : List ℕ) → IsTake names old at from new → IsTake names old at from other → new ≡ other
one_take names old new other at from a b =
    a.adds.1 ∙ (ap (λ (p : ℕ). old ++ step.Take p a.sender ∷ []) (same_value a.taker b.taker a.at_known b.at_known)
    ∙ (ap (λ (q : ℕ). old ++ step.Take b.taker q ∷ []) (same_value a.sender b.sender a.from_known b.from_known) ∙ sym b.adds.1))

single : (names : List (List ℕ)) (word : Option StepWord) (old : List Step) (words : List (List ℕ)) (new other : List Step) → StepsAfter names word old words new → StepsAfter names word old words other → new ≡ other
single names None old words new other a b = absurd a
single names (Some Do) old words new other a b =
    let e : b.0 ≡ a.0 = cc (a.1, b.1) in
    one_do names old new other a.0 a.2 (subst (λ (n : List ℕ). IsDo names old n other) e b.2)
single names (Some Take) old words new other a b =
    let at : b.0 ≡ a.0 = cc (a.2, b.2) in
    let from : b.1 ≡ a.1 = cc (a.2, b.2) in
    one_take names old new other a.0 a.1 a.3 (subst (λ (n : List ℕ). IsTake names old n a.1 other) at (subst (λ (m : List ℕ). IsTake names old b.0 m other) from b.3))

no_do : (names : List (List ℕ)) (old new : List Step) (name : List ℕ) (f : StepLineFault) → IsDo names old name new → IsWrongDo names old name f → ⊥
no_do names old new name fault.Unknown a b = there_or_not _ a.process a.known b
no_do names old new name fault.TooMany a b = omega (arith, a.adds.0, b.1)
no_do names old new name fault.Command a b = b
no_do names old new name fault.Words a b = b
no_do names old new name fault.Itself a b = b
no_do names old new name fault.Memory a b = b

no_take : (names : List (List ℕ)) (old new : List Step) (at from : List ℕ) (f : StepLineFault) → IsTake names old at from new → IsWrongTake names old at from f → ⊥
no_take names old new at from fault.Unknown a (inl gone) = there_or_not _ a.taker a.at_known gone
no_take names old new at from fault.Unknown a (inr gone) = there_or_not _ a.sender a.from_known gone.1
no_take names old new at from fault.Itself a b = a.another (same_value a.taker b.0 a.at_known b.1 ∙ sym (same_value a.sender b.0 a.from_known b.2))
no_take names old new at from fault.TooMany a b = omega (arith, a.adds.0, b.5)
no_take names old new at from fault.Command a b = b
no_take names old new at from fault.Words a b = b
no_take names old new at from fault.Memory a b = b

apart : (names : List (List ℕ)) (word : Option StepWord) (old : List Step) (words : List (List ℕ)) (new : List Step) (f : StepLineFault) → StepsAfter names word old words new → IsWrongStepAfter names word old words f → ⊥
apart names None old words new f a b = a
apart names (Some Do) old words new f a (inl b) = b.1 (ap length a.1)
apart names (Some Do) old words new f a (inr b) =
    let e : b.0 ≡ a.0 = cc (a.1, b.1) in
    no_do names old new a.0 f a.2 (subst (λ (n : List ℕ). IsWrongDo names old n f) e b.2)
apart names (Some Take) old words new f a (inl b) = b.1 (ap length a.2)
apart names (Some Take) old words new f a (inr b) =
    let at : b.0 ≡ a.0 = cc (a.2, b.2) in
    let from : b.1 ≡ a.1 = cc (a.2, b.2) in
    no_take names old new a.0 a.1 f a.3 (subst (λ (n : List ℕ). IsWrongTake names old n a.1 f) at (subst (λ (m : List ℕ). IsWrongTake names old b.0 m f) from b.3))

first_do : (names : List (List ℕ)) (old : List Step) (name : List ℕ) (f g : StepLineFault) → IsWrongDo names old name f → IsWrongDo names old name g → f ≡ g
first_do names old name fault.Unknown fault.Unknown a b = refl
first_do names old name fault.Unknown fault.TooMany a b = absurd (some_or_not _ b.0 a)
first_do names old name fault.Unknown g a b = absurd b
first_do names old name fault.TooMany fault.Unknown a b = absurd (some_or_not _ a.0 b)
first_do names old name fault.TooMany fault.TooMany a b = refl
first_do names old name fault.TooMany g a b = absurd b
first_do names old name f g a b = absurd a

-- a name that is not there
abbrev IsGone : List (List ℕ) → List ℕ → List ℕ → Type 0
IsGone names at from = (number_in names at ≡ None) ⊎ (IsSome (number_in names at) × (number_in names from ≡ None))

not_same : (names : List (List ℕ)) (at from : List ℕ) → IsGone names at from → (by : ℕ) × (number_in names at ≡ Some by) × (number_in names from ≡ Some by) → ⊥
not_same names at from (inl gone) b = there_or_not _ b.0 b.1 gone
not_same names at from (inr gone) b = there_or_not _ b.0 b.2 gone.1

not_two : (names : List (List ℕ)) (at from : List ℕ) → IsGone names at from → (by other : ℕ) × (number_in names at ≡ Some by) × (number_in names from ≡ Some other) → ⊥
not_two names at from (inl gone) b = there_or_not _ b.0 b.2 gone
not_two names at from (inr gone) b = there_or_not _ b.1 b.3 gone.1

first_take : (names : List (List ℕ)) (old : List Step) (at from : List ℕ) (f g : StepLineFault) → IsWrongTake names old at from f → IsWrongTake names old at from g → f ≡ g
first_take names old at from fault.Unknown fault.Unknown a b = refl
first_take names old at from fault.Unknown fault.Itself a b = absurd (not_same names at from a b)
first_take names old at from fault.Unknown fault.TooMany a b = absurd (not_two names at from a (b.0, b.1, b.2, b.3))
first_take names old at from fault.Unknown g a b = absurd b
first_take names old at from fault.Itself fault.Unknown a b = absurd (not_same names at from b a)
first_take names old at from fault.Itself fault.Itself a b = refl
first_take names old at from fault.Itself fault.TooMany a b = absurd (b.4 (same_value b.0 a.0 b.2 a.1 ∙ same_value a.0 b.1 a.2 b.3))
first_take names old at from fault.Itself g a b = absurd b
first_take names old at from fault.TooMany fault.Unknown a b = absurd (not_two names at from b (a.0, a.1, a.2, a.3))
first_take names old at from fault.TooMany fault.Itself a b = absurd (a.4 (same_value a.0 b.0 a.2 b.1 ∙ same_value b.0 a.1 b.2 a.3))
first_take names old at from fault.TooMany fault.TooMany a b = refl
first_take names old at from fault.TooMany g a b = absurd b
first_take names old at from f g a b = absurd a

first_in : (names : List (List ℕ)) (word : StepWord) (old : List Step) (words : List (List ℕ)) (f g : StepLineFault) → IsWrongStepIn names word old words f → IsWrongStepIn names word old words g → f ≡ g
first_in names Do old words f g a b =
    let e : b.0 ≡ a.0 = cc (a.1, b.1) in
    first_do names old a.0 f g a.2 (subst (λ (n : List ℕ). IsWrongDo names old n g) e b.2)
first_in names Take old words f g a b =
    let at : b.0 ≡ a.0 = cc (a.2, b.2) in
    let from : b.1 ≡ a.1 = cc (a.2, b.2) in
    first_take names old a.0 a.1 f g a.3 (subst (λ (n : List ℕ). IsWrongTake names old n a.1 g) at (subst (λ (m : List ℕ). IsWrongTake names old b.0 m g) from b.3))

counted : (names : List (List ℕ)) (word : StepWord) (old : List Step) (words : List (List ℕ)) (f : StepLineFault) → IsWrongStepIn names word old words f → length words ≡ step_word_count word
counted names Do old words f a = ap length a.1
counted names Take old words f a = ap length a.2

first : (names : List (List ℕ)) (word : Option StepWord) (old : List Step) (words : List (List ℕ)) (f g : StepLineFault) → IsWrongStepAfter names word old words f → IsWrongStepAfter names word old words g → f ≡ g
first names None old words f g a b = a ∙ sym b
first names (Some word) old words f g (inl a) (inl b) = a.0 ∙ sym b.0
first names (Some word) old words f g (inl a) (inr b) = absurd (a.1 (counted names word old words g b))
first names (Some word) old words f g (inr a) (inl b) = absurd (b.1 (counted names word old words f a))
first names (Some word) old words f g (inr a) (inr b) = first_in names word old words f g a b

first_words : (names : List (List ℕ)) (old : List Step) (words : List (List ℕ)) (f g : StepLineFault) → IsWrongStep names old words f → IsWrongStep names old words g → f ≡ g
first_words names old [] f g a b = absurd a
first_words names old (word ∷ words) f g a b = first names (step_word_in word) old words f g a b

single_words : (names : List (List ℕ)) (old : List Step) (words : List (List ℕ)) (new other : List Step) → StepSays names old words new → StepSays names old words other → new ≡ other
single_words names old [] new other a b = absurd a
single_words names old (word ∷ words) new other a b = single names (step_word_in word) old words new other a b

apart_words : (names : List (List ℕ)) (old : List Step) (words : List (List ℕ)) (new : List Step) (f : StepLineFault) → StepSays names old words new → IsWrongStep names old words f → ⊥
apart_words names old [] new f a b = a
apart_words names old (word ∷ words) new f a b = apart names (step_word_in word) old words new f a b

pub clear_steps : (names : List (List ℕ)) → AreClear (StepSays names) (IsWrongStep names)
clear_steps names = record { single = single_words names; apart = apart_words names; first = first_words names }
