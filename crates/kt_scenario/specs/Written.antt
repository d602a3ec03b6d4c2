-- Steps as they are written.
use Rattle.std.specs.Prelude.{◌≢◌, ◌<◌, ℕ, List, [], ◌∷◌, ◌++◌, codes, slice_index_or}
use Rattle.std.specs.List.{flat_map}
use Rattle.kt_plan.specs.declared.steps.Step.{Step}
use Rattle.kt_plan.specs.declared.steps.Step.TheVariants.{Do, Take}

-- the name of a process in a step's line, or `-` where it has none
abbrev pub step_name : List (List ℕ) → ℕ → List ℕ
step_name names p = slice_index_or names p (codes "-")

-- the words of a step, between blanks: `do A`, or `take AT FROM`
abbrev pub step_words : List (List ℕ) → Step → List ℕ
step_words names (Do p) = codes "do" ++ 32 ∷ step_name names p
step_words names (Take p q) = codes "take" ++ 32 ∷ (step_name names p ++ 32 ∷ step_name names q)

-- the line of a step
abbrev pub step_line : List (List ℕ) → Step → List ℕ
step_line names step = step_words names step ++ 10 ∷ []

-- the text of some steps: a line for each, in order
abbrev pub steps_text : List (List ℕ) → List Step → List ℕ
steps_text names steps = flat_map (step_line names) steps

-- a step of n processes: where one takes, it takes of another one
abbrev pub IsStepOf : ℕ → Step → Type 0
IsStepOf n (Do p) = p < n
IsStepOf n (Take p q) = (p < n) × (q < n) × (p ≢ q)
