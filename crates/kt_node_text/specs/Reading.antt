-- What is read of numbers.
use Rattle.std.specs.Prelude.{◌≡◌, ℕ, List, Result, Ok, Err}
use Rattle.kt_node_text.specs.declared.fault.LoadFault.{LoadFault}
use Rattle.kt_node_text.specs.declared.fault.LoadFault.TheVariants.{Form, Memory}

-- memory ran out
abbrev pub IsMemory : LoadFault → Type 0
IsMemory Form = ⊥
IsMemory Memory = Unit {0}

-- something like this was read, unless memory ran out, and these numbers are left
abbrev pub IsReadAs : {X : Type 0} → (X → Type 0) → List ℕ → Result X LoadFault → List ℕ → Type 0
IsReadAs P after (Ok y) left = P y × (left ≡ after)
IsReadAs P after (Err e) left = IsMemory e

-- this was read
abbrev pub IsRead : {X : Type 0} → X → List ℕ → Result X LoadFault → List ℕ → Type 0
IsRead x after result left = IsReadAs (λ y. y ≡ x) after result left
