-- What a history received last from another process.
use Rattle.std.specs.Prelude.{◌≡◌, ℕ, ◌≤◌, nat_le, if◌then◌else◌, IfSome, Option, Some, None, List, slice_get}
use Rattle.kt_spacetime.specs.declared.deeds.Deed.{Deed}
use Rattle.kt_spacetime.specs.declared.deeds.Deed.TheVariants as deed

-- there is a number, and it is this one or a greater one
abbrev pub IsAtLeast : Option ℕ → ℕ → Type 0
IsAtLeast None m = ⊥
IsAtLeast (Some n) m = m ≤ n

-- the greater of two numbers; where one lacks, the other
abbrev pub latest : Option ℕ → Option ℕ → Option ℕ
latest None b = b
latest (Some m) None = Some m
latest (Some m) (Some n) = if nat_le m n then Some n else Some m

-- the greatest number among the messages that some deeds received from a process; none, where they received none
pub record IsLastFrom (last : Option ℕ) (sender : ℕ) (deeds : List Deed) : Type 0 where
  pub there : IfSome last (λ m. (j : ℕ) × (slice_get deeds j ≡ Some (deed.Received m sender)))
  pub most : (m j : ℕ) → slice_get deeds j ≡ Some (deed.Received m sender) → IsAtLeast last m
