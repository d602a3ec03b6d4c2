-- The least orphan of a cut.
use Rattle.std.specs.Prelude.{◌≡◌, ℕ, ◌≤◌, if◌then◌else◌, nat_le, Bool, false, Option, Some, None, slice_get}
use Rattle.kt_spacetime.specs.declared.deeds.Deed.TheVariants as deed
use Rattle.kt_meaning.specs.Past.{Past}
use Rattle.kt_meaning.specs.Legal.{has_deed}
use Rattle.kt_meaning.specs.Cuts.{part}

-- a message that a process received in its part from this sender, whose part lacks the send
pub record IsOrphanBetween (s : Past) (cut : ℕ → ℕ) (p q msg : ℕ) : Type 0 where
  pub place : ℕ
  pub received : slice_get (part s cut p) place ≡ Some (deed.Received msg q)
  pub unsent : has_deed (deed.Sent msg p) (part s cut q) ≡ false

-- the lesser of two numbers that may lack
abbrev pub earlier : Option ℕ → Option ℕ → Option ℕ
earlier None b = b
earlier (Some m) None = Some m
earlier (Some m) (Some n) = Some (if nat_le m n then m else n)

-- there is a number, and it is at most this one
abbrev pub IsAtMost : Option ℕ → ℕ → Type 0
IsAtMost None m = ⊥
IsAtMost (Some n) m = n ≤ m

-- there is a place, counted from 1, and it is within a part of this length
abbrev pub is_within : Option ℕ → ℕ → Bool
is_within None length = false
is_within (Some place) length = nat_le place length
