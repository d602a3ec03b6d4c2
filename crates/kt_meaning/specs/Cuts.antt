-- Cuts and their orphans.
use Rattle.std.specs.Prelude.{◌≡◌, ℕ, ◌≤◌, Bool, false, not, unwrap_or, List, [], length, take, filter, Contains, if◌then◌else◌}
use Rattle.kt_spacetime.specs.declared.deeds.Deed.{Deed}
use Rattle.kt_spacetime.specs.declared.deeds.Deed.TheVariants as deed
use Rattle.kt_meaning.specs.Past.{Past}
use Rattle.kt_meaning.specs.Legal.{has_deed}

-- a cut gives each process a length, at most that of its live history
abbrev pub IsCut : Past → (ℕ → ℕ) → Type 0
IsCut s cut = (p : ℕ) → cut p ≤ length (s.live p)

-- the part of a process's live history that a cut keeps
abbrev pub part : Past → (ℕ → ℕ) → ℕ → List Deed
part s cut p = take (cut p) (s.live p)

-- the cut of the permanent positions
abbrev pub permanent_cut : Past → ℕ → ℕ
permanent_cut s p = s.permanent p

-- the cut of the whole live histories
abbrev pub present_cut : Past → ℕ → ℕ
present_cut s p = length (s.live p)

-- the cut that a checkpoint instance would make permanent: members at their new position, the others at their permanent one
abbrev pub checkpoint_cut : Past → ℕ → ℕ → ℕ
checkpoint_cut s k p = unwrap_or (s.new k p) (s.permanent p)

-- the cut that a rollback instance would leave: members at their permanent position, the others at their whole history
abbrev pub rollback_cut : Past → ℕ → ℕ → ℕ
rollback_cut s k p = if s.ready k p then s.permanent p else length (s.live p)

-- whether a deed of a process is a receive whose send is not in the sender's part
abbrev pub is_unsent : Past → (ℕ → ℕ) → ℕ → Deed → Bool
is_unsent s cut p (deed.Sent msg to) = false
is_unsent s cut p (deed.Received msg from) = not (has_deed (deed.Sent msg p) (part s cut from))

-- the receives in a process's part whose sends the cut lacks
abbrev pub unsent_receives : Past → (ℕ → ℕ) → ℕ → List Deed
unsent_receives s cut p = filter (is_unsent s cut p) (part s cut p)

-- an orphan of a cut: a message received in the receiver's part and not sent in the sender's
abbrev pub IsOrphan : Past → (ℕ → ℕ) → ℕ → Type 0
IsOrphan s cut msg = (p : ℕ) × (q : ℕ) × Contains (unsent_receives s cut p) (deed.Received msg q)

-- a consistent cut has no orphan
abbrev pub IsConsistent : Past → (ℕ → ℕ) → Type 0
IsConsistent s cut = (p : ℕ) → unsent_receives s cut p ≡ []
