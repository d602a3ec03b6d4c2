-- The checker's order: the first fault of a log and a list of certificates.
use Rattle.std.specs.Prelude.{◌≡◌, ◌⊎◌, ◌<◌, ◌+◌, ℕ, Bool, true, not, Some, None, List, map, take, length, slice_get}
use Rattle.kt_spacetime.specs.declared.event.Event.{Event}
use Rattle.kt_spacetime.specs.declared.event.Event.TheVariants.{Decided}
use Rattle.kt_spacetime.specs.declared.rules.Rule.{Rule}
use Rattle.kt_meaning.specs.Past.{Past, past}
use Rattle.kt_meaning.specs.Legal.{IsLegal, first_broken}
use Rattle.kt_meaning.specs.Cuts.{IsConsistent}
use Rattle.kt_meaning.specs.Chains.{members}
use Rattle.kt_spacetime.specs.declared.certificate.Certificate.{Certificate}
use Rattle.kt_spacetime.specs.declared.verdict.Verdict.{Verdict}
use Rattle.kt_spacetime.specs.declared.verdict.Verdict.TheVariants.{Yes, No}
use Rattle.kt_spacetime.specs.declared.verdict.Why.{Why}
use Rattle.kt_spacetime.specs.declared.verdict.Why.TheVariants.{BadLog, Unknown, Cause, Members, Chain, Orphan, Missing}
use Rattle.kt_meaning.specs.Unwilling.{has_unwilling}
use Rattle.kt_meaning.specs.Passing.{IsAsInLog, IsSecond, PassBefore, HasLists, HasCertificate, IsPassed, decided_cut}

-- what is first wrong with a certificate of a decided instance: what is known just before the decision, who joined,
-- whether a process was unwilling
abbrev pub IsFirstWhy : Past → List ℕ → Bool → Certificate → Why → Type 0
IsFirstWhy s joined refused c (BadLog rule) = ⊥
IsFirstWhy s joined refused c Unknown = ⊥
IsFirstWhy s joined refused c Missing = ⊥
IsFirstWhy s joined refused c Cause = refused ≡ c.commit
IsFirstWhy s joined refused c Members = (refused ≡ not c.commit) × (c.commit ≡ true) × (map (λ m. m.0) c.members ≡ joined → ⊥)
IsFirstWhy s joined refused c Chain = (refused ≡ not c.commit) × (c.commit ≡ true) × (map (λ m. m.0) c.members ≡ joined) × (HasLists s c → ⊥)
IsFirstWhy s joined refused c Orphan = (refused ≡ not c.commit) × (c.commit ≡ true) × (map (λ m. m.0) c.members ≡ joined) × HasLists s c × (IsConsistent s (decided_cut s c.inst c.kind) → ⊥)

-- the answer to a log that is not legal: its first broken row, and the least rule that this breaks
abbrev pub IsBadLog : List Event → Verdict → Type 0
IsBadLog log v = (n : ℕ) × (rule : Rule) × (v ≡ No None (Some n) (BadLog rule)) × (first_broken log ≡ Some (n, rule))

-- the answer to a certificate that is of no decided instance as the log has it, or is the second of its instance
abbrev pub IsUnknown : List Event → List Certificate → ℕ → Certificate → Verdict → Type 0
IsUnknown log certificates i c v = (v ≡ No (Some c.inst) None Unknown) × ((n : ℕ) → IsAsInLog log c n → (IsSecond certificates i c → ⊥) → ⊥)

-- the answer to the first certificate of a decided instance that is wrong, with the decided row
abbrev pub IsRefuted : List Event → List Certificate → ℕ → Certificate → Verdict → Type 0
IsRefuted log certificates i c v =
    (n : ℕ) × (why : Why) × (v ≡ No (Some c.inst) (Some (n + 1)) why) × IsAsInLog log c n × (IsSecond certificates i c → ⊥)
    × IsFirstWhy (past (take n log)) (members log c.inst) (has_unwilling log c.inst) c why

-- the answer to the first certificate of a list that does not pass
abbrev pub IsRefused : List Event → List Certificate → Verdict → Type 0
IsRefused log certificates v =
    (i : ℕ) × (c : Certificate) × (slice_get certificates i ≡ Some c) × PassBefore log certificates i
    × (IsUnknown log certificates i c v ⊎ IsRefuted log certificates i c v)

-- the answer where all pass: the least decided instance that has no certificate
abbrev pub IsMissing : List Event → List Certificate → Verdict → Type 0
IsMissing log certificates v =
    PassBefore log certificates (length certificates)
    × (n : ℕ) × (p : ℕ) × (k : ℕ) × (commit : Bool) × (v ≡ No (Some k) (Some (n + 1)) Missing)
    × (slice_get log n ≡ Some (Decided p k commit)) × (HasCertificate certificates k → ⊥)
    × ((m q j : ℕ) (also : Bool) → j < k → slice_get log m ≡ Some (Decided q j also) → HasCertificate certificates j)

-- the checker's answer to a log and a list of certificates: yes where all passes, else the first fault
abbrev pub IsCheckerAnswer : List Event → List Certificate → Verdict → Type 0
IsCheckerAnswer log certificates v =
    ((v ≡ Yes) × IsPassed log certificates)
    ⊎ (IsBadLog log v ⊎ (IsLegal log × (IsRefused log certificates v ⊎ IsMissing log certificates v)))
