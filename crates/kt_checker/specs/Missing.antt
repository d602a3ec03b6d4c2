-- Which instance is found to lack a certificate.
use Rattle.std.specs.Prelude.{◌≡◌, ◌⊎◌, ◌<◌, ℕ, Bool, true, Some, List, length, slice_get}
use Rattle.kt_spacetime.specs.declared.verdict.Verdict.{Verdict}
use Rattle.kt_spacetime.specs.declared.verdict.Verdict.TheVariants.{Yes, No}
use Rattle.kt_spacetime.specs.declared.verdict.Why.TheVariants.{Missing}
use Rattle.kt_checker.specs.declared.decisions.Instance.{Instance}
use Rattle.kt_checker.specs.declared.decisions.Decision.{Decision}

-- the first decided instances are marked as seen
abbrev pub AreSeenBefore : List Instance → List Bool → ℕ → Type 0
AreSeenBefore instances seen n = (k : ℕ) (v : Instance) (d : Decision) → k < n → slice_get instances k ≡ Some v → v.decision ≡ Some d → slice_get seen k ≡ Some true

-- the first decided instance that is not marked
abbrev pub IsUnseen : List Instance → List Bool → Decision → Type 0
IsUnseen instances seen d =
    (k : ℕ) × (v : Instance) × (slice_get instances k ≡ Some v) × (v.decision ≡ Some d)
    × (slice_get seen k ≡ Some true → ⊥) × AreSeenBefore instances seen k

-- the answer where every certificate passed
abbrev pub AnswersMissing : List Instance → List Bool → Verdict → Type 0
AnswersMissing instances seen v =
    ((v ≡ Yes) × AreSeenBefore instances seen (length instances))
    ⊎ ((d : Decision) × (v ≡ No (Some d.inst) (Some d.row) Missing) × IsUnseen instances seen d)
