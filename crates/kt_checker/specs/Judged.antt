-- What a judge knows after some rows.
use Rattle.std.specs.Prelude.{◌≡◌, ◌<◌, ◌+◌, ◌^◌, ℕ, true, Option, Some, None, List, length, slice_get}
use Rattle.kt_spacetime.specs.declared.event.Event.{Event}
use Rattle.kt_meaning.specs.Throughout.{HasConsistentDecisions}
use Rattle.kt_walk.specs.WalkOf.{WalkOf}
use Rattle.kt_spacetime.specs.declared.certificate.Certificate.{Certificate}
use Rattle.kt_checker.specs.declared.judge.Judge.{Judge}
use Rattle.kt_checker.specs.Gathered.{Gathered}
use Rattle.kt_meaning.specs.Passing.{IsSecond}

-- the place of the first certificate of an instance among the first of a list, or that there is none
abbrev pub IsFirstOfInstance : List Certificate → ℕ → ℕ → Option ℕ → Type 0
IsFirstOfInstance certificates n k None = (i : ℕ) (c : Certificate) → i < n → slice_get certificates i ≡ Some c → c.inst ≡ k → ⊥
IsFirstOfInstance certificates n k (Some i) = (c : Certificate) × (slice_get certificates i ≡ Some c) × (c.inst ≡ k) × (i < n) × (IsSecond certificates i c → ⊥)

-- the first certificate of an instance in a list, or that there is none
abbrev pub IsFirstCertificate : List Certificate → ℕ → Option Certificate → Type 0
IsFirstCertificate certificates k None = (i : ℕ) (c : Certificate) → slice_get certificates i ≡ Some c → c.inst ≡ k → ⊥
IsFirstCertificate certificates k (Some c) = (i : ℕ) × (slice_get certificates i ≡ Some c) × (c.inst ≡ k) × (IsSecond certificates i c → ⊥)

-- by instance, from 1 on, the place of its first certificate among the first of a list
pub record AreFirsts (places : List (Option ℕ)) (certificates : List Certificate) (n : ℕ) : Type 0 where
  pub each : (k : ℕ) (place : Option ℕ) → slice_get places k ≡ Some place → IsFirstOfInstance certificates n (k + 1) place
  pub all : length places ≡ 4096

-- a judge has seen few enough rows to see one more
abbrev pub IsFew : Judge → Type 0
IsFew judge = judge.walk.rows < 2 ^ 24

-- a judge of certificates has seen these rows
pub record JudgeOf (judge : Judge) (certificates : List Certificate) (rows : List Event) : Type 0 where
  pub walk : WalkOf judge.walk rows
  pub gathered : Gathered certificates judge.instances.list.items rows
  pub firsts : AreFirsts judge.firsts.places.items certificates (length certificates)
  pub consistent : judge.is_consistent ≡ true → HasConsistentDecisions rows
