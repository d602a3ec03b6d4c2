-- What was gathered of each instance of a log.
use Rattle.std.specs.Prelude.{◌≡◌, ℕ, ◌+◌, Bool, true, false, not, Option, Some, None, List, [], map, take, slice_get}
use Rattle.kt_spacetime.specs.declared.event.Event.{Event}
use Rattle.kt_spacetime.specs.declared.event.Event.TheVariants.{Decided}
use Rattle.kt_meaning.specs.Past.{Past, Beginning, past}
use Rattle.kt_meaning.specs.Chains.{members}
use Rattle.kt_rules.specs.Standing.{at_number}
use Rattle.kt_checker.specs.declared.decisions.Instance.{Instance}
use Rattle.kt_checker.specs.declared.decisions.Decision.{Decision}
use Rattle.kt_spacetime.specs.declared.certificate.Certificate.{Certificate}
use Rattle.kt_spacetime.specs.declared.verdict.Why.{Why}
use Rattle.kt_meaning.specs.Unwilling.{has_unwilling}
use Rattle.kt_meaning.specs.Passing.{IsSecond, IsShownBefore, ListsReadyOf}
use Rattle.kt_meaning.specs.Answers.{IsFirstWhy}

abbrev pub beginning_gathered : Instance → Beginning
beginning_gathered v = record { initiator = v.initiator; kind = v.kind }

abbrev pub members_gathered : Option Instance → List ℕ
members_gathered None = []
members_gathered (Some v) = v.members.items

abbrev pub refused_gathered : Option Instance → Bool
refused_gathered None = false
refused_gathered (Some v) = v.refused

abbrev pub decision_gathered : Option Instance → Option Decision
decision_gathered None = None
decision_gathered (Some v) = v.decision

-- a row decides an instance, and a certificate of it was tested there: what is first wrong with it, or nothing is
pub record IsFinding (s : Past) (joined : List ℕ) (refused : Bool) (commit : Bool) (c : Certificate) (fault : Option Why) : Type 0 where
  pub cause : fault ≡ None → refused ≡ not commit
  pub shown : fault ≡ None → commit ≡ true → ListsReadyOf s c joined → IsShownBefore s c joined
  pub wrong : (why : Why) → fault ≡ Some why → commit ≡ c.commit → ListsReadyOf s c joined → IsFirstWhy s joined refused c why

-- after these rows the next one decides an instance: this was found of its first certificate
abbrev pub IsFoundFirst : List Certificate → List Event → ℕ → Bool → Option Why → Type 0
IsFoundFirst certificates rows k commit fault =
    (i : ℕ) (c : Certificate) → slice_get certificates i ≡ Some c → c.inst ≡ k → (IsSecond certificates i c → ⊥)
    → IsFinding (past rows) (members rows k) (has_unwilling rows k) commit c fault

-- the decided row of an instance, whether it commits, and what was found there of its first certificate; or no row
-- decides it
abbrev pub IsDecision : List Certificate → List Event → ℕ → Option Decision → Type 0
IsDecision certificates rows k None = (n p : ℕ) (commit : Bool) → slice_get rows n ≡ Some (Decided p k commit) → ⊥
IsDecision certificates rows k (Some d) =
    (n : ℕ) × (p : ℕ) × (d.row ≡ n + 1) × (slice_get rows n ≡ Some (Decided p k d.commit))
    × (d.inst ≡ k) × IsFoundFirst certificates (take n rows) k d.commit d.fault

-- the instances are those of these rows, with what was found of these certificates
pub record Gathered (certificates : List Certificate) (instances : List Instance) (rows : List Event) : Type 0 where
  pub begun : map beginning_gathered instances ≡ (past rows).begun
  pub members_listed : (k : ℕ) → members_gathered (at_number instances k) ≡ members rows k
  pub refused : (k : ℕ) → refused_gathered (at_number instances k) ≡ has_unwilling rows k
  pub decision : (k : ℕ) → IsDecision certificates rows k (decision_gathered (at_number instances k))
