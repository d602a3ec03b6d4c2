-- What a call changes in the tables of instances.
use Rattle.std.specs.Prelude.{◌≡◌, ◌≢◌, ℕ, Bool, true, Some, List, map, slice_set}
use Rattle.kt_base.specs.Sets.{has}
use Rattle.kt_rules.specs.declared.instances.Instance.{Instance}
use Rattle.kt_rules.specs.Standing.{at_number, beginning_shown}

-- an instance's tables with one more member
pub record HasOneMore (js is : List Instance) (k p : ℕ) (position : ℕ) (v w : Instance) : Type 0 where
  pub was : at_number js k ≡ Some v
  pub now : at_number is k ≡ Some w
  pub others : (j : ℕ) → j ≢ k → at_number is j ≡ at_number js j
  pub beginnings : map beginning_shown is ≡ map beginning_shown js
  pub kind : w.kind ≡ v.kind
  pub decision : w.decision ≡ v.decision
  pub joined : has w.joined p ≡ true
  pub not_joined : (q : ℕ) → q ≢ p → has w.joined q ≡ has v.joined q
  pub positions : w.positions ≡ slice_set v.positions p position

-- an instance's tables with a decision
pub record IsDecided (js is : List Instance) (k : ℕ) (commit : Bool) (v : Instance) : Type 0 where
  pub was : at_number js k ≡ Some v
  pub now : at_number is k ≡ Some (record v { decision = Some commit })
  pub others : (j : ℕ) → j ≢ k → at_number is j ≡ at_number js j
  pub beginnings : map beginning_shown is ≡ map beginning_shown js
