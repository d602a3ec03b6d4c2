-- Of the machine's state behind a run: the asks, replies and decisions that stand in the channels, and those that a step takes off them.
use Rattle.std.specs.Prelude.{length, ℕ, Bool, ◌==◌, false, List, [], ◌∷◌, if◌then◌else◌, ◌+◌, not, ◌&&◌, ◌≡◌}
use Rattle.kt_protocol.specs.Parcels.{Parcel, Ask, Reply, Decide, Lists, has_parcel}
use Rattle.kt_protocol.specs.States.{State, is_ready}
use Rattle.kt_plan.specs.Limits.{Planned}
use Rattle.kt_promises.proofs.MachineProgress.{MachineProgress}
use Rattle.kt_plan.specs.declared.steps.Step.{Step}
use Rattle.kt_plan.specs.declared.steps.Step.TheVariants.{Do, Take}
use Rattle.kt_plan.specs.declared.steps.Give.{Give}
use Rattle.kt_promises.proofs.MachineSteps.{after_machine_step}
use Rattle.kt_promises.specs.Tallies.{total_below}

-- a parcel is an ask of k
abbrev pub machine_is_ask_of : ℕ → Parcel → Bool
machine_is_ask_of k (Ask j l) = j == k
machine_is_ask_of k _ = false

-- a reply of k
abbrev pub machine_is_reply_of : ℕ → Parcel → Bool
machine_is_reply_of k (Reply j w) = j == k
machine_is_reply_of k _ = false

-- a decision of k
abbrev pub machine_is_decision_of : ℕ → Parcel → Bool
machine_is_decision_of k (Decide j c) = j == k
machine_is_decision_of k _ = false

-- how many parcels of a list pass the test
unfoldable pub machine_count_where : (Parcel → Bool) → List Parcel → ℕ
machine_count_where t [] = 0
machine_count_where t (x ∷ xs) = (if t x then 1 else 0) + machine_count_where t xs

-- how many do in the channels of n processes
abbrev pub machine_count_in_channels : ℕ → (Parcel → Bool) → Lists → ℕ
machine_count_in_channels n t channel = total_below n (λ u. total_below n (λ v. machine_count_where t (channel u v)))

-- how many do of the one in front
abbrev pub machine_count_in_front : (Parcel → Bool) → List Parcel → ℕ
machine_count_in_front t [] = 0
machine_count_in_front t (x ∷ xs) = if t x then 1 else 0

-- how many do of the one that a step takes off a channel; a message that is held is on none
abbrev pub machine_taken_off : State → Step → (Parcel → Bool) → ℕ
machine_taken_off s (Do p) t = 0
machine_taken_off s (Take p q) t = if not (is_ready s p) && has_parcel (s.held q p) then 0 else machine_count_in_front t (s.channel q p)

-- a step raises the tallies by what it adds to the channels, with so many taken off
pub record IsTallied (n : ℕ) (off : (Parcel → Bool) → ℕ) (s s' : State) : Type 0 where
  pub asks : (k : ℕ) → machine_count_in_channels n (machine_is_ask_of k) s'.channel + off (machine_is_ask_of k) + s.asks k ≡ machine_count_in_channels n (machine_is_ask_of k) s.channel + s'.asks k
  pub replies : (k : ℕ) → machine_count_in_channels n (machine_is_reply_of k) s'.channel + off (machine_is_reply_of k) + s.replies k ≡ machine_count_in_channels n (machine_is_reply_of k) s.channel + s'.replies k
  pub decisions : (k : ℕ) → machine_count_in_channels n (machine_is_decision_of k) s'.channel + off (machine_is_decision_of k) + s.decisions k ≡ machine_count_in_channels n (machine_is_decision_of k) s.channel + s'.decisions k

-- so does a step of a plan
abbrev pub IsTalliedStep : Planned → MachineProgress → Step → Give → Type 0
IsTalliedStep plan now x give = IsTallied (length plan.names) (machine_taken_off now.state x) now.state (after_machine_step plan now x give).state
