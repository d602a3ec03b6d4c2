-- How many asks, replies and decisions of each instance have been put into the channels, by what code has.
use Rattle.std.specs.Prelude.{◌≡◌, ℕ, ◌+◌, ◌-◌, ◌==◌, ◌&&◌, not, if◌then◌else◌, Bool, false, Some, List, [], ◌∷◌, length, zero, suc}
use Rattle.kt_fifo.specs.Queues.{has_parcel}
use Rattle.kt_fifo.specs.declared.parcels.Parcel.{Parcel}
use Rattle.kt_fifo.specs.declared.parcels.Parcel.TheVariants.{Ask, Reply, Decide}
use Rattle.kt_machine.specs.Seen.{SeenLists, Seen}
use Rattle.kt_machine.specs.Transition.{is_seen_ready}
use Rattle.kt_plan.specs.Limits.{Planned}
use Rattle.kt_plan.specs.declared.steps.Step.{Step}
use Rattle.kt_plan.specs.declared.steps.Step.TheVariants.{Do, Take}
use Rattle.kt_plan.specs.declared.steps.Give.{Give}
use Rattle.kt_promises.specs.Progress.{Progress, progress_at_start}
use Rattle.kt_promises.specs.Steps.{progress_after}
use Rattle.kt_promises.specs.Runs.{Move, after_moves}

-- the sum over the numbers below n
unfoldable pub total_below : ℕ → (ℕ → ℕ) → ℕ
total_below zero f = 0
total_below (suc n) f = f n + total_below n f

-- by instance: how many of its asks, replies and decisions have been put into the channels
pub record Tallies : Type 0 where
  -- by instance
  pub asks : ℕ → ℕ
  pub replies : ℕ → ℕ
  pub decisions : ℕ → ℕ

-- none has
abbrev pub no_tallies : Tallies
no_tallies = record { asks = λ k. 0; replies = λ k. 0; decisions = λ k. 0 }

-- a parcel is an ask of k
abbrev pub is_ask_of : ℕ → Parcel → Bool
is_ask_of k (Ask j kind l) = j == k
is_ask_of k _ = false

-- a reply of k
abbrev pub is_reply_of : ℕ → Parcel → Bool
is_reply_of k (Reply j w) = j == k
is_reply_of k _ = false

-- a decision of k
abbrev pub is_decision_of : ℕ → Parcel → Bool
is_decision_of k (Decide j c) = j == k
is_decision_of k _ = false

-- how many parcels of a list pass the test
unfoldable pub count_where : (Parcel → Bool) → List Parcel → ℕ
count_where t [] = 0
count_where t (x ∷ xs) = (if t x then 1 else 0) + count_where t xs

-- how many do in the channels of n processes
abbrev pub count_in_channels : ℕ → (Parcel → Bool) → SeenLists → ℕ
count_in_channels n t channel = total_below n (λ u. total_below n (λ v. count_where t (channel u v)))

-- how many do of the one in front
abbrev pub count_in_front : (Parcel → Bool) → List Parcel → ℕ
count_in_front t [] = 0
count_in_front t (x ∷ xs) = if t x then 1 else 0

-- how many do of the one that a step takes off a channel; a message that is held is on none
abbrev pub taken_off : Seen → Step → (Parcel → Bool) → ℕ
taken_off v (Do p) t = 0
taken_off v (Take p q) t =
    if not (is_seen_ready v p) && has_parcel (v.held q p) then 0 else count_in_front t (v.channel q p)

-- an old count of instance k, raised by what step x, which leads from v to v', has added to the channels
abbrev pub raised : ℕ → (ℕ → Parcel → Bool) → Seen → Step → Seen → (ℕ → ℕ) → ℕ → ℕ
raised n t v x v' old k =
    count_in_channels n (t k) v'.channel + taken_off v x (t k) + old k - count_in_channels n (t k) v.channel

-- the counts of all instances so raised
abbrev pub raised_tally : ℕ → Seen → Step → Seen → Tallies → Tallies
raised_tally n v x v' y = record {
  asks = λ k. raised n is_ask_of v x v' y.asks k;
  replies = λ k. raised n is_reply_of v x v' y.replies k;
  decisions = λ k. raised n is_decision_of v x v' y.decisions k;
}

-- what is in the channels after a step and was taken off by it, beside what was put before, is what was in them and what
-- has been put since: nothing is lost where one number is taken from another
pub record IsRaised (n : ℕ) (v : Seen) (x : Step) (v' : Seen) (old new : Tallies) : Type 0 where
  pub asks : (k : ℕ) →
      count_in_channels n (is_ask_of k) v'.channel + taken_off v x (is_ask_of k) + old.asks k
      ≡ count_in_channels n (is_ask_of k) v.channel + new.asks k
  pub replies : (k : ℕ) →
      count_in_channels n (is_reply_of k) v'.channel + taken_off v x (is_reply_of k) + old.replies k
      ≡ count_in_channels n (is_reply_of k) v.channel + new.replies k
  pub decisions : (k : ℕ) →
      count_in_channels n (is_decision_of k) v'.channel + taken_off v x (is_decision_of k) + old.decisions k
      ≡ count_in_channels n (is_decision_of k) v.channel + new.decisions k

-- the tallies after one more step of a run
abbrev pub tallies_after : Planned → Progress → Step → Give → Tallies → Tallies
tallies_after plan w x give put = raised_tally (length plan.names) w.now x (progress_after plan w x give).now put

-- after some moves, one after another
abbrev pub tallies_along : Planned → Progress → List Move → Tallies → Tallies
tallies_along plan w [] put = put
tallies_along plan w (x ∷ xs) put =
    tallies_along plan (progress_after plan w x.step x.give) xs (tallies_after plan w x.step x.give put)

-- a run of the plan leads here, and its instances have put so much
pub record RunPuts (plan : Planned) (first : ℕ) (w : Progress) (put : Tallies) : Type 0 where
  pub moves : List Move
  pub leads : after_moves plan (progress_at_start plan first) moves ≡ Some w
  pub counted : tallies_along plan (progress_at_start plan first) moves no_tallies ≡ put
