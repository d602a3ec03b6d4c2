-- What is due to a process, by the fields of a state; the rows of the messages that its lists hold.
use Rattle.std.specs.Prelude.{◌≡◌, ℕ, ◌+◌, ◌<◌, ◌==◌, if◌then◌else◌, Option, Some, None, unwrap_or, true, false, List, [], ◌∷◌, ◌++◌, take, drop, slice_get, ◌&&◌}
use Rattle.kt_spacetime.specs.declared.event.Event.{Event}
use Rattle.kt_spacetime.specs.declared.event.Event.TheVariants.{Sent}
use Rattle.kt_spacetime.specs.declared.deeds.Deed.{Deed}
use Rattle.kt_spacetime.specs.declared.deeds.Deed.TheVariants as deed
use Rattle.kt_meaning.specs.Past.{past, is_rollback, is_committed}
use Rattle.kt_meaning.specs.Legal.{has_deed}
use Rattle.kt_protocol.specs.Parcels.{messages, Lists}
use Rattle.kt_protocol.specs.InTransit.{times, received_of}
use Rattle.kt_protocol.specs.States.{State}
use Rattle.kt_protocol.specs.OwnHistories.{own_histories}
use Rattle.kt_protocol.specs.KeptInOrder.{is_in_checkpoint}
use Rattle.kt_machine.specs.Done.{Done, done}
use Rattle.kt_machine.specs.Values.{Rules, Due, value}

-- what is due to p by the state: by whether p is up, whether it is in a checkpoint, its positions and its own history
abbrev pub due_in : {V : Type 0} → Rules V → State → ℕ → Due V
due_in r s p = record {
  object = if s.up p then Some (value r (done s.log).body ((own_histories s.log).own p)) else None;
  permanent = value r (done s.log).body (take (s.own_permanent p) ((own_histories s.log).own p));
  tentative = if is_in_checkpoint s.so_far p then Some (value r (done s.log).body (take (s.saved_at p) ((own_histories s.log).own p))) else None;
}

-- the row of message m is a send of this sender to this receiver, and its body is that row's
pub record IsSent (log : List Event) (m from to : ℕ) : Type 0 where
  pub row : ℕ
  pub number : m ≡ row + 1
  pub sent : slice_get log row ≡ Some (Sent from to ((done log).body m))

-- a process's live history by its own one, where it is in no instance or in this one
abbrev pub live_in : Done → ℕ → Option ℕ → List Deed
live_in d p None = d.own p
live_in d p (Some k) = if is_rollback d.past k && is_committed d.past k then take (d.permanent p) (d.own p) else d.own p

-- a process's permanent position by its own one
abbrev pub permanent_in : Done → ℕ → Option ℕ → ℕ
permanent_in d p None = d.permanent p
permanent_in d p (Some k) = if is_committed d.past k then unwrap_or (d.past.new k p) (d.permanent p) else d.permanent p

-- the messages of p to q that q has received itself, that it holds, and that are in the channel
abbrev pub messages_between : (ℕ → List Deed) → Lists → Lists → ℕ → ℕ → List ℕ
messages_between own channel held p q = received_of p (own q) ++ (messages (held p q) ++ messages (channel p q))

-- each live message that isn't dropped stands there once
abbrev pub StandsOnce : List Event → Lists → Lists → Type 0
StandsOnce log channel held = (m p q : ℕ) → has_deed (deed.Sent m q) ((past log).live p) ≡ true → (past log).dropped m ≡ false → times m (messages_between (done log).own channel held p q) ≡ 1

-- what is kept of a sender is what its receiver has received of it past its own permanent position, in order
abbrev pub KeepsReceived : List Event → Lists → Type 0
KeepsReceived log kept = (p q : ℕ) → messages (kept q p) ≡ received_of q (drop ((done log).permanent p) ((done log).own p))

-- each number is above those before it
abbrev pub IsAbove : ℕ → List ℕ → Type 0
IsAbove n [] = Unit {0}
IsAbove n (x ∷ xs) = (n < x) × IsAbove n xs

-- the numbers of a list rise
abbrev pub AreRisingNumbers : List ℕ → Type 0
AreRisingNumbers [] = Unit {0}
AreRisingNumbers (x ∷ xs) = IsAbove x xs × AreRisingNumbers xs
