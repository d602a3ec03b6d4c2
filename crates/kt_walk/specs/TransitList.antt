-- Messages in transit from one process to another.
use Rattle.std.specs.Prelude.{◌≡◌, ℕ, ◌<◌, ◌≤◌, Bool, false, Some, List, insert, length, slice_get}
use Rattle.kt_spacetime.specs.declared.deeds.Deed.{Deed}
use Rattle.kt_spacetime.specs.declared.deeds.Deed.TheVariants as deed
use Rattle.kt_walk.specs.declared.in_transit.Sent.{Sent}

-- messages in transit, and how many there can be without asking for memory
pub record TransitList : Type 0 where
  pub messages : List Sent
  pub room : ℕ

-- a message was sent before another one
pub record IsEarlier (a b : Sent) : Type 0 where
  pub msg : a.msg < b.msg
  pub place : a.place < b.place

-- messages in the order of their sends
pub record IsBySend (messages : List Sent) : Type 0 where
  pub each : (j k : ℕ) (a b : Sent) → j < k → slice_get messages j ≡ Some a → slice_get messages k ≡ Some b → IsEarlier a b

-- so many messages have numbers below this one, and they come first
pub record Belongs (msg : ℕ) (messages : List Sent) (place : ℕ) : Type 0 where
  pub within : place ≤ length messages
  pub below : (k : ℕ) (a : Sent) → k < place → slice_get messages k ≡ Some a → a.msg < msg
  pub above : (k : ℕ) (a : Sent) → place ≤ k → slice_get messages k ≡ Some a → msg ≤ a.msg

-- a message is put where it belongs
pub record IsPutBack (message : Sent) (old new : List Sent) : Type 0 where
  pub place : ℕ
  pub belongs : IsBySend old → Belongs message.msg old place
  pub messages : new ≡ insert old place message

-- the messages that a sender's history, sent, has for a receiver, but for those that are no longer in transit
pub record AreInTransit (messages : List Sent) (receiver : ℕ) (sent : List Deed) (away : ℕ → Bool) : Type 0 where
  pub in_order : IsBySend messages
  pub live : (k : ℕ) (w : Sent) → slice_get messages k ≡ Some w → slice_get sent w.place ≡ Some (deed.Sent w.msg receiver)
  pub here : (k : ℕ) (w : Sent) → slice_get messages k ≡ Some w → away w.msg ≡ false
  pub all : (msg i : ℕ) → slice_get sent i ≡ Some (deed.Sent msg receiver) → away msg ≡ false → (k : ℕ) × (slice_get messages k ≡ Some (record { msg = msg; place = i }))

-- so many messages were sent before a place, and they come first
pub record AreSentBefore (place : ℕ) (messages : List Sent) (count : ℕ) : Type 0 where
  pub before : (k : ℕ) (a : Sent) → k < count → slice_get messages k ≡ Some a → a.place < place
  pub not_before : (k : ℕ) (a : Sent) → count ≤ k → slice_get messages k ≡ Some a → place ≤ a.place
