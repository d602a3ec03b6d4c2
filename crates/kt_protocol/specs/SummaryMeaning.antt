-- The numbers of a summary tell what a log means.
use Rattle.std.specs.Prelude.{◌≡◌, ◌↔◌, ℕ, ◌<◌, ◌==◌, ◌&&◌, not, if◌then◌else◌, true, Some, None, List, length, slice_get}
use Rattle.kt_spacetime.specs.declared.event.Event.{Event}
use Rattle.kt_meaning.specs.Past.{Past, is_checkpoint, is_rollback}
use Rattle.kt_meaning.specs.Legal.{has_begun, has_deed}
use Rattle.kt_spacetime.specs.declared.deeds.Deed.TheVariants as deed
use Rattle.kt_meaning.specs.Chains.{members}
use Rattle.kt_protocol.specs.Summary.{Summary}

-- they are what is known of a log
pub record AgreesWith (h : Summary) (s : Past) : Type 0 where
  pub rows : h.rows ≡ s.rows
  pub live : (p : ℕ) → h.live p ≡ s.live p
  pub size : (p : ℕ) → h.size p ≡ length (s.live p)
  pub permanent : (p : ℕ) → h.permanent p ≡ s.permanent p
  pub new : (k p : ℕ) → s.new k p ≡ (if h.joined k p && not (h.is_rollback k) then Some (h.new k p) else None)
  pub ready : (k p : ℕ) → s.ready k p ≡ (h.joined k p && h.is_rollback k)
  pub begun : (k p : ℕ) → h.joined k p ≡ true → has_begun s k ≡ true
  pub rollback : (k : ℕ) → has_begun s k ≡ true → is_rollback s k ≡ h.is_rollback k
  pub checkpoint : (k : ℕ) → has_begun s k ≡ true → is_checkpoint s k ≡ not (h.is_rollback k)
  pub decision : (k : ℕ) → s.decision k ≡ (if h.is_decided k then Some (h.is_committed k) else None)
  pub open_in : (p : ℕ) → s.open_in p ≡ (if h.open_in p == 0 then None else Some (h.open_in p))
  pub dropped : (m : ℕ) → s.dropped m ≡ h.dropped m

-- the members of each instance are those of the log, and joined in its order
pub record OrdersMembers (h : Summary) (log : List Event) : Type 0 where
  pub member : (k i p : ℕ) → slice_get (members log k) i ≡ Some p → h.joined k p ≡ true
  pub there : (k p : ℕ) → h.joined k p ≡ true → (i : ℕ) × (slice_get (members log k) i ≡ Some p)
  pub low : (k i p : ℕ) → slice_get (members log k) i ≡ Some p → h.joined_at k p < h.rows
  pub rises : (k i j p q : ℕ) → slice_get (members log k) i ≡ Some p → slice_get (members log k) j ≡ Some q → i < j → h.joined_at k p < h.joined_at k q

-- the places of messages are those of their deeds
pub record PlacesMessages (h : Summary) (s : Past) : Type 0 where
  pub sent : (m p to i : ℕ) → (slice_get (s.live p) i ≡ Some (deed.Sent m to)) ↔ ((h.is_sent m ≡ true) × (h.from m ≡ p) × (h.to m ≡ to) × (h.sent_at m ≡ i))
  pub received : (m p from i : ℕ) → (slice_get (s.live p) i ≡ Some (deed.Received m from)) ↔ ((h.is_received m ≡ true) × (h.to m ≡ p) × (h.from m ≡ from) × (h.received_at m ≡ i))
  pub is_sent : (m : ℕ) → h.is_sent m ≡ has_deed (deed.Sent m (h.to m)) (s.live (h.from m))
  pub is_received : (m : ℕ) → h.is_received m ≡ has_deed (deed.Received m (h.from m)) (s.live (h.to m))
