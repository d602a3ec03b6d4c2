-- What holds before each row, in numbers.
use Rattle.std.specs.Prelude.{◌≡◌, ◌≢◌, not, ℕ, ◌≤◌, ◌<◌, if◌then◌else◌, Bool, true, false, List, take, slice_get, Some}
use Rattle.kt_spacetime.specs.declared.event.Event.{Event}
use Rattle.kt_spacetime.specs.declared.event.Event.TheVariants.{Unwilling, Decided}
use Rattle.kt_spacetime.specs.declared.deeds.Deed.TheVariants as deed
use Rattle.kt_base.specs.declared.words.Cause.{Cause}
use Rattle.kt_protocol.specs.Summary.{Summary, summary}
use Rattle.kt_meaning.specs.Decided.{is_busy}

abbrev pub checkpoint_cut_of : Summary → ℕ → ℕ → ℕ
checkpoint_cut_of h k p = if h.joined k p then h.new k p else h.permanent p

abbrev pub rollback_cut_of : Summary → ℕ → ℕ → ℕ
rollback_cut_of h k p = if h.joined k p then h.permanent p else h.size p

-- each message received in a part is sent in a part
abbrev pub HasNoOrphan : Summary → (ℕ → ℕ) → Type 0
HasNoOrphan h cut = (m x y i : ℕ) → slice_get (h.live y) i ≡ Some (deed.Received m x) → i < cut y → (j : ℕ) × (slice_get (h.live x) j ≡ Some (deed.Sent m y)) × (j < cut x)

-- p has a linking message with an earlier member, for a rollback
pub record IsLinkedRollback (h : Summary) (k p : ℕ) : Type 0 where
  pub member : ℕ
  pub joined : h.joined k member ≡ true
  pub earlier : h.joined_at k member < h.joined_at k p
  pub msg : ℕ
  pub out : ℕ
  pub sent : slice_get (h.live member) out ≡ Some (deed.Sent msg p)
  pub past_permanent : h.permanent member ≤ out
  pub place : ℕ
  pub received : slice_get (h.live p) place ≡ Some (deed.Received msg member)

-- p has a linking message with an earlier member
pub record IsLinked (h : Summary) (k p : ℕ) : Type 0 where
  pub member : ℕ
  pub joined : h.joined k member ≡ true
  pub earlier : h.joined_at k member < h.joined_at k p
  pub msg : ℕ
  pub out : ℕ
  pub sent : slice_get (h.live p) out ≡ Some (deed.Sent msg member)
  pub past_permanent : h.permanent p ≤ out
  pub place : ℕ
  pub received : slice_get (h.live member) place ≡ Some (deed.Received msg p)
  pub within : place < h.new k member

-- the decision of k by i
pub record IsDecision (h : Summary) (i k : ℕ) (c : Bool) : Type 0 where
  pub consistent : c ≡ true → h.is_rollback k ≡ false → HasNoOrphan h (checkpoint_cut_of h k)
  pub consistent_back : c ≡ true → h.is_rollback k ≡ true → HasNoOrphan h (rollback_cut_of h k)
  pub linked : h.is_rollback k ≡ false → (p : ℕ) → h.joined k p ≡ true → p ≢ i → IsLinked h k p
  pub linked_back : h.is_rollback k ≡ true → (p : ℕ) → h.joined k p ≡ true → p ≢ i → IsLinkedRollback h k p
  pub exact : h.has_unwilling k ≡ not c

-- what holds before a row
abbrev pub HoldsBefore : Summary → Event → Type 0
HoldsBefore h (Decided i k c) = HasNoOrphan h h.permanent × HasNoOrphan h h.size × IsDecision h i k c
HoldsBefore h (Unwilling p k cause) = HasNoOrphan h h.permanent × HasNoOrphan h h.size × (h.is_decided k ≡ false)
HoldsBefore h _ = HasNoOrphan h h.permanent × HasNoOrphan h h.size

abbrev pub EachRow : (Summary → Event → Type 0) → List Event → Type 0
EachRow P log = (t : ℕ) (row : Event) → slice_get log t ≡ Some row → P (summary (take t log)) row

-- who asked p to join k, and by which message p would have to
pub record IsAsked (h : Summary) (p k : ℕ) (cause : Cause) : Type 0 where
  pub asker : ℕ
  pub joined : h.joined k asker ≡ true
  pub msg : ℕ
  pub place : ℕ
  pub received : h.is_rollback k ≡ false → (slice_get (h.live asker) place ≡ Some (deed.Received msg p)) × (h.permanent asker ≤ place) × (place < h.new k asker)
  pub out : ℕ
  pub sent : h.is_rollback k ≡ true → (slice_get (h.live asker) out ≡ Some (deed.Sent msg p)) × (h.permanent asker ≤ out)
  pub linked : is_busy cause ≡ false → (h.is_rollback k ≡ false) × (slice_get (h.live p) out ≡ Some (deed.Sent msg asker)) × (h.permanent p ≤ out)
