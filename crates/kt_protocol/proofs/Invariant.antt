-- The invariant, in records by subject.
use Rattle.std.proofs.Common.{◌≡◌, ◌≢◌, ℕ, ◌+◌, ◌≤◌, ◌<◌, Bool, true, false, not, List, [], ◌∷◌, ◌++◌, length, sym, ap, ◌⊎◌, Some, ◌∙◌}
use Rattle.std.specs.Prelude.{◌==◌, ◌&&◌, ◌||◌, nat_le, if◌then◌else◌, slice_get}
use Rattle.std.proofs.lemmas.Grind.{fold-append}
use Rattle.kt_spacetime.specs.declared.event.Event.{Event}
use Rattle.kt_spacetime.specs.declared.deeds.Deed.TheVariants as deed
use Rattle.kt_protocol.proofs.Weights.{behind, one_app, weigh}
use Rattle.kt_protocol.proofs.RowFacts.{EachRow, HoldsBefore, checkpoint_cut_of}
use Rattle.kt_protocol.specs.Parcels.{Ask, Decide, Parcel, Reply}
use Rattle.kt_protocol.specs.States.{State}
use Rattle.kt_protocol.specs.Summary.{Summary, summary, summary_after, summary_start}

abbrev pub one : Bool → ℕ
one true = 1
one false = 0

abbrev pub same_bool : Bool → Bool → Bool
same_bool true b = b
same_bool false b = not b

abbrev pub is_message : ℕ → Parcel → ℕ
is_message m x = one_app m x

abbrev pub is_ask : ℕ → Parcel → ℕ
is_ask k (Ask j l) = one (j == k)
is_ask k _ = 0

-- an ask of k with exactly this label
abbrev pub is_ask_with : ℕ → ℕ → Parcel → ℕ
is_ask_with k m (Ask j l) = one (j == k && l == m)
is_ask_with k m _ = 0

-- an ask of k with a label at least m
abbrev pub is_ask_over : ℕ → ℕ → Parcel → ℕ
is_ask_over k m (Ask j l) = one (j == k && nat_le m l)
is_ask_over k m _ = 0

abbrev pub is_reply : ℕ → Parcel → ℕ
is_reply k (Reply j w) = one (j == k)
is_reply k _ = 0

abbrev pub is_unwilling_reply : ℕ → Parcel → ℕ
is_unwilling_reply k (Reply j w) = one (j == k && not w)
is_unwilling_reply k _ = 0

abbrev pub is_decide : ℕ → Bool → Parcel → ℕ
is_decide k c (Decide j d) = one (j == k && same_bool c d)
is_decide k c _ = 0

-- q joined by p's ask, and has not answered
abbrev pub is_child : State → ℕ → ℕ → ℕ → Bool
is_child s k p q = s.so_far.joined k q && s.parent k q == p && not (s.has_answered k q)

-- a member that will answer unwilling, or the initiator that will abort
abbrev pub is_unwilling_member : State → ℕ → ℕ → Bool
is_unwilling_member s k p = s.so_far.joined k p && not (s.all_willing k p) && (not (s.has_answered k p) || p == s.initiator k)

-- the numbers are those of the log, and the places of messages those of their deeds
pub record Histories (s : State) : Type 0 where
  pub of_log : s.so_far ≡ summary s.log
  pub size_is : (p : ℕ) → s.so_far.size p ≡ length (s.so_far.live p)
  pub sent_is : (x j m t : ℕ) → slice_get (s.so_far.live x) j ≡ Some (deed.Sent m t) → (s.so_far.is_sent m ≡ true) × (s.so_far.from m ≡ x) × (s.so_far.sent_at m ≡ j) × (s.so_far.to m ≡ t)
  pub sent_there : (m : ℕ) → s.so_far.is_sent m ≡ true → slice_get (s.so_far.live (s.so_far.from m)) (s.so_far.sent_at m) ≡ Some (deed.Sent m (s.so_far.to m))
  pub received_is : (y i m t : ℕ) → slice_get (s.so_far.live y) i ≡ Some (deed.Received m t) → (s.so_far.is_received m ≡ true) × (s.so_far.to m ≡ y) × (s.so_far.received_at m ≡ i) × (s.so_far.from m ≡ t)
  pub received_there : (m : ℕ) → s.so_far.is_received m ≡ true → slice_get (s.so_far.live (s.so_far.to m)) (s.so_far.received_at m) ≡ Some (deed.Received m (s.so_far.from m))

-- where messages are, and in which order
pub record Messages (s : State) : Type 0 where
  pub sent_low : (m : ℕ) → s.so_far.is_sent m ≡ true → (0 < m) × (m ≤ s.so_far.rows) × (s.so_far.sent_at m < s.so_far.size (s.so_far.from m)) × (s.so_far.from m < s.processes) × (s.so_far.to m < s.processes)
  pub received_low : (m : ℕ) → s.so_far.is_received m ≡ true → (s.so_far.is_sent m ≡ true) × (s.so_far.received_at m < s.so_far.size (s.so_far.to m))
  pub sends_rise : (m n : ℕ) → s.so_far.is_sent m ≡ true → s.so_far.is_sent n ≡ true → s.so_far.from m ≡ s.so_far.from n → m ≤ n → s.so_far.sent_at m ≤ s.so_far.sent_at n
  pub flying : (m p q : ℕ) → weigh (is_message m) (s.channel p q) + weigh (is_message m) (s.held p q) ≡ one (s.so_far.is_sent m && not (s.so_far.is_received m) && not (s.so_far.dropped m) && s.so_far.from m == p && s.so_far.to m == q)
  pub messages_first : (p q : ℕ) → behind (s.channel p q) ≡ 0
  pub kept_is : (m p q : ℕ) → weigh (is_message m) (s.kept q p) ≡ one (s.so_far.is_received m && s.so_far.from m == q && s.so_far.to m == p && nat_le (s.so_far.permanent p) (s.so_far.received_at m))
  pub dropped_low : (m : ℕ) → s.so_far.dropped m ≡ true → (m ≤ s.so_far.rows) × (s.so_far.is_received m ≡ false)
  pub received_sent : (m : ℕ) → s.so_far.is_received m ≡ true → s.so_far.sent_at m < s.so_far.size (s.so_far.from m)

-- members, instances and positions
pub record Positions (s : State) : Type 0 where
  pub new_low : (k p : ℕ) → s.so_far.joined k p ≡ true → s.so_far.is_decided k ≡ false → s.so_far.is_rollback k ≡ false → s.so_far.new k p ≤ s.so_far.size p
  pub permanent_new : (k p : ℕ) → s.so_far.joined k p ≡ true → s.so_far.is_decided k ≡ false → s.so_far.is_rollback k ≡ false → s.so_far.permanent p ≤ s.so_far.new k p
  pub joined_instance : (k p : ℕ) → s.so_far.joined k p ≡ true → (0 < k) × (k ≤ s.instances) × (s.so_far.joined k (s.initiator k) ≡ true) × (s.has_answered k (s.initiator k) ≡ true)
  pub decided_instance : (k : ℕ) → s.so_far.is_decided k ≡ true → (0 < k) × (k ≤ s.instances)
  pub member_open : (k p : ℕ) → s.so_far.joined k p ≡ true → s.so_far.is_decided k ≡ false → s.so_far.open_in p ≡ k
  pub open_joined : (k p : ℕ) → 0 < k → s.so_far.open_in p ≡ k → s.so_far.joined k p ≡ true
  pub open_saved : (k p : ℕ) → 0 < k → s.so_far.open_in p ≡ k → s.so_far.is_rollback k ≡ false → s.saved_at p ≡ s.so_far.new k p
  pub open_permanent : (k p : ℕ) → 0 < k → s.so_far.open_in p ≡ k → s.so_far.is_rollback k ≡ false → s.so_far.permanent p ≡ (if s.so_far.is_decided k && s.so_far.is_committed k then s.saved_at p else s.own_permanent p)
  pub open_sends : (k m : ℕ) → 0 < k → s.so_far.open_in (s.so_far.from m) ≡ k → s.so_far.is_rollback k ≡ false → s.so_far.is_sent m ≡ true → s.so_far.sent_at m < s.saved_at (s.so_far.from m)
  pub closed_permanent : (p : ℕ) → s.so_far.open_in p ≡ 0 → (s.saved_at p ≡ s.so_far.permanent p) × (s.own_permanent p ≡ s.so_far.permanent p)
  pub rollback_permanent : (k p : ℕ) → 0 < k → s.so_far.open_in p ≡ k → s.so_far.is_rollback k ≡ true → (s.saved_at p ≡ s.so_far.permanent p) × (s.own_permanent p ≡ s.so_far.permanent p)
  pub saved_low : (p : ℕ) → (s.own_permanent p ≤ s.saved_at p) × (s.saved_at p ≤ s.so_far.size p)

-- what the tables of a process know of messages
pub record Tables (s : State) : Type 0 where
  pub first_sent_all : (m : ℕ) → s.so_far.is_sent m ≡ true → s.saved_at (s.so_far.from m) ≤ s.so_far.sent_at m → (0 < s.first_sent (s.so_far.from m) (s.so_far.to m)) × (s.first_sent (s.so_far.from m) (s.so_far.to m) ≤ m)
  pub first_sent_is : (p q : ℕ) → 0 < s.first_sent p q → (s.so_far.is_sent (s.first_sent p q) ≡ true) × (s.so_far.from (s.first_sent p q) ≡ p) × (s.so_far.to (s.first_sent p q) ≡ q) × (s.saved_at p ≤ s.so_far.sent_at (s.first_sent p q))
  pub last_received_all : (m : ℕ) → s.so_far.is_received m ≡ true → s.saved_at (s.so_far.to m) ≤ s.so_far.received_at m → m ≤ s.last_received (s.so_far.to m) (s.so_far.from m)
  pub last_received_is : (p q : ℕ) → 0 < s.last_received p q → (s.so_far.is_received (s.last_received p q) ≡ true) × (s.so_far.from (s.last_received p q) ≡ q) × (s.so_far.to (s.last_received p q) ≡ p)
  pub aside_first_all : (k m : ℕ) → 0 < k → s.so_far.open_in (s.so_far.from m) ≡ k → s.so_far.is_rollback k ≡ false → s.so_far.is_sent m ≡ true → s.own_permanent (s.so_far.from m) ≤ s.so_far.sent_at m → (0 < s.first_sent_aside (s.so_far.from m) (s.so_far.to m)) × (s.first_sent_aside (s.so_far.from m) (s.so_far.to m) ≤ m)
  pub aside_first_is : (k p q : ℕ) → 0 < k → s.so_far.open_in p ≡ k → s.so_far.is_rollback k ≡ false → 0 < s.first_sent_aside p q → (s.so_far.is_sent (s.first_sent_aside p q) ≡ true) × (s.so_far.from (s.first_sent_aside p q) ≡ p) × (s.so_far.to (s.first_sent_aside p q) ≡ q) × (s.own_permanent p ≤ s.so_far.sent_at (s.first_sent_aside p q))
  pub aside_last_all : (k m : ℕ) → 0 < k → s.so_far.open_in (s.so_far.to m) ≡ k → s.so_far.is_rollback k ≡ false → s.so_far.is_received m ≡ true → s.own_permanent (s.so_far.to m) ≤ s.so_far.received_at m → s.so_far.received_at m < s.saved_at (s.so_far.to m) → m ≤ s.last_received_aside (s.so_far.to m) (s.so_far.from m)
  pub aside_last_is : (k p q : ℕ) → 0 < k → s.so_far.open_in p ≡ k → s.so_far.is_rollback k ≡ false → 0 < s.last_received_aside p q → (s.so_far.is_received (s.last_received_aside p q) ≡ true) × (s.so_far.from (s.last_received_aside p q) ≡ q) × (s.so_far.to (s.last_received_aside p q) ≡ p)
  pub separates : (m : ℕ) → s.so_far.is_sent m ≡ true → (s.so_far.sent_at m < s.so_far.permanent (s.so_far.from m) → m ≤ s.last_sent (s.so_far.from m) (s.so_far.to m)) × (s.so_far.permanent (s.so_far.from m) ≤ s.so_far.sent_at m → s.last_sent (s.so_far.from m) (s.so_far.to m) < m)
  pub latest_all : (m : ℕ) → s.so_far.is_sent m ≡ true → m ≤ s.latest_sent (s.so_far.from m) (s.so_far.to m)
  pub latest_low : (p q : ℕ) → (s.last_sent p q ≤ s.latest_sent p q) × (s.latest_sent p q ≤ s.so_far.rows)

-- asks, replies, decisions, and the tree of parents
pub record Asks (s : State) : Type 0 where
  pub one_each : (k p q : ℕ) → weigh (is_ask k) (s.channel p q) + one (is_child s k p q) + weigh (is_reply k) (s.channel q p) ≡ one (s.awaits k p q)
  pub awaits_joined : (k p q : ℕ) → s.awaits k p q ≡ true → (s.so_far.joined k p ≡ true) × (s.so_far.is_decided k ≡ false) × (q < s.processes)
  pub answered_awaits : (k p q : ℕ) → s.has_answered k p ≡ true → p ≢ s.initiator k → s.awaits k p q ≡ false
  pub parent_first : (k q : ℕ) → s.so_far.joined k q ≡ true → q ≢ s.initiator k → (s.so_far.joined k (s.parent k q) ≡ true) × (s.so_far.joined_at k (s.parent k q) < s.so_far.joined_at k q)
  pub joined_low : (k q : ℕ) → s.so_far.joined k q ≡ true → s.so_far.joined_at k q < s.so_far.rows
  pub ask_label : (k l p q : ℕ) → 0 < weigh (is_ask_with k l) (s.channel p q) → (s.so_far.is_rollback k ≡ false → (s.so_far.is_received l ≡ true) × (s.so_far.to l ≡ p) × (s.so_far.from l ≡ q) × (s.so_far.received_at l < s.so_far.new k p)) × (s.so_far.is_rollback k ≡ true → l ≡ s.last_sent p q)
  pub linked : (k q : ℕ) → s.so_far.joined k q ≡ true → s.so_far.is_decided k ≡ false → s.so_far.is_rollback k ≡ false → q ≢ s.initiator k → (s.so_far.is_received (s.link k q) ≡ true) × (s.so_far.from (s.link k q) ≡ q) × (s.so_far.to (s.link k q) ≡ s.parent k q) × (s.so_far.permanent q ≤ s.so_far.sent_at (s.link k q)) × (s.so_far.received_at (s.link k q) < s.so_far.new k (s.parent k q))
  pub linked_rollback : (k q : ℕ) → s.so_far.joined k q ≡ true → s.so_far.is_decided k ≡ false → s.so_far.is_rollback k ≡ true → q ≢ s.initiator k → (s.so_far.is_received (s.link k q) ≡ true) × (s.so_far.from (s.link k q) ≡ s.parent k q) × (s.so_far.to (s.link k q) ≡ q) × (s.so_far.permanent (s.parent k q) ≤ s.so_far.sent_at (s.link k q))
  pub decide_is : (k : ℕ) (c : Bool) (p q : ℕ) → 0 < weigh (is_decide k c) (s.channel p q) → (s.so_far.is_decided k ≡ true) × (s.so_far.is_committed k ≡ c)
  pub noted_is : (k p y : ℕ) → s.noted k p y ≡ true → (s.so_far.joined k y ≡ true) × (s.so_far.is_decided k ≡ false → s.so_far.is_rollback k ≡ true → s.noted_label k p y ≡ s.last_sent y p)

-- where a process was unwilling, and who knows
pub record Willing (s : State) : Type 0 where
  pub unwilling_reply : (k p q : ℕ) → 0 < weigh (is_unwilling_reply k) (s.channel p q) → s.so_far.has_unwilling k ≡ true
  pub unwilling_member : (k p : ℕ) → s.all_willing k p ≡ false → s.so_far.has_unwilling k ≡ true
  pub somewhere : (k : ℕ) → s.so_far.has_unwilling k ≡ true → s.so_far.is_decided k ≡ false → (p : ℕ) × (q : ℕ) × (0 < weigh (is_unwilling_reply k) (s.channel p q) + one (is_unwilling_member s k p))

-- what the cuts lack is being asked for, and each row so far was right
pub record Consistent (s : State) : Type 0 where
  pub sent_permanently : (m : ℕ) → s.so_far.is_received m ≡ true → s.so_far.received_at m < s.so_far.permanent (s.so_far.to m) → s.so_far.sent_at m < s.so_far.permanent (s.so_far.from m)
  pub sent_or_asked : (k m : ℕ) → s.so_far.is_decided k ≡ false → s.so_far.is_rollback k ≡ false → s.so_far.has_unwilling k ≡ false → s.so_far.joined k (s.so_far.to m) ≡ true → s.so_far.is_received m ≡ true → s.so_far.received_at m < s.so_far.new k (s.so_far.to m) → (s.so_far.sent_at m < checkpoint_cut_of s.so_far k (s.so_far.from m)) ⊎ (0 < weigh (is_ask_over k m) (s.channel (s.so_far.to m) (s.so_far.from m)))
  pub undone_or_asked : (k m : ℕ) → s.so_far.is_decided k ≡ false → s.so_far.is_rollback k ≡ true → s.so_far.has_unwilling k ≡ false → s.so_far.joined k (s.so_far.from m) ≡ true → s.so_far.is_sent m ≡ true → s.so_far.permanent (s.so_far.from m) ≤ s.so_far.sent_at m → (0 < weigh (is_ask k) (s.channel (s.so_far.from m) (s.so_far.to m))) ⊎ ((weigh (is_message m) (s.channel (s.so_far.from m) (s.so_far.to m)) ≡ 0) × (((s.so_far.joined k (s.so_far.to m) ≡ true) × (s.noted k (s.so_far.to m) (s.so_far.from m) ≡ true)) ⊎ ((s.so_far.is_received m ≡ false) × (weigh (is_message m) (s.held (s.so_far.from m) (s.so_far.to m)) ≡ 0))))
  pub rows_hold : EachRow HoldsBefore s.log

-- what holds at each point of a step
pub record Invariant (s : State) : Type 0 where
  pub histories : Histories s
  pub messages : Messages s
  pub positions : Positions s
  pub tables : Tables s
  pub asks : Asks s
  pub willing : Willing s
  pub consistent : Consistent s

pub summary_push : (h : Summary) (log : List Event) (row : Event) → h ≡ summary log → summary_after h row ≡ summary (log ++ row ∷ [])
summary_push h log row e = ap (λ (k : Summary). summary_after k row) e ∙ sym (fold-append summary_after summary_start log (row ∷ []))

-- a state with a row that changes nothing that is known but the number of rows, and where these are up
abbrev pub with_row : State → Event → (ℕ → Bool) → State
with_row s row up = record s { log = s.log ++ row ∷ []; so_far = record s.so_far { rows = s.so_far.rows + 1 }; up = up }
