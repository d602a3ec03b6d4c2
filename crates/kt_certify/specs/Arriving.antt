-- The least linking message by what a walk keeps of the messages between two processes.
use Rattle.std.specs.Prelude.{ℕ, ◌+◌, ◌*◌, nat_le, nat_lt, if◌then◌else◌, Option, Some, None, option_map, unwrap_or, List, [], ◌∷◌, length}
use Rattle.kt_base.specs.declared.words.Kind.{Kind}
use Rattle.kt_base.specs.declared.words.Kind.TheVariants.{Checkpoint, Rollback}
use Rattle.kt_meaning.specs.Past.{Past}
use Rattle.kt_walk.specs.declared.queue.Arrival.{Arrival}

-- the first arrival that was sent at a place or later
abbrev pub first_past : List Arrival → ℕ → Option Arrival
first_past [] from = None
first_past (a ∷ arrivals) from = if nat_le from a.sent then Some a else first_past arrivals from

-- its message
abbrev pub message_of : Option Arrival → Option ℕ
message_of arrival = option_map (λ (a : Arrival). a.msg) arrival

-- its message, if it was received before a place
abbrev pub message_within : ℕ → Option Arrival → Option ℕ
message_within n None = None
message_within n (Some a) = if nat_lt a.received n then Some a.msg else None

-- its message in a checkpoint: if it was received within the receiver's new position, where there is one
abbrev pub message_within_new : Option ℕ → Option Arrival → Option ℕ
message_within_new None arrival = None
message_within_new (Some n) arrival = message_within n arrival

-- where a walk has the messages that may link a process, p, with an earlier member, q: in a checkpoint those that q
-- received from p, in a rollback those that p received from q
abbrev pub place_of_pair : Kind → ℕ → ℕ → ℕ
place_of_pair Checkpoint p q = q * 64 + p
place_of_pair Rollback p q = p * 64 + q

-- who sent them
abbrev pub sender_of : Kind → ℕ → ℕ → ℕ
sender_of Checkpoint p q = p
sender_of Rollback p q = q

-- before which place of its receiver's history a linking one stands
abbrev pub received_before : Past → ℕ → Kind → ℕ → ℕ → ℕ
received_before s k Checkpoint p q = unwrap_or (s.new k q) 0
received_before s k Rollback p q = length (s.live p)

-- the message that links a process, p, with an earlier member, q, by these arrivals: the first that was sent past the
-- sender's permanent position; in a checkpoint only if it was received within the new position
abbrev pub arrived_link : Past → ℕ → Kind → ℕ → ℕ → List Arrival → Option ℕ
arrived_link s k Checkpoint p q arrivals = message_within_new (s.new k q) (first_past arrivals (s.permanent p))
arrived_link s k Rollback p q arrivals = message_of (first_past arrivals (s.permanent q))
