-- Members, linking messages and chains.
use Rattle.std.specs.Prelude.{◌≡◌, ℕ, ◌==◌, Bool, true, Option, Some, None, is_some, if◌then◌else◌, List, [], ◌∷◌, take, drop, unwrap_or}
use Rattle.std.specs.List.{filter_map}
use Rattle.kt_spacetime.specs.declared.event.Event.{Event}
use Rattle.kt_spacetime.specs.declared.event.Event.TheVariants.{Took, Ready}
use Rattle.kt_spacetime.specs.declared.deeds.Deed.TheVariants as deed
use Rattle.kt_meaning.specs.Past.{Past}
use Rattle.kt_meaning.specs.Legal.{has_deed}

-- the process that joins an instance by a row
abbrev pub joins : ℕ → Event → Option ℕ
joins k (Took p j) = if j == k then Some p else None
joins k (Ready p j) = if j == k then Some p else None
joins k _ = None

-- the members of an instance, in the order of their took or ready rows
abbrev pub members : List Event → ℕ → List ℕ
members log k = filter_map (joins k) log

-- whether the message is sent by this process past its permanent position
abbrev pub is_sent_past : Past → ℕ → ℕ → ℕ → Bool
is_sent_past s p q msg = has_deed (deed.Sent msg q) (drop (s.permanent p) (s.live p))

-- whether the message from p is received by q within its new position of the instance
abbrev pub is_received_within : Past → ℕ → ℕ → ℕ → ℕ → Bool
is_received_within s k q p msg = has_deed (deed.Received msg p) (take (unwrap_or (s.new k q) 0) (s.live q))

-- a linking message of a checkpoint: p sent it past its permanent position, q received it within its new one
pub record LinksCheckpoint (s : Past) (k p q msg : ℕ) : Type 0 where
  pub sent : is_sent_past s p q msg ≡ true
  pub member : is_some (s.new k q) ≡ true
  pub received : is_received_within s k q p msg ≡ true

-- a linking message of a rollback: q sent it past its permanent position, p has received it
pub record LinksRollback (s : Past) (p q msg : ℕ) : Type 0 where
  pub sent : is_sent_past s q p msg ≡ true
  pub received : has_deed (deed.Received msg q) (s.live p) ≡ true

-- a chain of a checkpoint from q to p: the first message is received by q, each next one by the sender of the one
-- before, and the last one is sent by p
abbrev pub IsCheckpointChain : Past → ℕ → ℕ → List ℕ → ℕ → Type 0
IsCheckpointChain s k q [] p = q ≡ p
IsCheckpointChain s k q (msg ∷ rest) p = (x : ℕ) × LinksCheckpoint s k x q msg × IsCheckpointChain s k x rest p

-- a chain of a rollback from q to p: the first message is sent by q, each next one by the receiver of the one
-- before, and the last one is received by p
abbrev pub IsRollbackChain : Past → ℕ → List ℕ → ℕ → Type 0
IsRollbackChain s q [] p = q ≡ p
IsRollbackChain s q (msg ∷ rest) p = (x : ℕ) × LinksRollback s x q msg × IsRollbackChain s x rest p
