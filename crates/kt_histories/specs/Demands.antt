-- What the rules demand of a row.
use Rattle.std.specs.Prelude.{◌≡◌, ℕ, ◌+◌, ◌==◌, not, Bool, true, false, is_none, is_some, List, [], ◌∷◌, length}
use Rattle.std.specs.List.{list_all}
use Rattle.kt_base.specs.declared.words.Cause.TheVariants.{Busy}
use Rattle.kt_base.specs.declared.words.Kind.TheVariants.{Checkpoint, Rollback}
use Rattle.kt_spacetime.specs.declared.deeds.Deed.TheVariants as deed
use Rattle.kt_spacetime.specs.declared.event.Event.{Event}
use Rattle.kt_spacetime.specs.declared.event.Event.TheVariants as event
use Rattle.kt_meaning.specs.Past.{Past, is_checkpoint, is_rollback, is_member, initiator_of}
use Rattle.kt_meaning.specs.Legal.{follows, has_begun, has_deed, is_in, is_in_none, is_instance, is_later, is_rolling, refuses}
use Rattle.kt_histories.specs.declared.breach.demands.Demand.{Demand}
use Rattle.kt_histories.specs.declared.breach.demands.Demand.TheVariants.{Nothing, Never, OtherPeer, OtherCause, Next, Begun, Sent, NotReceived, NotDropped, AfterReceived, AfterDropped, Up, Down, Idle, NotRolling, Inside, NotInside, NotJoined, Follows, OfKind, Initiator, Undecided, Decided}

-- whether a process has sent another one a message, as its live history has it
abbrev pub has_sent : Past → ℕ → ℕ → ℕ → Bool
has_sent s p q msg = has_deed (deed.Sent msg q) (s.live p)

-- whether a process has received a message from another one, as its live history has it
abbrev pub has_received : Past → ℕ → ℕ → ℕ → Bool
has_received s q p msg = has_deed (deed.Received msg p) (s.live q)

-- whether what is demanded is so
abbrev pub asks : Demand → Past → Bool
asks Nothing s = true
asks Never s = false
asks (OtherPeer p peer) s = not (peer == p)
asks (OtherCause k j) s = not (j == k)
asks (Next k) s = k == length s.begun + 1
asks (Begun k) s = has_begun s k
asks (Sent p from msg) s = has_sent s from p msg
asks (NotReceived p from msg) s = not (has_received s p from msg)
asks (NotDropped msg) s = not (s.dropped msg)
asks (AfterReceived p from msg) s = list_all (is_later from msg) (s.live p)
asks (AfterDropped p from msg) s = list_all (is_later from msg) (s.dropped_since p)
asks (Up p) s = s.up p
asks (Down p) s = not (s.up p)
asks (Idle p) s = is_in_none s p
asks (NotRolling p) s = not (is_rolling s p)
asks (Inside p k) s = is_in s p k
asks (NotInside p k) s = not (is_in s p k)
asks (NotJoined p k) s = not (is_member s k p)
asks (Follows row) s = follows s.last row
asks (OfKind k Checkpoint) s = is_checkpoint s k
asks (OfKind k Rollback) s = is_rollback s k
asks (Initiator p k) s = is_instance (initiator_of s k) p
asks (Undecided k) s = is_none (s.decision k)
asks (Decided k) s = is_some (s.decision k)

-- whether all that is demanded is so
abbrev pub ask_all : List Demand → Past → Bool
ask_all list s = list_all (λ d. asks d s) list

-- a row's message is one of this process and that one
abbrev pub IsBetween : Event → ℕ → ℕ → Type 0
IsBetween (event.Sent p to body) q peer = (q ≡ p) × (peer ≡ to)
IsBetween (event.Received p from msg) q peer = (q ≡ p) × (peer ≡ from)
IsBetween (event.Dropped p from msg) q peer = (q ≡ p) × (peer ≡ from)
IsBetween row q peer = ⊥

-- a row refuses to join this instance, since its process is in that one
abbrev pub IsBusyFor : Event → ℕ → ℕ → Type 0
IsBusyFor (event.Unwilling p k (Busy j)) inst cause = (inst ≡ k) × (cause ≡ j)
IsBusyFor row inst cause = ⊥

-- a row refuses a command for a cause for which no such command is ever refused
abbrev pub IsNeverRefused : Event → Type 0
IsNeverRefused (event.Refused p verb cause) = (s : Past) → refuses s p verb cause ≡ false
IsNeverRefused row = ⊥

-- a demand that what is so before can't change is one on this row
abbrev pub IsDemandOn : Event → Demand → Type 0
IsDemandOn row (OtherPeer p peer) = IsBetween row p peer
IsDemandOn row (OtherCause k j) = IsBusyFor row k j
IsDemandOn row Never = IsNeverRefused row
IsDemandOn row demand = Unit {0}

abbrev pub AreDemandsOn : Event → List Demand → Type 0
AreDemandsOn row [] = Unit {0}
AreDemandsOn row (demand ∷ demands) = IsDemandOn row demand × AreDemandsOn row demands
