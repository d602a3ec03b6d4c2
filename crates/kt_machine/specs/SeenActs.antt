-- The acts of the process that steps, by what code keeps of the state before the step.
use Rattle.std.specs.Prelude.{ℕ, ℤ, ◌==◌, ◌&&◌, not, if◌then◌else◌, Bool, true, false, Option, Some, None, List, [], ◌∷◌}
use Rattle.kt_fifo.specs.declared.parcels.Parcel.{Parcel}
use Rattle.kt_fifo.specs.declared.parcels.Parcel.TheVariants.{App, Ask, Reply, Decide}
use Rattle.kt_meaning.specs.Past.{is_rollback_kind}
use Rattle.kt_tables.specs.Peers.{count_peers}
use Rattle.kt_protocol.specs.States.{ProtocolStep, Send, Begin, Fail, Take}
use Rattle.kt_machine.specs.Seen.{SeenPart, Seen}
use Rattle.kt_machine.specs.CallTests.{must_take, is_asked_in_checkpoint, is_asked_in_rollback}
use Rattle.kt_machine.specs.SeenReplies.{part_after_reply}
use Rattle.kt_machine.specs.Transition.{is_seen_ready}
use Rattle.kt_machine.specs.Values.{Act, Apply, Keep, Drop, closing}

-- p gets a message of q with this body, and applies it where it is up
abbrev pub seen_acts_arriving : Seen → ℕ → ℕ → ℤ → List Act
seen_acts_arriving v p q body = if (v.states p).up then Apply q body ∷ [] else []

-- who has a parent answers it; an initiator decides, and closes its instance
abbrev pub seen_acts_ending : SeenPart → Option ℕ → List Act
seen_acts_ending part (Some to) = []
seen_acts_ending part None = closing part.is_rollback part.willing

-- so it does with this part once it awaits nobody
abbrev pub seen_acts_settling : SeenPart → List Act
seen_acts_settling part = if part.awaited == 0 then seen_acts_ending part part.parent else []

-- p takes q's ask to join k, a rollback or not: who joins a checkpoint keeps its object's state, and decides nothing
abbrev pub seen_acts_asked : Seen → ℕ → ℕ → Bool → ℕ → Bool → ℕ → List Act
seen_acts_asked v p q able k roll label =
    if (v.states p).inst == k then []
    else if not ((v.states p).inst == 0) then []
    else if roll then []
    else if not (must_take (v.states p).calls q label) then []
    else if not (able && (v.states p).up) then []
    else Keep ∷ []

-- p takes a reply that it awaits
abbrev pub seen_acts_replied : Seen → ℕ → Bool → List Act
seen_acts_replied v p w = if (v.states p).part.awaited == 0 then [] else seen_acts_settling (part_after_reply (v.states p).part w)

-- p takes the decision of k
abbrev pub seen_acts_decided : Seen → ℕ → ℕ → Bool → List Act
seen_acts_decided v p k c = if (v.states p).inst == k then closing (v.states p).part.is_rollback c else []

-- p takes the channel's front
abbrev pub seen_acts_taking : Seen → ℕ → ℕ → Bool → List Parcel → List Act
seen_acts_taking v p q able [] = []
seen_acts_taking v p q able (App label m body ∷ rest) = if is_seen_ready v p then [] else seen_acts_arriving v p q body
seen_acts_taking v p q able (Ask k kind label ∷ rest) = seen_acts_asked v p q able k (is_rollback_kind (Some kind)) label
seen_acts_taking v p q able (Reply k w ∷ rest) = seen_acts_replied v p w
seen_acts_taking v p q able (Decide k c ∷ rest) = seen_acts_decided v p k c

-- p takes what it holds first
abbrev pub seen_acts_taking_held : Seen → ℕ → ℕ → Bool → List Parcel → List Act
seen_acts_taking_held v p q able [] = seen_acts_taking v p q able (v.channel q p)
seen_acts_taking_held v p q able (App label m body ∷ rest) = seen_acts_arriving v p q body
seen_acts_taking_held v p q able (Ask k kind label ∷ rest) = []
seen_acts_taking_held v p q able (Reply k w ∷ rest) = []
seen_acts_taking_held v p q able (Decide k c ∷ rest) = []

-- p begins an instance: a checkpoint keeps its object's state; who asks nobody commits at once
abbrev pub seen_acts_beginning : Seen → ℕ → Bool → List Act
seen_acts_beginning v p false = Keep ∷ (if count_peers v.processes (is_asked_in_checkpoint (v.states p).calls) == 0 then closing false true else [])
seen_acts_beginning v p true = if count_peers v.processes (is_asked_in_rollback (v.states p).calls) == 0 then closing true true else []

-- a command to begin, of a process in no instance: a checkpoint needs an object that can be saved
abbrev pub seen_acts_starting : Seen → ℕ → Bool → Bool → List Act
seen_acts_starting v p true able = seen_acts_beginning v p true
seen_acts_starting v p false able = if able && (v.states p).up then seen_acts_beginning v p false else []

-- the acts of the process that steps, in order
abbrev pub seen_acts : Seen → ProtocolStep → List Act
seen_acts v (Send p q body) = []
seen_acts v (Begin p roll able) = if (v.states p).inst == 0 then seen_acts_starting v p roll able else []
seen_acts v (Fail p) = if (v.states p).up then Drop ∷ [] else []
seen_acts v (Take p q able) = if is_seen_ready v p then seen_acts_taking v p q able (v.channel q p) else seen_acts_taking_held v p q able (v.held q p)
