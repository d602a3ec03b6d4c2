-- Where the messages of a run are, by what code has.
use Rattle.std.specs.Prelude.{◌≡◌, ℕ, true, false, List, [], ◌∷◌, ◌++◌, drop}
use Rattle.kt_fifo.specs.declared.parcels.Parcel.{Parcel}
use Rattle.kt_fifo.specs.declared.parcels.Parcel.TheVariants.{App}
use Rattle.kt_meaning.specs.Past.{past}
use Rattle.kt_meaning.specs.Legal.{has_deed}
use Rattle.kt_spacetime.specs.declared.deeds.Deed.TheVariants as deed
use Rattle.kt_protocol.specs.InTransit.{times, received_of}
use Rattle.kt_machine.specs.Seen.{Seen}
use Rattle.kt_machine.specs.Done.{done}

-- the messages of a list of parcels, in order
abbrev pub messages_among : List Parcel → List ℕ
messages_among [] = []
messages_among (App l m body ∷ xs) = m ∷ messages_among xs
messages_among (_ ∷ xs) = messages_among xs

-- the messages of p to q that q has received itself, that it holds, and that are in the channel
abbrev pub message_line : Seen → ℕ → ℕ → List ℕ
message_line v p q = received_of p ((done v.log).own q) ++ (messages_among (v.held p q) ++ messages_among (v.channel p q))

-- each live message that isn't dropped stands there once
abbrev pub EachIsOnceOnItsLine : Seen → Type 0
EachIsOnceOnItsLine v = (m p q : ℕ) → has_deed (deed.Sent m q) ((past v.log).live p) ≡ true →
    (past v.log).dropped m ≡ false → times m (message_line v p q) ≡ 1

-- what is kept of a sender is what its receiver has received of it past its own permanent position, in order
abbrev pub RetainsReceived : Seen → Type 0
RetainsReceived v = (p q : ℕ) →
    messages_among (v.kept q p) ≡ received_of q (drop ((done v.log).permanent p) ((done v.log).own p))
