-- Messages in transit, and the order in which they are received.
use Rattle.std.specs.Prelude.{◌≡◌, ◌≢◌, ℕ, ◌+◌, ◌<◌, ◌==◌, ◌&&◌, not, true, false, if◌then◌else◌, List, [], ◌∷◌, ◌++◌, drop}
use Rattle.kt_spacetime.specs.declared.deeds.Deed.{Deed}
use Rattle.kt_spacetime.specs.declared.deeds.Deed.TheVariants as deed
use Rattle.kt_meaning.specs.Past.{Past}
use Rattle.kt_meaning.specs.Legal.{has_deed}
use Rattle.kt_protocol.specs.Parcels.{Parcel, App, Lists, messages}
use Rattle.kt_protocol.specs.States.{State}

-- how often a message stands in a list
abbrev pub times : ℕ → List ℕ → ℕ
times m [] = 0
times m (x ∷ xs) = (if x == m then 1 else 0) + times m xs

-- each live message that is neither received nor dropped is in transit once, in its channel or held, and nothing else is
abbrev pub IsInTransit : Past → Lists → Lists → Type 0
IsInTransit s channel held = (m p q : ℕ) →
    times m (messages (channel p q)) + times m (messages (held p q)) ≡ (if has_deed (deed.Sent m q) (s.live p) && not (has_deed (deed.Received m p) (s.live q)) && not (s.dropped m) then 1 else 0)

-- what is kept for p is what its live history received past its permanent position, once each
abbrev pub IsKeptOfPast : Past → Lists → Type 0
IsKeptOfPast s kept = (m q p : ℕ) →
    times m (messages (kept q p)) ≡ (if has_deed (deed.Received m q) (drop (s.permanent p) (s.live p)) then 1 else 0)

-- the messages of q that a history received, in order
abbrev pub received_of : ℕ → List Deed → List ℕ
received_of q [] = []
received_of q (deed.Sent m x ∷ xs) = received_of q xs
received_of q (deed.Received m x ∷ xs) = if x == q then m ∷ received_of q xs else received_of q xs

-- the messages of q to p that are in transit: those that p holds, then those in the channel
abbrev pub in_transit : State → ℕ → ℕ → List ℕ
in_transit s q p = messages (s.held q p) ++ messages (s.channel q p)

-- each live message that was not dropped stands once: in its receiver's live history, held, or in its channel
abbrev pub EachStandsOnce : Past → State → Type 0
EachStandsOnce h s = (m p q : ℕ) → has_deed (deed.Sent m q) (h.live p) ≡ true → h.dropped m ≡ false →
    times m (received_of p (h.live q) ++ in_transit s p q) ≡ 1

-- numbers above low that rise
abbrev pub NumbersRiseAbove : ℕ → List ℕ → Type 0
NumbersRiseAbove low [] = Unit {0}
NumbersRiseAbove low (x ∷ xs) = (low < x) × NumbersRiseAbove x xs

-- no message is in front
abbrev pub HasNoMessage : List Parcel → Type 0
HasNoMessage l = (m : ℕ) (rest : List Parcel) → l ≢ App m ∷ rest
