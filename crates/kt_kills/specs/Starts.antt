-- Which sends a process has to make again when it comes back.
use Rattle.std.specs.Prelude.{◌≡◌, ℕ, true, List, [], ◌∷◌, ◌++◌, map}
use Rattle.kt_manager.specs.declared.parcels.NodeParcel.{NodeParcel}
use Rattle.kt_node.specs.Clocks.{Envelope}
use Rattle.kt_kills.specs.KilledNets.{Holdings, KilledNet, KillEvent, Back, sending_again, happens}

abbrev pub parcels : List Envelope → List NodeParcel
parcels es = map (λ e. e.parcel) es

-- a list is the front of another one
abbrev pub IsFront : {X : Type 0} → List X → List X → Type 0
IsFront {X} front whole = (rest : List X) × (whole ≡ front ++ rest)

-- what each other process has taken of p is a front of these put lists, without clocks; of who is away it is what its disk has
abbrev pub KnowsWhatWasTaken : KilledNet → ℕ → Holdings → Type 0
KnowsWhatWasTaken w p h = (q : ℕ) → IsFront (parcels ((w.memory q).took p)) (parcels (h.put q))

-- who was killed comes back with sends so that it knows what was taken of it; the rest that a host has to keep stands at the head
-- of `KilledNets`, and is in the events
abbrev pub IsRight : KilledNet → KillEvent → Type 0
IsRight w (Back p sends) = (w.away p ≡ true) × KnowsWhatWasTaken w p (sending_again p (w.memory p) sends)
IsRight w _ = Unit {0}

-- so does everybody who comes back among these events
abbrev pub AreRight : KilledNet → List KillEvent → Type 0
AreRight w [] = Unit {0}
AreRight w (e ∷ es) = IsRight w e × AreRight (happens w e) es
