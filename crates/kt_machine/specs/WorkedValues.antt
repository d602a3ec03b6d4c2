-- Runs that were worked out by hand.
use Rattle.std.specs.Prelude.{ℤ, pos, true, false, List, [], ◌∷◌, ◌++◌, length}
use Rattle.kt_protocol.specs.States.{ProtocolStep, Send, Begin, Fail, Take}
use Rattle.kt_machine.specs.Values.{Rules}

-- an object that keeps all bodies, and offers how many it has
abbrev pub all_bodies : Rules (List ℤ)
all_bodies = record { opening = []; after = λ v from body. v ++ body ∷ []; offered = λ v. pos (length v) }

-- 1 begins a checkpoint and 0 joins it; 1 has closed it, and 0 has not and received a message of 2 since
abbrev pub receives_before_closing : List ProtocolStep
receives_before_closing =
    Send 1 0 (pos 5) ∷
    Take 0 1 true ∷
    Send 2 0 (pos 6) ∷
    Send 0 1 (pos 7) ∷
    Take 1 0 true ∷
    Begin 1 false true ∷
    Take 0 1 true ∷
    Take 1 0 true ∷
    Take 0 1 true ∷
    Take 1 0 true ∷
    Take 0 2 true ∷
    []

-- 1 received messages of 0 and 2 and fails; 0 begins a rollback and 1 joins it
abbrev pub fails_and_is_restored : List ProtocolStep
fails_and_is_restored =
    Send 0 1 (pos 5) ∷
    Take 1 0 true ∷
    Send 2 1 (pos 6) ∷
    Take 1 2 true ∷
    Fail 1 ∷
    Begin 0 true true ∷
    Take 1 0 true ∷
    Take 0 1 true ∷
    Take 1 0 true ∷
    []

-- 1 begins a checkpoint, and the object of 0 cannot be saved
abbrev pub is_not_saved : List ProtocolStep
is_not_saved =
    Send 0 1 (pos 7) ∷
    Take 1 0 true ∷
    Begin 1 false true ∷
    Take 0 1 false ∷
    Take 1 0 true ∷
    []

-- each sends what its object offers: how many bodies it has
abbrev pub sends_offers : List ProtocolStep
sends_offers =
    Send 0 1 (pos 0) ∷
    Take 1 0 true ∷
    Send 1 0 (pos 1) ∷
    Take 0 1 true ∷
    Send 0 1 (pos 1) ∷
    []
