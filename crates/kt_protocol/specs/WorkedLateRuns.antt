-- Runs that were worked out by hand, in which a state differs from that of the protocol's machine between a decided row and
-- a closed row.
use Rattle.std.specs.Prelude.{List, [], ◌∷◌, true, false, pos}
use Rattle.kt_protocol.specs.States.{ProtocolStep, Send, Begin, Take}

-- 1 has decided and closed a checkpoint of 0 and 1; 0 has not closed it, and received a message of 2 since
abbrev pub receives_before_closing : List ProtocolStep
receives_before_closing =
    Send 1 0 (pos 5) ∷
    Take 0 1 true ∷
    Send 2 0 (pos 6) ∷
    Send 0 1 (pos 7) ∷
    Take 1 0 true ∷
    Begin 1 false true ∷
    Take 0 1 true ∷
    Take 1 0 true ∷
    Take 0 1 true ∷
    Take 1 0 true ∷
    Take 0 2 true ∷
    []

-- 0 has decided and closed a rollback of 0 and 1; 1 has not closed it, and held a message of 2 since
abbrev pub holds_before_closing : List ProtocolStep
holds_before_closing =
    Send 0 1 (pos 5) ∷
    Take 1 0 true ∷
    Send 2 1 (pos 6) ∷
    Take 1 2 true ∷
    Send 2 1 (pos 7) ∷
    Begin 0 true true ∷
    Take 1 0 true ∷
    Take 0 1 true ∷
    Take 1 2 true ∷
    []
