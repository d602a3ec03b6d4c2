-- Runs that were worked out by hand, in which labels are not the numbers of messages.
use Rattle.std.specs.Prelude.{List, [], ◌∷◌, ◌++◌, true, false, pos}
use Rattle.kt_protocol.specs.States.{ProtocolStep, Send, Begin, Take}

-- 0 sent 1 two messages, the second after its checkpoint, and begins a rollback
abbrev pub asks_to_roll_back : List ProtocolStep
asks_to_roll_back =
    Send 0 1 (pos 5) ∷
    Take 1 0 true ∷
    Begin 1 false true ∷
    Take 0 1 true ∷
    Take 1 0 true ∷
    Take 0 1 true ∷
    Send 1 0 (pos 8) ∷
    Send 2 1 (pos 6) ∷
    Take 1 2 true ∷
    Send 0 1 (pos 9) ∷
    Begin 0 true true ∷
    []

-- 1 receives the second one, joins the rollback by the ask, notes its label and awaits the reply of 0
abbrev pub notes_label : List ProtocolStep
notes_label = asks_to_roll_back ++ Take 1 0 true ∷ Take 1 0 true ∷ []

-- all reply, 0 decides and closes, and so does 1
abbrev pub puts_back : List ProtocolStep
puts_back = notes_label ++ Take 0 1 true ∷ Take 0 1 true ∷ Take 1 0 true ∷ Take 0 1 true ∷ Take 1 0 true ∷ []
