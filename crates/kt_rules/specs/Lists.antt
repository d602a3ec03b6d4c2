-- What a history has of one kind of deed, as lists of messages.
use Rattle.std.specs.Prelude.{ℕ, ◌-◌, ◌<◌, ◌==◌, if◌then◌else◌, Option, Some, None, List, length, slice_get, AllPairs}
use Rattle.std.specs.List.{filter_map}
use Rattle.kt_spacetime.specs.declared.deeds.Deed.{Deed}
use Rattle.kt_spacetime.specs.declared.deeds.Deed.TheVariants as deed

-- the message that a deed sends
abbrev pub message_sent : Deed → Option ℕ
message_sent (deed.Sent msg to) = Some msg
message_sent (deed.Received msg from) = None

-- the message that a deed receives from this sender
abbrev pub message_from : ℕ → Deed → Option ℕ
message_from q (deed.Sent msg to) = None
message_from q (deed.Received msg from) = if from == q then Some msg else None

-- the messages that a history sends, in order
abbrev pub sent_in : List Deed → List ℕ
sent_in deeds = filter_map message_sent deeds

-- the messages that a history receives from this sender, in order
abbrev pub received_in : ℕ → List Deed → List ℕ
received_in q deeds = filter_map (message_from q) deeds

-- the last of a list
abbrev pub last_of : List ℕ → Option ℕ
last_of xs = slice_get xs (length xs - 1)

-- a list whose numbers rise
abbrev pub NumbersRise : List ℕ → Type 0
NumbersRise xs = AllPairs (λ x y. x < y) xs
