-- The label and the body that a message has by its row.
use Rattle.std.specs.Prelude.{◌≡◌, ℕ, ◌+◌, ◌==◌, if◌then◌else◌, Bool, false, Some, List, [], ◌∷◌, take}
use Rattle.kt_fifo.specs.declared.parcels.Parcel.{Parcel}
use Rattle.kt_fifo.specs.declared.parcels.Parcel.TheVariants.{App, Ask, Reply, Decide}
use Rattle.kt_spacetime.specs.declared.event.Event.{Event}
use Rattle.kt_spacetime.specs.declared.event.Event.TheVariants.{Sent, Received, Dropped, Began, Took, Ready, Unwilling, Decided, Closed, Failed, Refused}
use Rattle.kt_meaning.specs.Messages.{row_at}

-- p sent a message by this row
abbrev pub is_send_of : ℕ → Event → Bool
is_send_of p (Sent q to body) = q == p
is_send_of p (Received q from m) = false
is_send_of p (Dropped q from m) = false
is_send_of p (Began q k kind) = false
is_send_of p (Took q k) = false
is_send_of p (Ready q k) = false
is_send_of p (Unwilling q k cause) = false
is_send_of p (Decided q k c) = false
is_send_of p (Closed q k) = false
is_send_of p (Failed q) = false
is_send_of p (Refused q verb cause) = false

-- how many messages p sent by some rows
abbrev pub sends_of : ℕ → List Event → ℕ
sends_of p [] = 0
sends_of p (row ∷ rows) = (if is_send_of p row then 1 else 0) + sends_of p rows

-- the label of p's message m: how many messages p sent up to m, from the label on that its counter begins after
abbrev pub label_by_rows : ℕ → List Event → ℕ → ℕ → ℕ
label_by_rows first log p m = first + sends_of p (take m log)

-- if it is a message, p sent it to q, and it has the label and the body that its row gives it
abbrev pub IsSentTo : ℕ → List Event → ℕ → ℕ → Parcel → Type 0
IsSentTo first log p q (App label m body) = (row_at log m ≡ Some (Sent p q body)) × (label ≡ label_by_rows first log p m)
IsSentTo first log p q (Ask k kind label) = Unit {0}
IsSentTo first log p q (Reply k w) = Unit {0}
IsSentTo first log p q (Decide k c) = Unit {0}

-- so it is with each of some parcels
abbrev pub AreSentTo : ℕ → List Event → ℕ → ℕ → List Parcel → Type 0
AreSentTo first log p q [] = Unit {0}
AreSentTo first log p q (x ∷ xs) = IsSentTo first log p q x × AreSentTo first log p q xs

-- it is a message that p sent, to whomever, with the label and the body that its row gives it
abbrev pub IsMessageBy : ℕ → List Event → ℕ → Parcel → Type 0
IsMessageBy first log p (App label m body) = (to : ℕ) × (row_at log m ≡ Some (Sent p to body)) × (label ≡ label_by_rows first log p m)
IsMessageBy first log p (Ask k kind label) = ⊥
IsMessageBy first log p (Reply k w) = ⊥
IsMessageBy first log p (Decide k c) = ⊥

-- so it is with each of some parcels
abbrev pub AreMessagesBy : ℕ → List Event → ℕ → List Parcel → Type 0
AreMessagesBy first log p [] = Unit {0}
AreMessagesBy first log p (x ∷ xs) = IsMessageBy first log p x × AreMessagesBy first log p xs
