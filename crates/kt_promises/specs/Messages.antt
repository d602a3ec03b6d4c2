-- What is held or kept: messages from one process to another.
use Rattle.std.specs.Prelude.{◌≡◌, ℕ, Some, List, [], ◌∷◌}
use Rattle.kt_fifo.specs.declared.parcels.Parcel.{Parcel}
use Rattle.kt_fifo.specs.declared.parcels.Parcel.TheVariants.{App}
use Rattle.kt_spacetime.specs.declared.event.Event.{Event}
use Rattle.kt_spacetime.specs.declared.event.Event.TheVariants.{Sent}
use Rattle.kt_meaning.specs.Messages.{row_at}
use Rattle.kt_machine.specs.Messages.{label_by_rows}

-- it is a message that p sent to q, with the label and the body that its row gives it
abbrev pub IsMessageTo : ℕ → List Event → ℕ → ℕ → Parcel → Type 0
IsMessageTo first log p q (App label m body) =
    (row_at log m ≡ Some (Sent p q body)) × (label ≡ label_by_rows first log p m)
IsMessageTo first log p q _ = ⊥

-- so is each of some parcels
abbrev pub AreMessagesTo : ℕ → List Event → ℕ → ℕ → List Parcel → Type 0
AreMessagesTo first log p q [] = Unit {0}
AreMessagesTo first log p q (x ∷ xs) = IsMessageTo first log p q x × AreMessagesTo first log p q xs
