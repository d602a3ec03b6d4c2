-- Which rows have an arrow, and which receives last.
use Rattle.std.specs.Prelude.{◌≡◌, ◌≤◌, ℕ, Bool, true, List, take}
use Rattle.kt_spacetime.specs.declared.event.Event.{Event}
use Rattle.kt_spacetime.specs.declared.event.Event.TheVariants.{Received, Dropped}
use Rattle.kt_spacetime.specs.declared.deeds.Deed.TheVariants as deed
use Rattle.kt_meaning.specs.Past.{past}
use Rattle.kt_meaning.specs.Legal.{has_deed}
use Rattle.kt_picture.specs.Fates.{is_sent_in_transit}

-- whether a row of this number has an arrow: it takes a message, or sends one that is in transit after these rows
abbrev pub has_arrow : List Event → ℕ → Event → Bool
has_arrow upto n (Received p from msg) = true
has_arrow upto n (Dropped p from msg) = true
has_arrow upto n row = is_sent_in_transit upto n row

-- from a row of this number on, the receive of a message stays in its receiver's live history to the end of these rows
abbrev pub StaysReceived : List Event → ℕ → ℕ → ℕ → ℕ → Type 0
StaysReceived upto n p from msg = (m : ℕ) → n ≤ m → has_deed (deed.Received msg from) ((past (take m upto)).live p) ≡ true
