-- The transitions of replying, of taking a reply and of answering.
use Rattle.std.specs.Prelude.{ℕ, ◌-◌, ◌&&◌, Bool, false, List, [], ◌∷◌, ◌++◌}
use Rattle.kt_base.specs.declared.words.Cause.{Cause}
use Rattle.kt_fifo.specs.declared.parcels.Parcel.{Parcel}
use Rattle.kt_fifo.specs.declared.parcels.Parcel.TheVariants.{Reply}
use Rattle.kt_spacetime.specs.declared.event.Event.TheVariants.{Unwilling}
use Rattle.kt_meaning.specs.Past.{at_one}
use Rattle.kt_machine.specs.Seen.{SeenPart, Seen}
use Rattle.kt_machine.specs.ListChanges.{with_parcel, with_rest}

-- p replies to q's ask at once
abbrev pub seen_replying : Seen → ℕ → ℕ → ℕ → Bool → List Parcel → Seen
seen_replying v p q k w rest = record v { channel = with_parcel (with_rest v.channel q p rest) p q (Reply k w) }

-- p is unwilling to join k, and tells q so
abbrev pub seen_unwilling : Seen → ℕ → ℕ → ℕ → Cause → List Parcel → Seen
seen_unwilling v p q k cause rest = record v { channel = with_parcel (with_rest v.channel q p rest) p q (Reply k false); log = v.log ++ Unwilling p k cause ∷ [] }

-- a part after one more reply
abbrev pub part_after_reply : SeenPart → Bool → SeenPart
part_after_reply part w = record part { awaited = part.awaited - 1; willing = part.willing && w }

-- p takes q's reply
abbrev pub seen_reply : Seen → ℕ → ℕ → Bool → List Parcel → Seen
seen_reply v p q w rest =
    record v { states = at_one p (record (v.states p) { part = part_after_reply (v.states p).part w }) v.states; channel = with_rest v.channel q p rest }

-- p answers its parent, willing where all replies to it were
abbrev pub seen_answering : Seen → ℕ → ℕ → ℕ → Seen
seen_answering v p k to = record v { channel = with_parcel v.channel p to (Reply k (v.states p).part.willing) }
