-- What lists of parcels become.
use Rattle.std.specs.Prelude.{ℕ, ◌==◌, ◌&&◌, if◌then◌else◌, Bool, true, false, Option, Some, None, List, [], ◌∷◌, ◌++◌, drop}
use Rattle.kt_base.specs.declared.words.Kind.{Kind}
use Rattle.kt_fifo.specs.declared.parcels.Parcel.{Parcel}
use Rattle.kt_fifo.specs.declared.parcels.Parcel.TheVariants.{Ask, Decide}
use Rattle.kt_fifo.specs.Parcels.{without_above}
use Rattle.kt_machine.specs.Seen.{SeenLists}

-- with one more parcel from p to q
unfoldable pub with_parcel : SeenLists → ℕ → ℕ → Parcel → SeenLists
with_parcel lists p q x u v = if u == p && v == q then lists u v ++ x ∷ [] else lists u v

-- with this rest of the list from q to p
unfoldable pub with_rest : SeenLists → ℕ → ℕ → List Parcel → SeenLists
with_rest lists q p rest u v = if u == q && v == p then rest else lists u v

-- with p's asks to join instance k, to each process that passes the test, with its label
unfoldable pub with_asks_where : SeenLists → ℕ → ℕ → Kind → (ℕ → Bool) → (ℕ → ℕ) → SeenLists
with_asks_where lists p k kind asked label u v = if u == p && asked v then lists u v ++ Ask k kind (label v) ∷ [] else lists u v

-- with the decision of k, told by p to each process that it asked
unfoldable pub with_decisions : SeenLists → ℕ → ℕ → Bool → (ℕ → Bool) → SeenLists
with_decisions lists p k c asked u v = if u == p && asked v then lists u v ++ Decide k c ∷ [] else lists u v

-- the lists kept for p once it closes a checkpoint: a commit forgets the first messages of each sender, as many as are marked
abbrev pub trims : Bool → ℕ → (ℕ → ℕ) → SeenLists → SeenLists
trims true p marks kept q u = if u == p then drop (marks q) (kept q u) else kept q u
trims false p marks kept q u = kept q u

-- what is not above the noted label, if one was noted
abbrev pub low : Option ℕ → List Parcel → List Parcel
low None parcels = parcels
low (Some most) parcels = without_above most parcels
