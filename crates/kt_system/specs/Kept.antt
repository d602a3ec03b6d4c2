-- What becomes of the lists of parcels kept and held for a process when it closes its instance.
use Rattle.std.specs.Prelude.{ℕ, ◌==◌, ◌&&◌, nat_lt, if◌then◌else◌, Option, [], ◌++◌, length}
use Rattle.kt_machine.specs.Seen.{SeenLists}
use Rattle.kt_machine.specs.ListChanges.{low}

-- how many parcels of each sender are kept for p
abbrev pub kept_of : SeenLists → ℕ → ℕ → ℕ
kept_of kept p q = length (kept q p)

-- the lists to p without what is above the label that is noted of their senders
unfoldable pub lowered : ℕ → (ℕ → Option ℕ) → SeenLists → SeenLists
lowered p noted lists q u = if u == p then low (noted q) (lists q u) else lists q u

-- of the senders below n, what is kept for p goes before what is held, both without what is above the noted label
unfoldable pub put_back : ℕ → ℕ → (ℕ → Option ℕ) → SeenLists → SeenLists → SeenLists
put_back n p noted kept held q u = if u == p && nat_lt q n then low (noted q) (kept q u) ++ low (noted q) (held q u) else held q u

-- of the senders below n, nothing is kept for p
unfoldable pub emptied : ℕ → ℕ → SeenLists → SeenLists
emptied n p kept q u = if u == p && nat_lt q n then [] else kept q u
