-- What may stand in a field of a part's record.
use Rattle.std.specs.Prelude.{ℕ, List}

-- what may stand in a field; a name of a process's own has that process as it is spelled in another field
pub data PartSlot : Type 0 where
  clock : PartSlot
  process : PartSlot
  message : List ℕ → PartSlot
  own_instance : List ℕ → PartSlot
  instance : PartSlot
  body : PartSlot
  nothing : PartSlot
  kind : PartSlot
  decision : PartSlot
  verb : PartSlot
  cause : PartSlot
