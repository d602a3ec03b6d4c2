-- What may stand in a field of a record.

-- what may stand in a field
pub data Slot : Type 0 where
  process : Slot
  instance : Slot
  message : Slot
  body : Slot
  nothing : Slot
  kind : Slot
  decision : Slot
  verb : Slot
  cause : Slot
