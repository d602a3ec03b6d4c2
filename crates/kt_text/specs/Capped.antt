-- A text up to the comma with which a record has too many fields.
use Rattle.std.specs.Prelude.{◌-◌, ◌==◌, ◌||◌, if◌then◌else◌, ℕ, Bool, zero, suc, List, [], ◌∷◌, Option, Some, option_map}
use Rattle.kt_text.specs.declared.capped.Spot.{Spot}
use Rattle.kt_text.specs.declared.capped.Spot.TheVariants.{Start, AfterOne, AfterTwo, Open, Plain, Quoted}
use Rattle.kt_text.specs.declared.capped.Capped.{Capped}

-- a byte ends a line
abbrev pub ends_line : ℕ → Bool
ends_line byte = (byte == 13) || (byte == 10)

-- outside quotes, after a byte that is no quote or stands for itself
abbrev pub spot_outside : ℕ → Spot
spot_outside byte = if (byte == 44) || ends_line byte then Open else Plain

-- where a quote counts
abbrev pub spot_opened : ℕ → Spot
spot_opened byte = if byte == 34 then Quoted else spot_outside byte

-- where a text goes on after a byte
abbrev pub spot_after : Spot → ℕ → Spot
spot_after Start byte = if byte == 0xEF then AfterOne else spot_opened byte
spot_after AfterOne byte = if byte == 0xBB then AfterTwo else spot_outside byte
spot_after AfterTwo byte = if byte == 0xBF then Open else spot_outside byte
spot_after Open byte = spot_opened byte
spot_after Plain byte = spot_outside byte
spot_after Quoted byte = if byte == 34 then Open else Quoted

-- outside quotes a comma takes one of the commas that may come yet, and the end of a line gives all back
abbrev pub room_outside : ℕ → ℕ → ℕ → ℕ
room_outside width room byte = if byte == 44 then room - 1 else (if ends_line byte then width else room)

-- with how many commas more a record has too many fields, after a byte
abbrev pub room_after : ℕ → Spot → ℕ → ℕ → ℕ
room_after width Start room byte = room_outside width room byte
room_after width AfterOne room byte = room_outside width room byte
room_after width AfterTwo room byte = room_outside width room byte
room_after width Open room byte = room_outside width room byte
room_after width Plain room byte = room_outside width room byte
room_after width Quoted room byte = room

-- the bytes up to the comma with which a record has too many fields, where its line ends
unfoldable pub front : ℕ → Spot → ℕ → List ℕ → List ℕ
front width spot zero bytes = 10 ∷ []
front width spot (suc room) [] = []
front width spot (suc room) (byte ∷ rest) = byte ∷ front width (spot_after spot byte) (room_after width spot (suc room) byte) rest

-- the bytes that are left, where those of the reader underneath are known
abbrev pub capped_left : {R : Type 0} → (R → Option (List ℕ)) → Capped R → Option (List ℕ)
capped_left remaining capped = if capped.is_over then Some [] else option_map (λ bytes. front capped.width capped.spot capped.room bytes) (remaining capped.source)
