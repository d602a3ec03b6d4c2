-- One process as its manager has it.
use Rattle.std.specs.Prelude.{◌≡◌, ◌<◌, ◌≤◌, ℕ, Bool, true, false, Option, Some, None, length}
use Rattle.kt_base.specs.Sets.{has}
use Rattle.kt_process.specs.Parts.{Part}
use Rattle.kt_tables.specs.States.{State}
use Rattle.kt_tables.specs.Peers.{label_of}
use Rattle.kt_process.specs.declared.side.Side.{Side}
use Rattle.kt_process.specs.declared.side.Side.TheVariants.{Checkpoint, Rollback}

-- its tables, its part in an instance if it is in one, whether its object is up, and the last label that it used
pub record ProcessState : Type 0 where
  pub tables : State
  pub side : Option Side
  pub up : Bool
  pub used : ℕ

-- its part, and whether it is in a checkpoint, in a rollback
abbrev pub part_of_side : Option Side → Option Part
part_of_side None = None
part_of_side (Some (Checkpoint side)) = Some side.part
part_of_side (Some (Rollback side)) = Some side.part

abbrev pub is_saving : Option Side → Bool
is_saving None = false
is_saving (Some (Checkpoint side)) = true
is_saving (Some (Rollback side)) = false

abbrev pub is_ready : Option Side → Bool
is_ready None = false
is_ready (Some (Checkpoint side)) = false
is_ready (Some (Rollback side)) = true

abbrev pub inst_of_part : Option Part → Option ℕ
inst_of_part None = None
inst_of_part (Some part) = Some part.inst

-- the instance that it is in
abbrev pub inst_of : Option Side → Option ℕ
inst_of side = inst_of_part (part_of_side side)

-- whom it asked in the instance that it is in
abbrev pub asked_of_part : Option Part → ℕ → Bool
asked_of_part None q = false
asked_of_part (Some part) q = has part.asked q

abbrev pub asked_of : Option Side → ℕ → Bool
asked_of side q = asked_of_part (part_of_side side) q

-- its parent is another process that is there
abbrev pub IsPeer : ℕ → Option ℕ → Type 0
IsPeer n None = Unit {0}
IsPeer n (Some q) = q < n

-- those that a part names are there
abbrev pub IsNear : ℕ → Option Part → Type 0
IsNear n None = Unit {0}
IsNear n (Some part) = ((q : ℕ) → has part.asked q ≡ true → q < n) × IsPeer n part.parent

-- there is a mark for each process; there is room for a note of each process
abbrev pub HasMarks : ℕ → Option Side → Type 0
HasMarks n None = Unit {0}
HasMarks n (Some (Checkpoint side)) = length side.marks ≡ n
HasMarks n (Some (Rollback side)) = side.notes.processes ≡ n

-- instances have numbers from 1 on
abbrev pub IsNumbered : Option Part → Type 0
IsNumbered None = Unit {0}
IsNumbered (Some part) = 1 ≤ part.inst

-- a part in an instance belongs to tables
pub record SideFits (t : State) (side : Option Side) : Type 0 where
  pub tentative : t.is_tentative ≡ is_saving side
  pub near : IsNear t.processes (part_of_side side)
  pub marked : HasMarks t.processes side

-- tables, part and labels belong together
pub record ProcessFits (x : ProcessState) : Type 0 where
  pub few : x.tables.processes ≤ 64
  pub tentative : x.tables.is_tentative ≡ is_saving x.side
  pub near : IsNear x.tables.processes (part_of_side x.side)
  pub marked : HasMarks x.tables.processes x.side
  pub numbered : IsNumbered (part_of_side x.side)
  pub used : (q : ℕ) → label_of x.tables.last_out q ≤ x.used
