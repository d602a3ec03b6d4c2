-- The part of a process in an instance of rollback.
use Rattle.std.specs.Prelude.{◌≡◌, ◌⊎◌, ◌<◌, ℕ, Bool, true, false, Option, Some, None}
use Rattle.std.proofs.Common.{inl, inr}
use Rattle.std.specs.Borrow.{MutBor}
use Rattle.kt_process.specs.Parts.{Part}
use Rattle.kt_process.specs.Notes.{Noted, note_of, with_note}

-- what it has in any instance, and the labels noted
pub record RollSide : Type 0 where
  pub part : Part
  pub notes : Noted

abbrev pub part_of : Option RollSide → Option Part
part_of None = None
part_of (Some side) = Some side.part

-- a side that was lent has room for a note of a process
abbrev pub HasNoteRoom : ℕ → Option (MutBor RollSide) → Type 0
HasNoteRoom from None = Unit {0}
HasNoteRoom from (Some side) = from < side.now.notes.processes

-- a side after an ask: with a note of it, or as it was
pub record Notes (from label : ℕ) (old new : RollSide) : Type 0 where
  pub part : new.part ≡ old.part
  pub processes : new.notes.processes ≡ old.notes.processes
  pub noted : note_of new.notes ≡ with_note from label (note_of old.notes)

abbrev pub IsSideAfter : Bool → ℕ → ℕ → RollSide → RollSide → Type 0
IsSideAfter true from label old new = Notes from label old new
IsSideAfter false from label old new = new ≡ old

-- what the lender of a side finds there, if one was lent
abbrev pub Exit : Type 0
Exit = Unit {0} ⊎ ((MutBor RollSide × Unit {0}) ⊎ ⊥)

abbrev pub IsLeft : Bool → ℕ → ℕ → Option (MutBor RollSide) → Exit → Type 0
IsLeft notes from label None (inl nothing) = Unit {0}
IsLeft notes from label (Some side) (inr (inl left)) = (left.0.ghost_name ≡ side.ghost_name) × IsSideAfter notes from label side.now left.0.now
IsLeft notes from label side exit = ⊥
