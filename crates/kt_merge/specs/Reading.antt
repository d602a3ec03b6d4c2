-- What callers see of a reader of a part.
use Rattle.std.specs.Prelude.{◌≡◌, ◌<◌, ◌≤◌, ◌+◌, ℕ, Bool, true, false, List, [], Option, Some, None, option_map, Result, Ok, Err, IfSome}
use Rattle.kt_text.specs.Records.{FieldsTaken, text_records}
use Rattle.kt_merge.specs.declared.part_fault.PartFault.{PartFault}
use Rattle.kt_spacetime.specs.declared.named_rows.ClockedRow.{ClockedRow}
use Rattle.kt_merge.specs.Spelling.{part_spelling}
use Rattle.kt_merge.specs.Texts.{part_width, max_records, IsSpellable, IsPartFaultFrom}

-- the records that are left, where the reader tells its bytes; whose part it is; how many rows it gave, and the clock of the
-- last one; the fault that stopped it; whether it came to the end
pub record PartRead : Type 0 where
  pub left : Option (List (List (List ℕ)))
  pub process : ℕ
  pub count : ℕ
  pub clock : ℕ
  pub fault : Option PartFault
  pub ended : Bool

-- the records of bytes, where they are known
abbrev pub part_records : Option (List ℕ) → Option (List (List (List ℕ)))
part_records bytes = option_map (text_records part_width) bytes

-- before the first record of these bytes
abbrev pub part_unread : ℕ → Option (List ℕ) → PartRead
part_unread p bytes = record { left = part_records bytes; process = p; count = 0; clock = 0; fault = None; ended = false }

-- no record was read yet of some bytes
abbrev pub IsPartUnread : PartRead → Type 0
IsPartUnread part = (source : Option (List ℕ)) × (part ≡ part_unread part.process source)

-- a row was given: the next one of the text
pub record GivesPartRow (old new : PartRead) (row : ClockedRow) : Type 0 where
  pub takes : FieldsTaken old.left new.left (part_spelling row)
  pub spellable : IsSpellable row
  pub rises : old.clock ≤ row.clock
  pub own : row.row.p ≡ old.process
  pub few : old.count < max_records
  pub counted : new.count ≡ old.count + 1
  pub clock : new.clock ≡ row.clock
  pub process : new.process ≡ old.process
  pub going : (old.fault ≡ None) × (old.ended ≡ false) × (new.fault ≡ None) × (new.ended ≡ false)

-- the end was met: no row is left
pub record MeetsPartEnd (old new : PartRead) : Type 0 where
  pub ended : new.ended ≡ true
  pub still : (old.fault ≡ None) × (new.fault ≡ None) × (new.count ≡ old.count) × (new.clock ≡ old.clock) × (new.process ≡ old.process)
  pub nothing_left : old.ended ≡ false → IfSome old.left (λ left. left ≡ [])

-- a fault was met: what is first wrong in what is left
pub record MeetsPartFault (old new : PartRead) (fault : PartFault) : Type 0 where
  pub kept : new.fault ≡ Some fault
  pub still : (new.count ≡ old.count) × (new.clock ≡ old.clock) × (new.process ≡ old.process)
  pub first : old.fault ≡ None → IfSome old.left (λ left. IsPartFaultFrom old.process old.count old.clock left fault)

-- what one call gives
abbrev pub StepsPart : PartRead → PartRead → Result (Option ClockedRow) PartFault → Type 0
StepsPart old new (Ok (Some row)) = GivesPartRow old new row
StepsPart old new (Ok None) = MeetsPartEnd old new
StepsPart old new (Err fault) = MeetsPartFault old new fault
