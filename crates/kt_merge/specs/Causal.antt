-- Rows of which each name was given before it is used.
use Rattle.std.specs.Prelude.{◌≡◌, ◌<◌, ◌⊎◌, ◌+◌, ℕ, Option, Some, None, List, [], ◌∷◌, slice_get}
use Rattle.kt_spacetime.specs.declared.named_rows.NamedCause.{NamedCause}
use Rattle.kt_spacetime.specs.declared.named_rows.NamedCause.TheVariants as own_cause
use Rattle.kt_spacetime.specs.declared.named_rows.NamedEvent.{NamedEvent}
use Rattle.kt_spacetime.specs.declared.named_rows.NamedEvent.TheVariants as own
use Rattle.kt_meaning.specs.Names.{name_of}
use Rattle.kt_merge.specs.declared.part_fault.PartFault.TheVariants as part
use Rattle.kt_spacetime.specs.declared.named_rows.ClockedRow.{ClockedRow}
use Rattle.kt_spacetime.specs.ClockedRows.{rows_of}
use Rattle.kt_merge.specs.declared.giver.Name.{Name}
use Rattle.kt_merge.specs.declared.giver.Name.TheVariants as name
use Rattle.kt_merge.specs.declared.fault.RowFault.TheVariants as wrong
use Rattle.kt_merge.specs.declared.fault.MergeFault.{MergeFault}
use Rattle.kt_merge.specs.declared.fault.MergeFault.TheVariants as merge

-- how many messages, and how many instances, a row gives a name
abbrev pub messages_given : NamedEvent → ℕ
messages_given (own.Sent to body label) = 1
messages_given _ = 0

abbrev pub instances_given : NamedEvent → ℕ
instances_given (own.Began inst kind) = 1
instances_given _ = 0

-- after so many messages and instances of a process, the name that a row of it gives is the next one
abbrev pub GivesNext : ℕ → ℕ → ℕ → NamedEvent → Type 0
GivesNext p messages instances (own.Sent to body label) = label ≡ messages + 1
GivesNext p messages instances (own.Began inst kind) = inst ≡ name_of p (instances + 1)
GivesNext p messages instances _ = Unit {0}

-- rows of one process give its names in order
abbrev pub GiveInOrder : ℕ → ℕ → ℕ → List ClockedRow → Type 0
GiveInOrder p messages instances [] = Unit {0}
GiveInOrder p messages instances (r ∷ rows) =
    GivesNext p messages instances r.row.event
    × GiveInOrder p (messages + messages_given r.row.event) (instances + instances_given r.row.event) rows

-- the name that a row of a process gives
abbrev pub name_given : ℕ → NamedEvent → Option Name
name_given p (own.Sent to body label) = Some (name.Message p label)
name_given p (own.Began inst kind) = Some (name.Instance inst)
name_given p _ = None

-- this is so of each name that a row uses
abbrev pub EachNameOfCause : (Name → Type 0) → NamedCause → Type 0
EachNameOfCause Is (own_cause.Busy inst) = Is (name.Instance inst)
EachNameOfCause Is _ = Unit {0}

abbrev pub EachName : (Name → Type 0) → NamedEvent → Type 0
EachName Is (own.Received from label) = Is (name.Message from label)
EachName Is (own.Dropped from label) = Is (name.Message from label)
EachName Is (own.Took inst) = Is (name.Instance inst)
EachName Is (own.Ready inst) = Is (name.Instance inst)
EachName Is (own.Unwilling inst c) = Is (name.Instance inst) × EachNameOfCause Is c
EachName Is (own.Decided inst commit) = Is (name.Instance inst)
EachName Is (own.Closed inst) = Is (name.Instance inst)
EachName Is (own.Refused verb c) = EachNameOfCause Is c
EachName Is _ = Unit {0}

-- a row comes before another one by its clock, or else by its process
abbrev pub IsEarlier : ClockedRow → ClockedRow → Type 0
IsEarlier a b = (a.clock < b.clock) ⊎ ((a.clock ≡ b.clock) × (a.row.p < b.row.p))

-- a row gives this name that comes before the row in this place, or stands before it in the same part
pub record IsGivenBefore (rows : List ClockedRow) (i : ℕ) (r : ClockedRow) (n : Name) : Type 0 where
  pub place : ℕ
  pub row : ClockedRow
  pub stands : slice_get rows place ≡ Some row
  pub gives : name_given row.row.p row.row.event ≡ Some n
  pub before : IsEarlier row r ⊎ ((row.row.p ≡ r.row.p) × (place < i))

-- each process gives its names in order, and each name is given before it is used
pub record AreCausal (rows : List ClockedRow) : Type 0 where
  pub in_order : (p : ℕ) → GiveInOrder p 0 0 (rows_of p rows)
  pub given : (i : ℕ) (r : ClockedRow) → slice_get rows i ≡ Some r → EachName (IsGivenBefore rows i r) r.row.event

-- a fault of readers, writers and memory, or a limit of logs
abbrev pub IsOfLimits : MergeFault → Type 0
IsOfLimits merge.Write = Unit {0}
IsOfLimits merge.Memory = Unit {0}
IsOfLimits (merge.Part p part.Read) = Unit {0}
IsOfLimits (merge.Part p part.Memory) = Unit {0}
IsOfLimits (merge.Row p n wrong.TooManyRows) = Unit {0}
IsOfLimits (merge.Row p n wrong.TooManyInstances) = Unit {0}
IsOfLimits _ = ⊥
