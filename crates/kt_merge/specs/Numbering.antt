-- The tables of what rows gave, and what is wrong with a row.
use Rattle.std.specs.Prelude.{◌≡◌, ◌<◌, ◌≤◌, ◌+◌, ◌^◌, ℕ, Some, None, List, length, slice_get}
use Rattle.kt_base.specs.declared.words.Kind.{Kind}
use Rattle.kt_spacetime.specs.declared.event.Event.{Event}
use Rattle.kt_spacetime.specs.declared.event.Event.TheVariants.{Began}
use Rattle.kt_spacetime.specs.declared.names.InstName.{InstName}
use Rattle.kt_spacetime.specs.declared.named_rows.NamedEvent.{NamedEvent}
use Rattle.kt_spacetime.specs.declared.named_rows.NamedEvent.TheVariants as own
use Rattle.kt_meaning.specs.Names.{Given, numbered_event}
use Rattle.kt_merge.specs.declared.fault.RowFault.{RowFault}
use Rattle.kt_merge.specs.declared.fault.RowFault.TheVariants as wrong
use Rattle.kt_merge.specs.declared.tables.Gave.{Gave}
use Rattle.kt_merge.specs.declared.tables.Numbers.{Numbers}

-- what is wrong with a row that has no numbers: the name that it gives, or one that no row before it gave
abbrev pub name_fault : NamedEvent → RowFault
name_fault (own.Sent to body label) = wrong.Name
name_fault (own.Received from label) = wrong.NotSent
name_fault (own.Dropped from label) = wrong.NotSent
name_fault (own.Began inst kind) = wrong.Name
name_fault _ = wrong.NotBegun

-- a row begins an instance
abbrev pub Begins : NamedEvent → Type 0
Begins event = (inst : InstName) × (kind : Kind) × (event ≡ own.Began inst kind)

-- after what was given, what is first wrong with a row of a process: its names, then the limits of a log
abbrev pub IsRowFault : Given → ℕ → NamedEvent → RowFault → Type 0
IsRowFault g p event wrong.TooManyRows = (g.rows ≡ 2 ^ 24) × (row : Event) × (numbered_event g p event ≡ Some row)
IsRowFault g p event wrong.TooManyInstances =
    (g.rows < 2 ^ 24) × (length g.initiators ≡ 4096) × Begins event × (row : Event) × (numbered_event g p event ≡ Some row)
IsRowFault g p event fault = (numbered_event g p event ≡ None) × (fault ≡ name_fault event)

-- an instance that a row begins has the next number
abbrev pub TakesNext : Given → Event → Type 0
TakesNext g (Began p inst kind) = (inst ≡ length g.initiators + 1) × (length g.initiators < 4096)
TakesNext g _ = Unit {0}

-- a row by numbers may come after what was given
abbrev pub IsNextRow : Given → Event → Type 0
IsNextRow g event = (g.rows < 2 ^ 24) × TakesNext g event

-- a row by names has these numbers
abbrev pub IsNumberedRow : Given → ℕ → NamedEvent → Event → Type 0
IsNumberedRow g p event row = (numbered_event g p event ≡ Some row) × TakesNext g row

-- and there may be one row more
abbrev pub MayFollow : Given → ℕ → NamedEvent → Event → Type 0
MayFollow g p event row = (numbered_event g p event ≡ Some row) × IsNextRow g row

-- the table of one process has what it gave
pub record ShowsProcess (gave : Gave) (g : Given) (p : ℕ) : Type 0 where
  pub sent : gave.sent.items ≡ g.sent p
  pub begun : gave.begun.items ≡ g.begun p

-- so many rows, so many instances and these tables are what all processes gave
pub record ShowsTables (row_count inst_count : ℕ) (tables : List Gave) (g : Given) : Type 0 where
  pub rows : row_count ≡ g.rows
  pub begun : inst_count ≡ length g.initiators
  pub few : (g.rows ≤ 2 ^ 24) × (length g.initiators ≤ 4096)
  pub all : length tables ≡ 64
  pub each : (p : ℕ) (gave : Gave) → slice_get tables p ≡ Some gave → ShowsProcess gave g p

-- the tables have what all processes gave
abbrev pub ShowsGiven : Numbers → Given → Type 0
ShowsGiven numbers g = ShowsTables numbers.rows numbers.begun numbers.gave.items g
