-- Which values there are: their numbers are in range, and lists are as long as they have to be.
use Rattle.std.specs.Prelude.{◌≡◌, ℕ, ◌<◌, ◌^◌, Option, Some, None, IfSome, List, length, FitsSigned, All}
use Rattle.std.specs.Int.{w64}
use Rattle.kt_base.specs.Numbers.{IsProcNo, IsLabel, IsInstNo}
use Rattle.kt_tables.specs.Peers.{IsTable}
use Rattle.kt_tables.specs.States.{State}
use Rattle.kt_process.specs.Notes.{AreNotes}
use Rattle.kt_process.specs.Parts.{Part}
use Rattle.kt_process.specs.RollingSides.{RollSide}
use Rattle.kt_process.specs.ProcessStates.{ProcessState}
use Rattle.kt_process.specs.declared.side.Side.{Side}
use Rattle.kt_process.specs.declared.side.Side.TheVariants as side
use Rattle.kt_spacetime.specs.Counts.{IsCount}
use Rattle.kt_spacetime.specs.declared.names.InstName.{InstName}
use Rattle.kt_manager.specs.declared.received.Item.{Item}
use Rattle.kt_manager.specs.Inboxes.{kept_of, held_of}
use Rattle.kt_node.specs.declared.reach.Reaches.{Reaches}
use Rattle.kt_node.specs.Managers.{ManagerState}
use Rattle.kt_node.specs.Links.{NodeLinks}

-- a process and a label
abbrev pub IsPair : ℕ × ℕ → Type 0
IsPair x = IsProcNo x.0 × IsLabel x.1

-- a message
abbrev pub IsItem : Item → Type 0
IsItem x = IsCount x.label × FitsSigned w64 x.body

-- the name of an instance
abbrev pub IsName : InstName → Type 0
IsName k = IsProcNo k.initiator × IsCount k.count

abbrev pub IsNameIfAny : Option InstName → Type 0
IsNameIfAny o = IfSome o IsName

pub record IsPart (p : Part) : Type 0 where
  pub inst : IsInstNo p.inst
  pub parent : IfSome p.parent IsProcNo
  pub asked : p.asked < 2 ^ 64
  pub awaited : p.awaited < 2 ^ 32

-- a part in a rollback, whose notes stand by rising process
pub record IsRolling (s : RollSide) : Type 0 where
  pub part : IsPart s.part
  pub rising : AreNotes 0 s.notes.processes s.notes.pairs
  pub within : All IsPair s.notes.pairs

-- a part in an instance
abbrev pub IsSide : Option Side → Type 0
IsSide None = Unit {0}
IsSide (Some (side.Checkpoint s)) = IsPart s.part
IsSide (Some (side.Rollback s)) = IsRolling s

-- the pairs of a table of n peers
pub record IsList (n : ℕ) (pairs : List (ℕ × ℕ)) : Type 0 where
  pub rising : IsTable 0 n pairs
  pub within : All IsPair pairs

pub record IsState (t : State) : Type 0 where
  pub last_rcvd : IsList t.processes t.last_rcvd.pairs
  pub first_sent : IsList t.processes t.first_sent.pairs
  pub kept_rcvd : IsList t.processes t.kept_rcvd.pairs
  pub kept_sent : IsList t.processes t.kept_sent.pairs
  pub last_sent : IsList t.processes t.last_sent.pairs
  pub last_out : IsList t.processes t.last_out.pairs

pub record IsProcess (x : ProcessState) : Type 0 where
  pub used : IsLabel x.used
  pub side : IsSide x.side
  pub tables : IsState x.tables

-- the messages of n processes
abbrev pub AreLists : ℕ → (ℕ → List Item) → Type 0
AreLists n lists = (q : ℕ) → q < n → All IsItem (lists q)

pub record IsManager (w : ManagerState) : Type 0 where
  pub inst : IsNameIfAny w.inst
  pub process : IsProcess w.process
  pub held : AreLists w.size (held_of w.inbox)
  pub kept : AreLists w.size (kept_of w.inbox)
  pub asks : All IsNameIfAny w.asks
  pub many : length w.asks ≡ 64

-- a number for each process that there may be
abbrev pub IsRow : List ℕ → Type 0
IsRow xs = length xs ≡ 64

pub record AreReaches (r : Reaches) : Type 0 where
  pub live : IsRow r.live.received
  pub tentative : IsRow r.tentative.received
  pub permanent : IsRow r.permanent.received

pub record IsNode (w : NodeLinks) : Type 0 where
  pub manager : IsManager w.manager
  pub sent : IsRow w.sent
  pub taken : IsRow w.taken
  pub reaches : AreReaches w.reaches
