-- A system of processes, and what a step of it needs of room.
use Rattle.std.specs.Prelude.{◌≡◌, ℕ, ◌+◌, ◌<◌, ◌≤◌, true, false, None, List, [], ◌++◌, All, length, slice_index_or}
use Rattle.kt_fifo.specs.Channels.{ChannelLists, channel, spare_of}
use Rattle.kt_spacetime.specs.Logs.{Log}
use Rattle.kt_spacetime.specs.declared.event.Event.{Event}
use Rattle.kt_tables.specs.Peers.{LabelTable}
use Rattle.kt_tables.specs.States.{State}
use Rattle.kt_process.specs.Asks.{AreRisingAsks}
use Rattle.kt_process.specs.declared.actions.Action.{Action}
use Rattle.kt_process.specs.declared.actions.Action.TheVariants.{Join, Reply, Settle}
use Rattle.kt_process.specs.declared.actions.Then.{Then}
use Rattle.kt_process.specs.declared.actions.Then.TheVariants.{Answer, Commit}
use Rattle.kt_process.specs.ProcessStates.{ProcessState, part_of_side, is_ready, asked_of, IsNumbered}
use Rattle.kt_base.specs.Sets.{has}
use Rattle.kt_system.specs.declared.system.Tally.{Tally}

-- how many processes it has, and these; the parcels in channels, held, and kept; its log; how many instances began; and
-- what each one put
pub record Whole : Type 0 where
  pub size : ℕ
  pub states : List ProcessState
  pub channels : ChannelLists
  pub held : ChannelLists
  pub kept : ChannelLists
  pub rows : Log
  pub begun : ℕ
  pub put : List Tally

abbrev pub no_table : LabelTable
no_table = record { peers = 0; pairs = [] }

abbrev pub no_tables : State
no_tables = record { processes = 0; is_tentative = false; last_rcvd = no_table; first_sent = no_table; kept_rcvd = no_table; kept_sent = no_table; last_sent = no_table; last_out = no_table }

abbrev pub no_process : ProcessState
no_process = record { tables = no_tables; side = None; up = false; used = 0 }

-- one of the processes
unfoldable pub state_of : Whole → ℕ → ProcessState
state_of w p = slice_index_or w.states p no_process

-- how many parcels more there is room for in a channel
unfoldable pub room_to : Whole → ℕ → ℕ → ℕ
room_to w p q = spare_of w.channels p q

-- there is room to hold all that is kept for p
pub record HasBack (w : Whole) (p : ℕ) : Type 0 where
  pub back : (q : ℕ) → q < w.size → length (channel w.kept q p) ≤ spare_of w.held q p

-- its lists and tables are of all processes, and the instances that these are in have numbers from 1 on
pub record IsSoundSystem (w : Whole) : Type 0 where
  pub few : w.size ≤ 64
  pub states : length w.states ≡ w.size
  pub channels : w.channels.processes ≡ w.size
  pub held : w.held.processes ≡ w.size
  pub kept : w.kept.processes ≡ w.size
  pub begun : w.begun ≤ 4096
  pub tables : All (λ (x : ProcessState). x.tables.processes ≡ w.size) w.states
  pub numbered : All (λ (x : ProcessState). IsNumbered (part_of_side x.side)) w.states

-- who has joined may send these asks and go on so
pub record CanJoin (w : Whole) (p : ℕ) (asks : List (ℕ × ℕ)) (goes : Then) : Type 0 where
  pub within : (j : ℕ) → j < length asks → (slice_index_or asks j (0, 0)).0 < w.size
  pub rising : AreRisingAsks asks
  pub asks_fit : (j : ℕ) → j < length asks → 2 ≤ room_to w p (slice_index_or asks j (0, 0)).0
  pub parcels : (q : ℕ) → asked_of (state_of w p).side q ≡ true → 2 ≤ room_to w p q
  pub answers : (to : ℕ) → goes ≡ Answer to → (to < w.size) × (2 ≤ room_to w p to)
  pub back : goes ≡ Commit → is_ready (state_of w p).side ≡ true → HasBack w p

-- who closes its instance may tell the decision
pub record CanClose (w : Whole) (p : ℕ) : Type 0 where
  pub parcels : (q : ℕ) → asked_of (state_of w p).side q ≡ true → 1 ≤ room_to w p q
  pub back : is_ready (state_of w p).side ≡ true → HasBack w p

-- what follows from a command or an ask has room, where it is a join
abbrev pub CanCarryOut : Whole → ℕ → Action → Type 0
CanCarryOut w p (Join asks goes) = CanJoin w p asks goes
CanCarryOut w p action = Unit {0}

-- what follows from a reply has room
abbrev pub CanGoOn : Whole → ℕ → Action → Type 0
CanGoOn w p (Reply to willing cause) = (to < w.size) × (1 ≤ room_to w p to)
CanGoOn w p (Settle commit tell) = CanClose w p
CanGoOn w p action = Unit {0}

-- room for two parcels from p to each of a set
pub record HasRoomFor (w : Whole) (p set : ℕ) : Type 0 where
  pub room : (q : ℕ) → q < w.size → has set q ≡ true → 2 ≤ room_to w p q

-- only the log changes, or what instances put
pub record KeepsParcels (old new : Whole) : Type 0 where
  pub size : new.size ≡ old.size
  pub state_of : (p : ℕ) → state_of new p ≡ state_of old p
  pub room : (p q : ℕ) → room_to new p q ≡ room_to old p q
  pub back : (p : ℕ) → HasBack old p → HasBack new p

-- no process changes
pub record KeepsStates (old new : Whole) : Type 0 where
  pub size : new.size ≡ old.size
  pub state_of : (p : ℕ) → state_of new p ≡ state_of old p

-- no process changes, and no room shrinks
pub record GivesRoom (old new : Whole) : Type 0 where
  pub size : new.size ≡ old.size
  pub state_of : (p : ℕ) → state_of new p ≡ state_of old p
  pub room : (p q : ℕ) → room_to old p q ≤ room_to new p q
  pub back : (p : ℕ) → HasBack old p → HasBack new p

-- no process changes, and no room in a channel
pub record KeepsRoom (old new : Whole) : Type 0 where
  pub size : new.size ≡ old.size
  pub state_of : (p : ℕ) → state_of new p ≡ state_of old p
  pub room : (p q : ℕ) → room_to new p q ≡ room_to old p q

-- no process changes, and no room of p shrinks by more than one parcel
pub record UsesRoom (old new : Whole) (p : ℕ) : Type 0 where
  pub size : new.size ≡ old.size
  pub state_of : (q : ℕ) → state_of new q ≡ state_of old q
  pub room : (q : ℕ) → room_to old p q ≤ room_to new p q + 1
  pub back : (q : ℕ) → HasBack old q → HasBack new q

-- the log keeps its rows, and has so many more at most
pub record LogGrows (most : ℕ) (old new : Whole) : Type 0 where
  pub more : List Event
  pub rows : new.rows.rows ≡ old.rows.rows ++ more
  pub few : length more ≤ most

-- the same system, but for spare room
pub record IsSameSystem (new old : Whole) : Type 0 where
  pub size : new.size ≡ old.size
  pub states : new.states ≡ old.states
  pub channels : channel new.channels ≡ channel old.channels
  pub held : channel new.held ≡ channel old.held
  pub kept : channel new.kept ≡ channel old.kept
  pub rows : new.rows.rows ≡ old.rows.rows
  pub begun : new.begun ≡ old.begun
  pub put : new.put ≡ old.put
