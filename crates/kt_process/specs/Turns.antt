-- What one process does at a command or a parcel of an instance.
use Rattle.std.specs.Prelude.{◌≡◌, ◌&&◌, ℕ, Bool, true, Option, Some, None, List, [], is_none}
use Rattle.kt_base.specs.Sets.{has}
use Rattle.kt_base.specs.declared.words.Kind.{Kind}
use Rattle.kt_base.specs.declared.words.Kind.TheVariants as kind
use Rattle.kt_process.specs.Joins.{Joins}
use Rattle.kt_process.specs.PartRules.{reply_action}
use Rattle.kt_process.specs.Parts.{Part}
use Rattle.kt_process.specs.declared.actions.Action.{Action}
use Rattle.kt_process.specs.declared.actions.Action.TheVariants.{Nothing, Refuse, Join, Reply, Settle}
use Rattle.kt_tables.specs.Peers.{has_one}
use Rattle.kt_tables.specs.Standing.{TablesStandFor, must_take, must_roll}
use Rattle.kt_tables.specs.States.{State}
use Rattle.kt_process.specs.Notes.{note_of}
use Rattle.kt_process.specs.ProcessStates.{ProcessState, part_of_side, is_saving, is_ready, inst_of}
use Rattle.kt_process.specs.declared.side.Side.{Side}
use Rattle.kt_process.specs.declared.side.Side.TheVariants.{Checkpoint, Rollback}

-- a process that has done nothing
pub record IsFresh (n first : ℕ) (x : ProcessState) : Type 0 where
  pub processes : x.tables.processes ≡ n
  pub stands : TablesStandFor x.tables []
  pub side : x.side ≡ None
  pub up : x.up ≡ true
  pub used : x.used ≡ first

-- the marks of a checkpoint
abbrev pub marks_of : Option Side → List ℕ
marks_of None = []
marks_of (Some (Checkpoint side)) = side.marks
marks_of (Some (Rollback side)) = []

-- the label noted of a process, in a rollback
abbrev pub noted_by : Option Side → ℕ → Option ℕ
noted_by None q = None
noted_by (Some (Checkpoint side)) q = None
noted_by (Some (Rollback side)) q = note_of side.notes q

-- by the labels kept: whom a process asks that joins
abbrev pub peers_of : State → Kind → ℕ → Bool
peers_of t kind.Checkpoint q = has_one t.last_rcvd q
peers_of t kind.Rollback q = has_one t.first_sent q

-- by the labels kept: whether an ask makes it join
abbrev pub joins_by : ProcessState → Kind → Bool → ℕ → ℕ → Bool
joins_by x kind.Checkpoint able from label = is_none (inst_of x.side) && (x.up && (able && must_take x.tables from label))
joins_by x kind.Rollback able from label = is_none (inst_of x.side) && must_roll x.tables from label

-- whether a part is one of an instance of this kind
abbrev pub is_of : Kind → Option Side → Bool
is_of kind.Checkpoint side = is_saving side
is_of kind.Rollback side = is_ready side

-- it joined instance k of a kind by an ask of its parent, or began it
pub record HasJoined (kind : Kind) (k : ℕ) (parent : Option ℕ) (old new : ProcessState) (action : Action) : Type 0 where
  pub part : Part
  pub is : part_of_side new.side ≡ Some part
  pub of_kind : is_of kind new.side ≡ true
  pub joins : Joins old.tables.processes k parent part action
  pub asked : (q : ℕ) → has part.asked q ≡ true → peers_of old.tables kind q ≡ true

-- a command to begin an instance: it refuses, and all is as it was, or it joins
abbrev pub IsBegin : Kind → ℕ → ProcessState → ProcessState → Action → Type 0
IsBegin kind k old new (Refuse cause) = new ≡ old
IsBegin kind k old new (Join asks goes) = HasJoined kind k None old new (Join asks goes)
IsBegin kind k old new action = ⊥

-- an ask: it replies to the asker and stays where it is, or it joins, if the ask makes it
abbrev pub IsHeard : Kind → Bool → ℕ → ℕ → ℕ → ProcessState → ProcessState → Action → Type 0
IsHeard kind able from k label old new (Reply to willing cause) = (to ≡ from) × (part_of_side new.side ≡ part_of_side old.side) × (is_ready new.side ≡ is_ready old.side)
IsHeard kind able from k label old new (Join asks goes) = (joins_by old kind able from label ≡ true) × HasJoined kind k (Some from) old new (Join asks goes)
IsHeard kind able from k label old new action = ⊥

-- what follows from a reply
abbrev pub reply_of : Option Part → Bool → Action
reply_of None willing = Nothing
reply_of (Some part) willing = reply_action part willing

-- a parent is in a set
abbrev pub IsIn : ℕ → Option ℕ → Type 0
IsIn set None = Unit {0}
IsIn set (Some q) = has set q ≡ true

-- a set has all to which a part puts a parcel when the one reply that it awaits has come
abbrev pub HasPartners : Option Part → ℕ → Type 0
HasPartners None set = Unit {0}
HasPartners (Some part) set = part.awaited ≡ 1 → ((q : ℕ) → has part.asked q ≡ true → has set q ≡ true) × IsIn set part.parent

-- the set of those that an action tells a decision, where it tells one
abbrev pub IsTold : Action → ℕ → Type 0
IsTold (Settle commit tell) set = set ≡ tell
IsTold action set = Unit {0}
