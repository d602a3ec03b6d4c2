-- What names leave of a state of kt_machine's machine: what nets keep, and no numbers of instances and messages.
use Rattle.std.specs.Prelude.{ℕ, ◌-◌, ◌==◌, if◌then◌else◌, Bool, Option, Some, None, unwrap_or, List, length, map}
use Rattle.kt_fifo.specs.declared.parcels.Parcel.{Parcel}
use Rattle.kt_fifo.specs.declared.parcels.Parcel.TheVariants as in_code
use Rattle.kt_spacetime.specs.declared.event.Event.{Event}
use Rattle.kt_machine.specs.Seen.{SeenProcess, Seen}
use Rattle.kt_spacetime.specs.declared.names.InstName.{InstName}
use Rattle.kt_spacetime.specs.declared.named_rows.NamedEvent.{NamedEvent}
use Rattle.kt_spacetime.specs.declared.named_rows.NamedEvent.TheVariants.{Sent, Received, Dropped, Began, Took, Ready, Unwilling, Decided, Closed, Failed, Refused}
use Rattle.kt_spacetime.specs.declared.named_rows.NamedRow.{NamedRow}
use Rattle.kt_meaning.specs.Names.{nothing_given, given_by, name_of, row_of, instance_name}
use Rattle.kt_manager.specs.declared.parcels.NodeParcel.{NodeParcel}
use Rattle.kt_manager.specs.declared.parcels.NodeParcel.TheVariants.{App, Ask, Reply, Decide}
use Rattle.kt_manager.specs.Nodes.{NodeState}

-- the name of an instance of a log
abbrev pub name_in : List Event → ℕ → InstName
name_in log k = unwrap_or (instance_name (given_by nothing_given log) k) (name_of 0 0)

-- how many instances of a log a process began
abbrev pub begun_by : ℕ → List Event → ℕ
begun_by p log = length ((given_by nothing_given log).begun p)

-- a parcel with the names of instances, and no number of a message
abbrev pub erased_parcel : (ℕ → InstName) → Parcel → NodeParcel
erased_parcel name (in_code.App label m body) = App label body
erased_parcel name (in_code.Ask k kind label) = Ask (name k) kind label
erased_parcel name (in_code.Reply k w) = Reply (name k) w
erased_parcel name (in_code.Decide k c) = Decide (name k) c

abbrev pub erased_parcels : (ℕ → InstName) → List Parcel → List NodeParcel
erased_parcels name xs = map (erased_parcel name) xs

-- the open instance that a process is in, by its name
abbrev pub erased_inst : (ℕ → InstName) → ℕ → Option InstName
erased_inst name k = if k == 0 then None else Some (name k)

-- a process by these names: how many there are, which one it is, how many instances it began, what code keeps of it, by
-- sender what is held and kept for it and, which the machine does not keep, what it was asked last and who has replied
abbrev pub erased_process : (ℕ → InstName) → ℕ → ℕ → ℕ → SeenProcess → (ℕ → List Parcel) → (ℕ → List Parcel) → (ℕ → Option InstName) → (ℕ → Bool) → NodeState
erased_process name processes me begun y held kept asks answered = record {
  processes = processes;
  me = me;
  calls = y.calls;
  used = y.used;
  begun = begun;
  inst = erased_inst name y.inst;
  part = y.part;
  up = y.up;
  held = λ q. erased_parcels name (held q);
  kept = λ q. erased_parcels name (kept q);
  asks = asks;
  answered = answered;
}

abbrev pub erased_node : (ℕ → InstName) → Seen → ℕ → (ℕ → Option InstName) → (ℕ → Bool) → NodeState
erased_node name v p asks answered = erased_process name v.processes p (begun_by p v.log) (v.states p) (λ q. v.held q p) (λ q. v.kept q p) asks answered

-- a row of p with other labels, each by whose message it is of
abbrev pub relabelled : (ℕ → ℕ → ℕ) → ℕ → NamedEvent → NamedEvent
relabelled by p (Sent to body label) = Sent to body (by p label)
relabelled by p (Received from label) = Received from (by from label)
relabelled by p (Dropped from label) = Dropped from (by from label)
relabelled by p (Began inst kind) = Began inst kind
relabelled by p (Took inst) = Took inst
relabelled by p (Ready inst) = Ready inst
relabelled by p (Unwilling inst cause) = Unwilling inst cause
relabelled by p (Decided inst commit) = Decided inst commit
relabelled by p (Closed inst) = Closed inst
relabelled by p Failed = Failed
relabelled by p (Refused verb cause) = Refused verb cause

abbrev pub rows_relabelled : (ℕ → ℕ → ℕ) → List NamedRow → List NamedRow
rows_relabelled by rows = map (λ r. row_of r.p (relabelled by r.p r.event)) rows

-- rows where labels count on from 0, which were told where those of each process count on from one of its own
abbrev pub rows_from_each : (ℕ → ℕ) → List NamedRow → List NamedRow
rows_from_each first rows = rows_relabelled (λ q label. label - first q) rows

-- and those of all from this one
abbrev pub rows_from : ℕ → List NamedRow → List NamedRow
rows_from first rows = rows_from_each (λ q. first) rows
