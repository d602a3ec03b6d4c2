-- What breaks a rule: when what is told is so, what it is against, and what is told beside it.
use Rattle.std.specs.Prelude.{◌≡◌, ◌≤◌, ◌+◌, ◌^◌, ℕ, Bool, true, false, Option, Some, None, is_some, List, [], length, take, filter, slice_get, IfSome, IfNone}
use Rattle.std.specs.List.{range_with_len}
use Rattle.kt_base.specs.declared.words.Kind.{Kind}
use Rattle.kt_spacetime.specs.declared.event.Event.{Event}
use Rattle.kt_spacetime.specs.declared.event.Event.TheVariants as event
use Rattle.kt_spacetime.specs.declared.deeds.Deed.{Deed}
use Rattle.kt_spacetime.specs.declared.rules.Rule.{Rule}
use Rattle.kt_rules.specs.declared.traces.Trace.{Trace}
use Rattle.kt_spacetime.specs.declared.deeds.Deed.TheVariants as deed
use Rattle.kt_meaning.specs.Past.{Past, past, kind_of, initiator_of, is_rollback, is_member}
use Rattle.kt_meaning.specs.Legal.{IsLegal, has_begun, has_deed, is_instance, is_join, is_undelivered, keeps}
use Rattle.kt_rules.specs.Lists.{last_of, received_in}
use Rattle.kt_meaning.specs.Messages.{IsMessage}
use Rattle.kt_rules.specs.Traces.{trace_of}
use Rattle.kt_histories.specs.HistoriesOf.{HistoriesOf}
use Rattle.kt_histories.specs.declared.breach.Breach.{Breach}
use Rattle.kt_histories.specs.declared.breach.Breach.TheVariants as breach
use Rattle.kt_histories.specs.declared.breach.Open.{Open}
use Rattle.kt_histories.specs.declared.breach.Outside.{Outside}
use Rattle.kt_histories.specs.declared.breach.before.Before.{Before}
use Rattle.kt_histories.specs.declared.breach.demands.Demand.{Demand}
use Rattle.kt_histories.specs.declared.waiting.Waiting.{Waiting}
use Rattle.kt_histories.specs.Demands.{IsBetween, IsBusyFor, IsNeverRefused, ask_all, asks, has_received, has_sent}
use Rattle.kt_histories.specs.Finding.{IsFirstNumber, IsFirstRow, IsLastNumber, begins_inst, closes, decides_inst, drops, fails, receives}

-- the greatest message from a sender that is in a list of deeds as received
pub record IsLatestFrom (from : ℕ) (deeds : List Deed) (msg : ℕ) : Type 0 where
  pub there : has_deed (deed.Received msg from) deeds ≡ true
  pub greatest : (m : ℕ) → has_deed (deed.Received m from) deeds ≡ true → m ≤ msg

-- the last message from a sender that a process dropped since it is down; while it is up there is none to come after
pub record IsLastDropped (s : Past) (p from : ℕ) (last : Option ℕ) : Type 0 where
  pub up : s.up p ≡ true → s.dropped_since p ≡ []
  pub down : s.up p ≡ false → last ≡ last_of (received_in from (s.dropped_since p))

-- the last row that passes a test has this number
abbrev pub IsLastIn : (Event → Bool) → List Event → ℕ → Type 0
IsLastIn test rows row = IsLastNumber test rows (Some row)

-- in which row the open instance of a process was decided, if it was
abbrev pub IsDecidedIn : List Event → Option ℕ → Option ℕ → Type 0
IsDecidedIn rows None decided = decided ≡ None
IsDecidedIn rows (Some k) decided = IsLastNumber (decides_inst k) rows decided

-- a process is not in an instance, but in this open one, or in none; in which rows it joined and closed that, if it did
pub record IsOutside (rows : List Event) (o : Outside) : Type 0 where
  pub open_in : (past rows).open_in o.p ≡ o.open_in
  pub another : is_instance o.open_in o.inst ≡ false
  pub decided : IsDecidedIn rows o.open_in o.decided
  pub joined : IsLastNumber (is_join o.p o.inst) rows o.joined
  pub closed : IsLastNumber (closes o.p o.inst) rows o.closed

-- a process is in an open instance, which it joined last in this row; in which row that was decided
pub record IsOpen (rows : List Event) (o : Open) : Type 0 where
  pub open_in : (past rows).open_in o.p ≡ Some o.inst
  pub joined : IsLastIn (is_join o.p o.inst) rows o.row
  pub decided : IsLastNumber (decides_inst o.inst) rows o.decided

-- what is told of a breach is so after these rows, if it tells of them, and not of a row that comes next
abbrev pub IsSo : List Event → Breach → Type 0
IsSo rows (breach.NotSent msg) = (p q : ℕ) → IsMessage rows msg p q → ⊥
IsSo rows (breach.SentBetween msg p q) = IsMessage rows msg p q
IsSo rows (breach.Undone msg p q) = IsMessage rows msg p q × (has_sent (past rows) p q msg ≡ false)
IsSo rows (breach.Received p from msg row) =
    (has_received (past rows) p from msg ≡ true) × IsLastIn (receives p from msg) rows row
IsSo rows (breach.Dropped msg row) = ((past rows).dropped msg ≡ true) × IsLastIn (drops msg) rows row
IsSo rows (breach.ReceivedLater p from msg row) =
    IsLatestFrom from ((past rows).live p) msg × IsLastIn (receives p from msg) rows row
IsSo rows (breach.DroppedLater p from msg row) =
    IsLatestFrom from ((past rows).dropped_since p) msg × IsLastIn (drops msg) rows row
IsSo rows (breach.Down p row) = ((past rows).up p ≡ false) × IsLastIn (fails p) rows row
IsSo rows (breach.Up p) = (past rows).up p ≡ true
IsSo rows (breach.Inside o) = IsOpen rows o
IsSo rows (breach.Rolling o) = IsOpen rows o × (is_rollback (past rows) o.inst ≡ true)
IsSo rows (breach.NotInside o) = IsOutside rows o
IsSo rows (breach.Joined p k row) = (is_member (past rows) k p ≡ true) × IsLastIn (is_join p k) rows row
IsSo rows (breach.Member p k row) = ((past rows).open_in p ≡ Some k) × IsLastIn (is_join p k) rows row
IsSo rows (breach.JustBegun p k kind) = (past rows).last ≡ Some (event.Began p k kind)
IsSo rows (breach.Next number) = number ≡ length (past rows).begun + 1
IsSo rows (breach.NotBegun k) = has_begun (past rows) k ≡ false
IsSo rows (breach.OfKind k kind row) =
    (kind_of (past rows) k ≡ Some kind) × (p : ℕ) × IsFirstRow (begins_inst k) rows row (event.Began p k kind)
IsSo rows (breach.Initiator k p row) =
    (initiator_of (past rows) k ≡ Some p) × (kind : Kind) × IsFirstRow (begins_inst k) rows row (event.Began p k kind)
IsSo rows (breach.Decided k row) = (is_some ((past rows).decision k) ≡ true) × IsLastIn (decides_inst k) rows row
IsSo rows (breach.Undecided k) = (past rows).decision k ≡ None
IsSo rows b = ⊥

-- what is told of a breach of a row is so, after these rows
abbrev pub IsSoOf : List Event → Event → Breach → Type 0
IsSoOf rows row (breach.OwnPeer p) = IsBetween row p p
IsSoOf rows row (breach.OwnCause k) = IsBusyFor row k k
IsSoOf rows row breach.NoCause = IsNeverRefused row
IsSoOf rows row b = IsSo rows b

-- a fact is so after these rows, and wherever it is so a demand is not kept
pub record IsAgainst (is_so : List Event → Type 0) (rows : List Event) (demand : Past → Bool) : Type 0 where
  pub so : is_so rows
  pub against : (log : List Event) → IsLegal log → is_so log → demand (past log) ≡ false

-- what is against a demand after some rows, if it is not met, whatever row it is a demand on
abbrev pub IsJudged : List Event → (Past → Bool) → Option Breach → Type 0
IsJudged rows demand None = demand (past rows) ≡ true
IsJudged rows demand (Some b) = IsAgainst (λ log. IsSo log b) rows demand

-- the same of a demand on this row
abbrev pub IsJudgedOf : List Event → Event → (Past → Bool) → Option Breach → Type 0
IsJudgedOf rows row demand None = demand (past rows) ≡ true
IsJudgedOf rows row demand (Some b) = IsAgainst (λ log. IsSoOf log row b) rows demand

-- of demands that together are a rule on a row the first that is not met after these rows, and what is against it
pub record IsFirstUnmet (rows : List Event) (rule : Rule) (row : Event) (b : Breach) : Type 0 where
  pub demands : List Demand
  pub are_rule : (s : Past) → ask_all demands s ≡ keeps rule s row
  pub place : ℕ
  pub demand : Demand
  pub there : slice_get demands place ≡ Some demand
  pub met : ask_all (take place demands) (past rows) ≡ true
  pub unmet : IsAgainst (λ log. IsSoOf log row b) rows (asks demand)

-- what is known before a row: the rows before it, which are legal, and their histories
pub record KnowsBefore (b : Before) : Type 0 where
  pub few : length b.rows.now ≤ 2 ^ 24
  pub legal : IsLegal b.rows.now
  pub histories : HistoriesOf b.histories b.rows.now

-- whether the send of a message of this trace is in its sender's live history
abbrev pub is_send_live : Option Trace → Bool
is_send_live None = false
is_send_live (Some trace) = is_some trace.sent

-- the row of this number undid the send of a message, which was live before it, and not after it
pub record IsUndoing (rows : List Event) (msg number : ℕ) : Type 0 where
  pub place : ℕ
  pub number_is : number ≡ place + 1
  pub before : is_send_live (trace_of (take place rows) msg) ≡ true
  pub after : is_send_live (trace_of (take (place + 1) rows) msg) ≡ false

-- the row of this number undid what a breach tells as undone
abbrev pub IsUndoneIn : List Event → Breach → ℕ → Type 0
IsUndoneIn rows (breach.Undone msg p q) row = IsUndoing rows msg row
IsUndoneIn rows b row = ⊥

-- the row of a log that sends the message that was not sent before, begins the instance that has not begun before or decides
-- the one that is not decided before, or that none does; nothing is told of other breaches
abbrev pub IsLater : List Event → Breach → Option ℕ → Type 0
IsLater rows (breach.NotSent msg) None = (p q : ℕ) → IsMessage rows msg p q → ⊥
IsLater rows (breach.NotSent msg) (Some number) = (number ≡ msg) × (p : ℕ) × (q : ℕ) × IsMessage rows msg p q
IsLater rows (breach.NotBegun k) later = IsFirstNumber (begins_inst k) rows later
IsLater rows (breach.Undecided k) later = IsFirstNumber (decides_inst k) rows later
IsLater rows b later = later ≡ None

-- those of a list of messages that are told: how many they are, and the least eight
pub record ShowsWaiting (w : Waiting) (list : List ℕ) : Type 0 where
  pub count : w.count ≡ length list
  pub least : w.least.items ≡ take 8 list

-- the messages of a sender to a process that are in transit after these rows, by rising number; a message has the number
-- of the row that sent it
abbrev pub in_transit : List Event → ℕ → ℕ → List ℕ
in_transit rows from to = filter (is_undelivered (past rows) to from) (range_with_len 1 (length rows))

-- what is told of them is so, and the latest message of the sender that the process received
pub record IsWaiting (rows : List Event) (from to : ℕ) (w : Waiting) : Type 0 where
  pub of_sender : w.from ≡ from
  pub to_process : w.to ≡ to
  pub notes : ShowsWaiting w (in_transit rows from to)
  pub latest : IfSome w.received (IsLatestFrom from ((past rows).live to))
  pub none : IfNone w.received ((m : ℕ) → has_received (past rows) to from m ≡ true → ⊥)

-- it is told of a row that takes a message, and of no other
abbrev pub IsWaitingAt : List Event → Event → Option Waiting → Type 0
IsWaitingAt rows (event.Received p from msg) (Some w) = IsWaiting rows from p w
IsWaitingAt rows (event.Dropped p from msg) (Some w) = IsWaiting rows from p w
IsWaitingAt rows (event.Received p from msg) None = ⊥
IsWaitingAt rows (event.Dropped p from msg) None = ⊥
IsWaitingAt rows row waiting = waiting ≡ None
