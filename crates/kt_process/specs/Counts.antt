-- How many asks, replies and decisions an action puts into channels.
use Rattle.std.specs.Prelude.{ℕ, ◌==◌, if◌then◌else◌, Option, Some, None, length}
use Rattle.kt_base.specs.Sets.{count_of}
use Rattle.kt_process.specs.PartRules.{way_on}
use Rattle.kt_process.specs.Parts.{Part}
use Rattle.kt_process.specs.declared.actions.Action.{Action}
use Rattle.kt_process.specs.declared.actions.Action.TheVariants.{Nothing, Refuse, Join, Reply, Settle}
use Rattle.kt_process.specs.declared.actions.Then.{Then}
use Rattle.kt_process.specs.declared.actions.Then.TheVariants.{Wait, Answer, Commit}

pub record Counts : Type 0 where
  pub asks : ℕ
  pub replies : ℕ
  pub decisions : ℕ

abbrev pub no_parcel : Counts
no_parcel = record { asks = 0; replies = 0; decisions = 0 }

abbrev pub one_reply : Counts
one_reply = record { asks = 0; replies = 1; decisions = 0 }

abbrev pub decisions_to : ℕ → Counts
decisions_to set = record { asks = 0; replies = 0; decisions = count_of set }

-- who joins and asked nobody replies at once, if it has a parent; an initiator's decision then has nobody to go to
abbrev pub replies_of : Then → ℕ
replies_of Wait = 0
replies_of (Answer to) = 1
replies_of Commit = 0

abbrev pub counts_of : Action → Counts
counts_of Nothing = no_parcel
counts_of (Refuse cause) = no_parcel
counts_of (Join asks goes) = record { asks = length asks; replies = replies_of goes; decisions = 0 }
counts_of (Reply to willing cause) = one_reply
counts_of (Settle commit tell) = decisions_to tell

-- an ask for each process that was asked, and the reply of a participant that asked nobody
abbrev pub counts_at_join : Part → Counts
counts_at_join part = record { asks = count_of part.asked; replies = replies_of (way_on part); decisions = 0 }

-- those of a process that joins, and others of one that doesn't
abbrev pub counts_if_joined : Counts → Option Part → Counts
counts_if_joined others None = others
counts_if_joined others (Some part) = counts_at_join part

-- after the last reply that is awaited, the reply of a participant, or a decision for each process that an initiator asked
abbrev pub counts_at_last : Option ℕ → ℕ → Counts
counts_at_last (Some to) asked = one_reply
counts_at_last None asked = decisions_to asked

-- after any other reply nothing
abbrev pub counts_at_reply : Part → Counts
counts_at_reply part = if part.awaited == 1 then counts_at_last part.parent part.asked else no_parcel
