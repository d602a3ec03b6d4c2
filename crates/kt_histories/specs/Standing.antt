-- When tables stand for the rows of a log.
use Rattle.std.specs.Prelude.{◌≡◌, ℕ, ◌<◌, ◌≤◌, ◌&&◌, if◌then◌else◌, Bool, false, Option, Some, None, option_map, List, [], length, map, slice_get, Contains}
use Rattle.std.specs.Option.{option_flatten}
use Rattle.kt_spacetime.specs.declared.event.Event.{Event}
use Rattle.kt_spacetime.specs.declared.deeds.Deed.TheVariants as deed
use Rattle.kt_histories.specs.declared.process.Process.{Process}
use Rattle.kt_histories.specs.declared.tables.Message.{Message}
use Rattle.kt_rules.specs.declared.instances.Instance.{Instance}
use Rattle.kt_histories.specs.declared.replay.Replay.{Replay}
use Rattle.kt_meaning.specs.Past.{Past, past}
use Rattle.kt_meaning.specs.Legal.{has_deed}
use Rattle.kt_rules.specs.Lists.{last_of, received_in}
use Rattle.kt_rules.specs.Standing.{IsInOrder, ShowsInstances, at_number, beginning_of_row, parties_of_row}

abbrev pub message_at : List (Option Message) → ℕ → Option Message
message_at messages msg = option_flatten (at_number messages msg)

-- a process's tables are what is known of it
pub record ShowsProcess (v : Process) (s : Past) (p : ℕ) : Type 0 where
  pub live : v.history ≡ s.live p
  pub permanent : v.permanent ≡ s.permanent p
  pub open_in : v.open_in ≡ s.open_in p
  pub up : v.up ≡ s.up p
  pub dropped : (q : ℕ) → q < 64 → slice_get v.last_dropped q ≡ Some (last_of (received_in q (s.dropped_since p)))

pub record ShowsProcesses (processes : List Process) (s : Past) : Type 0 where
  pub each : (p : ℕ) (v : Process) → slice_get processes p ≡ Some v → ShowsProcess v s p
  pub all : length processes ≡ 64
  pub no_more : (p : ℕ) → 64 ≤ p → s.live p ≡ []

-- who sent a message to whom, from which place
abbrev pub sending : Option Message → Option (ℕ × ℕ × ℕ)
sending message = option_map (λ v. (v.from, v.to, v.sent)) message

-- who received a message from whom, at which place
abbrev pub receiving : Option Message → Option (ℕ × ℕ × Option ℕ)
receiving message = option_map (λ v. (v.to, v.from, v.received)) message

abbrev pub is_dropped : Option Message → Bool
is_dropped None = false
is_dropped (Some v) = v.dropped

-- the messages have the places of the live histories
pub record ShowsMessages (messages : List (Option Message)) (s : Past) : Type 0 where
  pub sent : (p i msg to : ℕ) → slice_get (s.live p) i ≡ Some (deed.Sent msg to) → sending (message_at messages msg) ≡ Some (p, to, i)
  pub received : (p i msg from : ℕ) → slice_get (s.live p) i ≡ Some (deed.Received msg from) → receiving (message_at messages msg) ≡ Some (p, from, Some i)
  pub dropped : (msg : ℕ) → is_dropped (message_at messages msg) ≡ s.dropped msg

abbrev pub parties : Option Message → Option (ℕ × ℕ)
parties message = option_map (λ v. (v.from, v.to)) message

-- tables show what is known after the rows so far
pub record Shows (processes : List Process) (messages : List (Option Message)) (instances : List Instance) (dead : List ℕ) (beginning : Option (ℕ × ℕ)) (s : Past) : Type 0 where
  pub of_processes : ShowsProcesses processes s
  pub of_messages : ShowsMessages messages s
  pub of_instances : ShowsInstances instances s
  pub in_order : IsInOrder s
  pub dead_known : (p i msg q : ℕ) → slice_get (s.live p) i ≡ Some (deed.Received msg q) → has_deed (deed.Sent msg p) (s.live q) ≡ false → Contains dead msg
  pub of_beginning : beginning ≡ beginning_of_row s.last
  pub rows : length messages ≡ s.rows

abbrev pub ShowsPast : Replay → Past → Type 0
ShowsPast r s = Shows r.processes.items r.messages.items r.instances.items r.dead r.beginning s

abbrev pub parties_shown : Replay → List (Option (ℕ × ℕ))
parties_shown r = map parties r.messages.items

-- tables stand for the rows of a log
pub record ReplayStandsFor (r : Replay) (rows : List Event) : Type 0 where
  pub shows : ShowsPast r (past rows)
  pub messages : parties_shown r ≡ map parties_of_row rows
