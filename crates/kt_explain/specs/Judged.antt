-- What is told of a log that passes: what was judged, and what it leaves open.
use Rattle.std.specs.Prelude.{◌≡◌, ℕ, ◌<◌, ◌&&◌, ◌||◌, ◌↔◌, not, if◌then◌else◌, Bool, true, false, Option, Some, None, is_none, List, length, count_by, Contains}
use Rattle.std.specs.List.{AllZip, filter_map, list_any, range_with_len}
use Rattle.kt_base.specs.Sets.{has}
use Rattle.kt_spacetime.specs.declared.event.Event.{Event}
use Rattle.kt_spacetime.specs.declared.event.Event.TheVariants as event
use Rattle.kt_meaning.specs.Past.{Past, past}
use Rattle.kt_meaning.specs.Legal.{is_in, is_undelivered}
use Rattle.kt_meaning.specs.Messages.{row_at}
use Rattle.kt_base.specs.declared.words.Kind.{Kind}
use Rattle.kt_base.specs.declared.words.Kind.TheVariants.{Checkpoint, Rollback}
use Rattle.kt_spacetime.specs.declared.certificate.Certificate.{Certificate}
use Rattle.kt_explain.specs.declared.judged.Decided.{Decided}
use Rattle.kt_explain.specs.declared.judged.Judged.{Judged}
use Rattle.kt_explain.specs.declared.judged.OpenInstance.{OpenInstance}

-- whether a process is in an instance
unfoldable pub is_anyone_in : Past → ℕ → Bool
is_anyone_in s k = list_any (λ p. is_in s p k) (range_with_len 0 64)

-- whether an instance that began is open: it is undecided, or a process is in it
abbrev pub is_left_open : Past → ℕ → Bool
is_left_open s k = is_none (s.decision k) || is_anyone_in s k

-- the instance that a row begins, if it is open
abbrev pub begun_open : Past → Event → Option ℕ
begun_open s (event.Began p k kind) = if is_left_open s k then Some k else None
begun_open s _ = None

-- the instances that a log leaves open, in the order in which they began
abbrev pub open_instances : List Event → List ℕ
open_instances rows = filter_map (begun_open (past rows)) rows

-- an open instance as it is told, with the processes that are in it
abbrev pub IsOpenInstance : Past → ℕ → OpenInstance → Type 0
IsOpenInstance s k o = (o.inst ≡ k) × ((p : ℕ) → p < 64 → has o.inside p ≡ is_in s p k)

-- who is to receive the message that a row of this number sent, if it is in transit
abbrev pub receiver_in_transit : Past → ℕ → Option Event → Option ℕ
receiver_in_transit s msg (Some (event.Sent p to body)) = if is_undelivered s to p msg then Some to else None
receiver_in_transit s msg _ = None

-- the receivers of the messages in transit, one for each message; they are numbered as the rows, from 1
abbrev pub receivers_in_transit : List Event → List ℕ
receivers_in_transit rows =
    filter_map (λ msg. receiver_in_transit (past rows) msg (row_at rows msg)) (range_with_len 1 (length rows))

-- whether a message is dropped by a row
abbrev pub is_drop : Event → Bool
is_drop (event.Dropped p from msg) = true
is_drop _ = false

-- whether a kind is this one
abbrev pub is_kind : Kind → Kind → Bool
is_kind Checkpoint Checkpoint = true
is_kind Rollback Rollback = true
is_kind _ _ = false

-- whether a certificate is of an instance of a kind that was decided so
abbrev pub is_decided : Kind → Bool → Certificate → Bool
is_decided kind commit c = is_kind kind c.kind && (if commit then c.commit else not c.commit)

-- how many instances of a kind were decided, by certificates that pass: there is one of each that was decided
pub record AreDecided (certificates : List Certificate) (kind : Kind) (d : Decided) : Type 0 where
  pub committed : d.committed ≡ count_by (is_decided kind true) certificates
  pub aborted : d.aborted ≡ count_by (is_decided kind false) certificates

-- what a log leaves open
pub record IsLeftOpen (rows : List Event) (l : Judged) : Type 0 where
  -- the instances that are open, and who is in each
  pub instances : AllZip (IsOpenInstance (past rows)) (open_instances rows) l.open.items
  -- how many messages are in transit, and to whom
  pub in_transit : l.in_transit ≡ length (receivers_in_transit rows)
  pub receivers : (q : ℕ) → has l.receivers q ≡ true ↔ Contains (receivers_in_transit rows) q
  -- who is down, and how many messages were dropped
  pub down : (p : ℕ) → p < 64 → has l.down p ≡ not ((past rows).up p)
  pub dropped : l.dropped ≡ count_by is_drop rows

-- what was judged, and what is left open
pub record IsJudgedSo (rows : List Event) (certificates : List Certificate) (j : Judged) : Type 0 where
  pub rows_are : j.rows ≡ length rows
  pub instances_are : j.instances ≡ length (past rows).begun
  pub checkpoints : AreDecided certificates Checkpoint j.checkpoints
  pub rollbacks : AreDecided certificates Rollback j.rollbacks
  pub left : IsLeftOpen rows j
