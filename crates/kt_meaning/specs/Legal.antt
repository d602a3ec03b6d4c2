-- The rules of a legal log.
use Rattle.std.specs.Prelude.{◌≡◌, ℕ, ◌+◌, ◌==◌, ◌&&◌, ◌||◌, not, nat_lt, nat_le, Bool, true, false, Option, Some, None, is_some, is_none, List, [], ◌∷◌, length, find}
use Rattle.std.specs.List.{list_any, list_all}
use Rattle.kt_base.specs.declared.words.Kind.TheVariants as kind
use Rattle.kt_base.specs.declared.words.Verb.{Verb}
use Rattle.kt_base.specs.declared.words.Verb.TheVariants as verb
use Rattle.kt_base.specs.declared.words.Cause.{Cause}
use Rattle.kt_base.specs.declared.words.Cause.TheVariants.{Busy, Down, NoSave}
use Rattle.kt_spacetime.specs.declared.event.Event.{Event}
use Rattle.kt_spacetime.specs.declared.event.Event.TheVariants.{Sent, Received, Dropped, Began, Took, Ready, Unwilling, Decided, Closed, Failed, Refused}
use Rattle.kt_spacetime.specs.declared.deeds.Deed.{Deed}
use Rattle.kt_spacetime.specs.declared.deeds.Deed.TheVariants as deed
use Rattle.kt_spacetime.specs.declared.rules.Rule.{Rule}
use Rattle.kt_spacetime.specs.declared.rules.Rule.TheVariants.{Numbers, Message, Order, Sending, Receiving, Joining, Deciding, Closing, Causes}
use Rattle.kt_spacetime.specs.Rules.{all_rules}
use Rattle.kt_meaning.specs.Past.{Past, start, after, is_checkpoint, is_rollback, is_member, initiator_of}

-- whether two deeds are the same
abbrev pub is_deed : Deed → Deed → Bool
is_deed (deed.Sent m p) (deed.Sent n q) = (m == n) && (p == q)
is_deed (deed.Received m p) (deed.Received n q) = (m == n) && (p == q)
is_deed (deed.Sent m p) (deed.Received n q) = false
is_deed (deed.Received m p) (deed.Sent n q) = false

-- whether a history has a deed
abbrev pub has_deed : Deed → List Deed → Bool
has_deed d deeds = list_any (is_deed d) deeds

abbrev pub has_begun : Past → ℕ → Bool
has_begun s k = nat_le 1 k && nat_le k (length s.begun)

abbrev pub is_undecided : Past → ℕ → Bool
is_undecided s k = has_begun s k && is_none (s.decision k)

abbrev pub is_instance : Option ℕ → ℕ → Bool
is_instance None k = false
is_instance (Some j) k = j == k

-- whether a process is in an open instance
abbrev pub is_in : Past → ℕ → ℕ → Bool
is_in s p k = is_instance (s.open_in p) k

abbrev pub is_in_none : Past → ℕ → Bool
is_in_none s p = is_none (s.open_in p)

abbrev pub is_open_rollback : Past → Option ℕ → Bool
is_open_rollback s None = false
is_open_rollback s (Some k) = is_rollback s k

-- whether a process is in an open rollback
abbrev pub is_rolling : Past → ℕ → Bool
is_rolling s p = is_open_rollback s (s.open_in p)

-- numbers: an instance that a cause names has begun
abbrev pub names_begun : Past → Cause → Bool
names_begun s (Busy k) = has_begun s k
names_begun s Down = true
names_begun s NoSave = true

-- numbers: an instance that is named has begun, one that begins takes the next number; a peer is another process
abbrev pub keeps_numbers : Past → Event → Bool
keeps_numbers s (Sent p to body) = not (to == p)
keeps_numbers s (Received p from msg) = not (from == p)
keeps_numbers s (Dropped p from msg) = not (from == p)
keeps_numbers s (Began p k kind) = k == length s.begun + 1
keeps_numbers s (Took p k) = has_begun s k
keeps_numbers s (Ready p k) = has_begun s k
keeps_numbers s (Unwilling p k cause) = has_begun s k && names_begun s cause
keeps_numbers s (Decided p k commit) = has_begun s k
keeps_numbers s (Closed p k) = has_begun s k
keeps_numbers s (Failed p) = true
keeps_numbers s (Refused p verb cause) = names_begun s cause

-- message: sent by the named sender to this process and live, not in this process's live history, never dropped
abbrev pub is_undelivered : Past → ℕ → ℕ → ℕ → Bool
is_undelivered s p from msg =
    has_deed (deed.Sent msg p) (s.live from) && not (has_deed (deed.Received msg from) (s.live p)) && not (s.dropped msg)

abbrev pub keeps_message : Past → Event → Bool
keeps_message s (Received p from msg) = is_undelivered s p from msg
keeps_message s (Dropped p from msg) = is_undelivered s p from msg
keeps_message s _ = true

-- order: greater than what of this sender is in a list of deeds
abbrev pub is_later : ℕ → ℕ → Deed → Bool
is_later from msg (deed.Sent n to) = true
is_later from msg (deed.Received n sender) = not (sender == from) || nat_lt n msg

abbrev pub is_latest : Past → ℕ → ℕ → ℕ → Bool
is_latest s p from msg = list_all (is_later from msg) (s.live p) && list_all (is_later from msg) (s.dropped_since p)

abbrev pub keeps_order : Past → Event → Bool
keeps_order s (Received p from msg) = is_latest s p from msg
keeps_order s (Dropped p from msg) = is_latest s p from msg
keeps_order s _ = true

-- sending: up, and in no open instance
abbrev pub keeps_sending : Past → Event → Bool
keeps_sending s (Sent p to body) = s.up p && is_in_none s p
keeps_sending s _ = true

-- receiving: in no open rollback; up to receive, down to drop
abbrev pub keeps_receiving : Past → Event → Bool
keeps_receiving s (Received p from msg) = not (is_rolling s p) && s.up p
keeps_receiving s (Dropped p from msg) = not (is_rolling s p) && not (s.up p)
keeps_receiving s _ = true

-- joining: in no open instance, not joined before, undecided, as the kind asks
abbrev pub may_join : Past → Event → Bool
may_join s (Began p k kind.Checkpoint) = is_in_none s p && s.up p
may_join s (Began p k kind.Rollback) = is_in_none s p
may_join s (Took p k) = is_in_none s p && not (is_member s k p) && is_undecided s k && is_checkpoint s k && s.up p
may_join s (Ready p k) = is_in_none s p && not (is_member s k p) && is_undecided s k && is_rollback s k
may_join s _ = true

-- joining: this process joins this instance
abbrev pub is_join : ℕ → ℕ → Event → Bool
is_join p k (Took q j) = (q == p) && (j == k)
is_join p k (Ready q j) = (q == p) && (j == k)
is_join p k _ = false

-- joining: the row after a beginning is that process's joining
abbrev pub follows : Option Event → Event → Bool
follows (Some (Began p k kind)) row = is_join p k row
follows _ row = true

abbrev pub keeps_joining : Past → Event → Bool
keeps_joining s row = may_join s row && follows s.last row

-- deciding: by the initiator, in its open instance, once
abbrev pub keeps_deciding : Past → Event → Bool
keeps_deciding s (Decided p k commit) = is_instance (initiator_of s k) p && is_in s p k && is_undecided s k
keeps_deciding s _ = true

-- closing: in the open instance, which is decided
abbrev pub keeps_closing : Past → Event → Bool
keeps_closing s (Closed p k) = is_in s p k && is_some (s.decision k)
keeps_closing s _ = true

-- causes: why a process may be unwilling to join an instance
abbrev pub excuses : Past → ℕ → ℕ → Cause → Bool
excuses s p k (Busy j) = is_in s p j && not (j == k)
excuses s p k Down = is_checkpoint s k && is_in_none s p && not (s.up p)
excuses s p k NoSave = is_checkpoint s k && is_in_none s p && s.up p

-- causes: why a command may be refused
abbrev pub refuses : Past → ℕ → Verb → Cause → Bool
refuses s p verb.Send Down = is_in_none s p && not (s.up p)
refuses s p verb.Checkpoint (Busy j) = is_in s p j
refuses s p verb.Checkpoint Down = is_in_none s p && not (s.up p)
refuses s p verb.Checkpoint NoSave = is_in_none s p && s.up p
refuses s p verb.Rollback (Busy j) = is_in s p j
refuses s p verb.Fail Down = not (s.up p)
refuses s p _ _ = false

-- causes: a failure of what is up; a refusal for a cause that is so
abbrev pub keeps_causes : Past → Event → Bool
keeps_causes s (Failed p) = s.up p
keeps_causes s (Unwilling p k cause) = is_undecided s k && excuses s p k cause
keeps_causes s (Refused p verb cause) = refuses s p verb cause
keeps_causes s _ = true

-- whether a row keeps a rule after what is known before it
abbrev pub keeps : Rule → Past → Event → Bool
keeps Numbers = keeps_numbers
keeps Message = keeps_message
keeps Order = keeps_order
keeps Sending = keeps_sending
keeps Receiving = keeps_receiving
keeps Joining = keeps_joining
keeps Deciding = keeps_deciding
keeps Closing = keeps_closing
keeps Causes = keeps_causes

-- the least rule that a row breaks
abbrev pub broken_rule : Past → Event → Option Rule
broken_rule s row = find (λ rule. not (keeps rule s row)) all_rules

-- each of these rows keeps every rule, after what is known before it
abbrev pub IsLegalAfter : Past → List Event → Type 0
IsLegalAfter s [] = Unit {0}
IsLegalAfter s (row ∷ rows) = (broken_rule s row ≡ None) × IsLegalAfter (after s row) rows

-- a legal log: each row keeps every rule
abbrev pub IsLegal : List Event → Type 0
IsLegal log = IsLegalAfter start log

abbrev pub or_later : Option Rule → ℕ → Option (ℕ × Rule) → Option (ℕ × Rule)
or_later None n later = later
or_later (Some rule) n later = Some (n, rule)

-- the first row of these that breaks a rule, and the least rule that it breaks
abbrev pub first_broken_after : Past → List Event → Option (ℕ × Rule)
first_broken_after s [] = None
first_broken_after s (row ∷ rows) = or_later (broken_rule s row) (s.rows + 1) (first_broken_after (after s row) rows)

abbrev pub first_broken : List Event → Option (ℕ × Rule)
first_broken log = first_broken_after start log
