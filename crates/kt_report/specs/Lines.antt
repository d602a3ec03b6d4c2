-- The lines of a report.
use Rattle.std.specs.Prelude.{◌-◌, ◌==◌, ℕ, ℤ, List, [], ◌∷◌, ◌++◌, Option, Some, None, if◌then◌else◌, codes, map, slice_get, slice_index_or}
use Rattle.std.specs.List.{flat_map, join_with_byte}
use Rattle.std.specs.Fmt.{decimal, signed_decimal}
use Rattle.kt_spacetime.specs.declared.event.Event.{Event}
use Rattle.kt_spacetime.specs.declared.event.Event.TheVariants.{Sent, Unwilling, Refused}
use Rattle.kt_text.specs.Words.{kind_word, decision_word}
use Rattle.kt_chain.specs.Spelling.{Member}
use Rattle.kt_spacetime.specs.declared.certificate.Certificate.{Certificate}
use Rattle.kt_log_text.specs.Spelling.{verb_word, cause_word}

-- words separated by blanks and ended by a line feed
abbrev pub line : List (List ℕ) → List ℕ
line words = join_with_byte 32 words ++ 10 ∷ []

-- the name of a process, or `-` where it has none
abbrev pub name_of : List (List ℕ) → ℕ → List ℕ
name_of names p = slice_index_or names p (codes "-")

-- the line of an instance: its number, its kind, its initiator and how it was decided
abbrev pub instance_line : List (List ℕ) → Certificate → List ℕ
instance_line names c = line (codes "instance" ∷ decimal c.inst ∷ kind_word c.kind ∷ name_of names c.initiator ∷ decision_word c.commit ∷ [])

-- between whom a message went, as the row that sent it says
abbrev pub ends_word : List (List ℕ) → Option Event → List ℕ
ends_word names (Some (Sent p to body)) = 58 ∷ (name_of names p ++ 62 ∷ name_of names to)
ends_word names _ = []

-- a message of a chain: its number and between whom it went
abbrev pub message_word : List (List ℕ) → List Event → ℕ → List ℕ
message_word names rows msg = decimal msg ++ ends_word names (slice_get rows (msg - 1))

-- the messages of a chain, each with a blank before it
abbrev pub chain_words : List (List ℕ) → List Event → List ℕ → List ℕ
chain_words names rows messages = flat_map (λ (msg : ℕ). 32 ∷ message_word names rows msg) messages

-- the line of a member: its name and the messages of its chain
abbrev pub member_line : List (List ℕ) → List Event → Member → List ℕ
member_line names rows member = line (codes "member" ∷ name_of names member.0 ∷ map (message_word names rows) member.1)

-- the line of a row by which a process is unwilling to join this instance: its name and why; nothing for another row
abbrev pub unwilling_line : List (List ℕ) → ℕ → Event → List ℕ
unwilling_line names inst (Unwilling p other cause) =
    if other == inst then line (codes "unwilling" ∷ name_of names p ∷ cause_word cause ∷ []) else []
unwilling_line names inst _ = []

-- the lines of an instance: its own, and those of its members if it was committed, of who was unwilling if it was aborted
abbrev pub instance_lines : List (List ℕ) → List Event → Certificate → List ℕ
instance_lines names rows c =
    instance_line names c
    ++ (if c.commit then flat_map (member_line names rows) c.members else flat_map (unwilling_line names c.inst) rows)

-- the line of a row that refuses a command: its process, the command and why; nothing for another row
abbrev pub refusal_line : List (List ℕ) → Event → List ℕ
refusal_line names (Refused p verb cause) = line (codes "refused" ∷ name_of names p ∷ verb_word verb ∷ cause_word cause ∷ [])
refusal_line names _ = []

-- the line of an object: the name of its process, and that it is up and what it offers, or that it is down
abbrev pub object_line : List ℕ → Option ℤ → List ℕ
object_line name (Some offer) = line (codes "object" ∷ name ∷ codes "up" ∷ signed_decimal offer ∷ [])
object_line name None = line (codes "object" ∷ name ∷ codes "down" ∷ [])

-- the last line: how many messages were lost and how many dropped
abbrev pub losses_line : ℕ → ℕ → List ℕ
losses_line lost dropped = line (codes "lost" ∷ decimal lost ∷ codes "dropped" ∷ decimal dropped ∷ [])
