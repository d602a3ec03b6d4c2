-- The answers of those who were unwilling, kept by instance.
use Rattle.std.specs.Prelude.{◌-◌, ◌==◌, ℕ, List, [], ◌∷◌, if◌then◌else◌, codes, slice_index_or}
use Rattle.std.specs.List.{flat_map}
use Rattle.kt_base.specs.declared.words.Cause.{Cause}
use Rattle.kt_spacetime.specs.declared.event.Event.{Event}
use Rattle.kt_spacetime.specs.declared.event.Event.TheVariants.{Unwilling}
use Rattle.kt_log_text.specs.Spelling.{cause_word}
use Rattle.kt_report.specs.Lines.{line, name_of}

-- a process, and why it was unwilling
abbrev pub UnwillingAnswer : Type 0
UnwillingAnswer = ℕ × Cause

-- its line: its name and why
abbrev pub answer_line : List (List ℕ) → UnwillingAnswer → List ℕ
answer_line names answer = line (codes "unwilling" ∷ name_of names answer.0 ∷ cause_word answer.1 ∷ [])

-- what a row says of who was unwilling to join an instance
abbrev pub unwilling_in : ℕ → Event → List UnwillingAnswer
unwilling_in inst (Unwilling p other cause) = if other == inst then (p, cause) ∷ [] else []
unwilling_in inst _ = []

-- who was unwilling to join an instance, in the order of the rows
abbrev pub unwilling_of : ℕ → List Event → List UnwillingAnswer
unwilling_of inst rows = flat_map (unwilling_in inst) rows

-- the answers to an instance: instances are numbered from 1
abbrev pub answers_to : List (List UnwillingAnswer) → ℕ → List UnwillingAnswer
answers_to lists inst = slice_index_or lists (inst - 1) []
