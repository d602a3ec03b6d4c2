-- The rules of checkpoints, of one process that made a list of calls on its tables.
use Rattle.std.specs.Prelude.{ℕ, ◌==◌, nat_le, if◌then◌else◌, Bool, true, false, Option, Some, None, List}
use Rattle.std.specs.List.{list_any}
use Rattle.kt_base.specs.declared.words.Cause.{Cause}
use Rattle.kt_base.specs.declared.words.Cause.TheVariants.{Busy, Down, NoSave}
use Rattle.kt_tables.specs.Calls.{Call, parts, sents}
use Rattle.kt_process.specs.Answers.{Answer, replies, joins}

-- whether an ask of q with this label makes the process take part: it sent q a message since its last checkpoint that q had received
unfoldable pub must_join : List Call → ℕ → ℕ → Bool
must_join calls q label = list_any (λ x. nat_le x label) (sents q (parts calls).since)

-- why a process takes no checkpoint
abbrev pub checkpoint_refusal : Option ℕ → Bool → Bool → Option Cause
checkpoint_refusal (Some inst) up able = Some (Busy inst)
checkpoint_refusal None false able = Some Down
checkpoint_refusal None true false = Some NoSave
checkpoint_refusal None true true = None

-- what comes of an ask
abbrev pub checkpoint_answer : Option ℕ → Bool → Bool → ℕ → Bool → Answer
checkpoint_answer (Some other) up able inst must = if other == inst then replies true None else replies false (Some (Busy other))
checkpoint_answer None up able inst false = replies true None
checkpoint_answer None false able inst true = replies false (Some Down)
checkpoint_answer None true false inst true = replies false (Some NoSave)
checkpoint_answer None true true inst true = joins
