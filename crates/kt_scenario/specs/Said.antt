-- What is known of a scenario after some of its lines.
use Rattle.std.specs.Prelude.{◌+◌, ◌∷◌, ◌++◌, [], ℕ, ℤ, List, Option, Some, None, codes, if◌then◌else◌}
use Rattle.std.specs.Str.{bytes_eq}
use Rattle.std.specs.Fmt.{signed_decimal}
use Rattle.kt_plan.specs.declared.commands.Command.{Command}
use Rattle.kt_plan.specs.declared.commands.Job.{Job}
use Rattle.kt_plan.specs.Limits.{Planned}
use Rattle.kt_scenario.specs.declared.draft.Word.{Word}
use Rattle.kt_scenario.specs.declared.draft.Word.TheVariants.{Object, Send, Checkpoint, Rollback, Fail, Settle}

-- the names, kinds and commands that were said, and the phase of the commands that follow
pub record Said : Type 0 where
  pub names : List (List ℕ)
  pub kinds : List ℕ
  pub commands : List Command
  pub phase : ℕ

-- before the first line
abbrev pub nothing_said : Said
nothing_said = record { names = []; kinds = []; commands = []; phase = 0 }

-- the plan that was said
abbrev pub plan_of : Said → Planned
plan_of said = record { names = said.names; kinds = said.kinds; commands = said.commands }

-- one object more
abbrev pub with_object : Said → List ℕ → ℕ → Said
with_object said name kind = record said { names = said.names ++ name ∷ []; kinds = said.kinds ++ kind ∷ [] }

-- one command more, of the present phase
abbrev pub with_command : Said → ℕ → Job → Said
with_command said by job = record said { commands = said.commands ++ (record { by = by; phase = said.phase; job = job }) ∷ [] }

-- the next phase
abbrev pub settled : Said → Said
settled said = record said { phase = said.phase + 1 }

-- which of the seven first words a word is
abbrev pub word_in : List ℕ → Option Word
word_in word =
    if bytes_eq word (codes "object") then Some Object else
    if bytes_eq word (codes "send") then Some Send else
    if bytes_eq word (codes "checkpoint") then Some Checkpoint else
    if bytes_eq word (codes "rollback") then Some Rollback else
    if bytes_eq word (codes "fail") then Some Fail else
    if bytes_eq word (codes "settle") then Some Settle else None

-- which kind of object a word names
abbrev pub kind_in : List ℕ → Option ℕ
kind_in word =
    if bytes_eq word (codes "sum") then Some 0 else
    if bytes_eq word (codes "last") then Some 1 else
    if bytes_eq word (codes "tail") then Some 2 else None

-- how the body of a send is spelled: a whole number, or `.` for what the object offers
abbrev pub body_word : Option ℤ → List ℕ
body_word None = codes "."
body_word (Some body) = signed_decimal body
