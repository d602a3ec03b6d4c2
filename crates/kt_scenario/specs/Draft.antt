-- What a draft of a plan says.
use Rattle.kt_scenario.specs.declared.draft.Draft.{Draft}
use Rattle.kt_scenario.specs.Said.{Said}

-- the parts of a draft, as lists
abbrev pub said_of : Draft → Said
said_of draft = record { names = draft.names; kinds = draft.kinds.items; commands = draft.commands.items; phase = draft.phase }
