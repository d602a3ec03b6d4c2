-- The messages that a process has of one sender.
use Rattle.std.specs.Prelude.{ℕ, ◌+◌, ◌<◌, nat_le, Bool, true, false, Option, Some, None, List, [], ◌∷◌, length, filter}
use Rattle.kt_manager.specs.declared.received.Item.{Item}

-- those that it received and keeps, those that it holds, in order; and how many there is space for in all
pub record Messages : Type 0 where
  pub kept : List Item
  pub held : List Item
  pub space : ℕ

-- no messages, and space for none
abbrev pub no_messages : Messages
no_messages = record { kept = []; held = []; space = 0 }

-- there is room for one more
abbrev pub HasRoom : Messages → Type 0
HasRoom m = length m.kept + length m.held < m.space

-- whether there is a message
abbrev pub has_some : List Item → Bool
has_some [] = false
has_some (x ∷ xs) = true

-- whether a message's label is not above this one
abbrev pub is_within : ℕ → Item → Bool
is_within most item = nat_le item.label most

-- the messages that are not above the noted label, if one was noted
abbrev pub within : Option ℕ → List Item → List Item
within None messages = messages
within (Some most) messages = filter (is_within most) messages
