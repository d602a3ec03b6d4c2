-- In which order lists of messages are kept.
use Rattle.std.specs.Prelude.{◌≡◌, ℕ, ◌==◌, ◌&&◌, not, Bool, true, false, List, [], ◌∷◌, ◌++◌}
use Rattle.kt_protocol.specs.Parcels.{Parcel, App, Ask, Reply, Decide, messages_where}
use Rattle.kt_protocol.specs.Summary.{Summary}

-- all parcels of a list are messages
abbrev pub has_only_messages : List Parcel → Bool
has_only_messages [] = true
has_only_messages (App m ∷ xs) = has_only_messages xs
has_only_messages (Ask k l ∷ xs) = false
has_only_messages (Reply k w ∷ xs) = false
has_only_messages (Decide k c ∷ xs) = false

-- p is in a checkpoint
abbrev pub is_in_checkpoint : Summary → ℕ → Bool
is_in_checkpoint h p = not (h.open_in p == 0) && not (h.is_rollback (h.open_in p))

-- a list is the messages that fail the test, and then those that pass it
abbrev pub IsParted : (ℕ → Bool) → List Parcel → Type 0
IsParted test l = messages_where (λ m. not (test m)) l ++ messages_where test l ≡ l
