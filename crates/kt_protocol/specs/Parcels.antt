-- Parcels in channels, and lists of them for each pair of processes.
use Rattle.std.specs.Prelude.{ℕ, ◌==◌, ◌&&◌, nat_lt, if◌then◌else◌, Bool, true, false, List, [], ◌∷◌, ◌++◌}

-- a message by its number; an ask to join an instance, with the number of a message as its label; a reply, whether
-- willing; a decision, whether committed
pub data Parcel : Type 0 where
  App : ℕ → Parcel
  Ask : ℕ → ℕ → Parcel
  Reply : ℕ → Bool → Parcel
  Decide : ℕ → Bool → Parcel

-- a list from each process to each other one
abbrev pub Lists : Type 0
Lists = ℕ → ℕ → List Parcel

-- whether there is a parcel
abbrev pub has_parcel : List Parcel → Bool
has_parcel [] = false
has_parcel (x ∷ xs) = true

-- the messages of some parcels, in order
abbrev pub messages : List Parcel → List ℕ
messages [] = []
messages (App m ∷ xs) = m ∷ messages xs
messages (Ask k l ∷ xs) = messages xs
messages (Reply k w ∷ xs) = messages xs
messages (Decide k c ∷ xs) = messages xs

-- the parcels that are messages which pass the test
unfoldable pub messages_where : (ℕ → Bool) → List Parcel → List Parcel
messages_where test [] = []
messages_where test (App m ∷ xs) = if test m then App m ∷ messages_where test xs else messages_where test xs
messages_where test (Ask k l ∷ xs) = messages_where test xs
messages_where test (Reply k w ∷ xs) = messages_where test xs
messages_where test (Decide k c ∷ xs) = messages_where test xs

-- with one more parcel from p to q
unfoldable pub with_parcel : Lists → ℕ → ℕ → Parcel → Lists
with_parcel lists p q x u v = if u == p && v == q then lists u v ++ x ∷ [] else lists u v

-- with this rest of the list from q to p
unfoldable pub with_rest : Lists → ℕ → ℕ → List Parcel → Lists
with_rest lists q p rest u v = if u == q && v == p then rest else lists u v

-- with p's asks to join checkpoint k, to each process of which it received, labelled with the last such message
unfoldable pub with_checkpoint_asks : Lists → (ℕ → ℕ → ℕ) → ℕ → ℕ → Lists
with_checkpoint_asks lists last_received p k u v = if u == p && nat_lt 0 (last_received p v) then lists u v ++ Ask k (last_received p v) ∷ [] else lists u v

-- with p's asks to join rollback k, to each process to which it sent, labelled with the last message to it that the
-- permanent checkpoint has
unfoldable pub with_rollback_asks : Lists → (ℕ → ℕ → ℕ) → (ℕ → ℕ → ℕ) → ℕ → ℕ → Lists
with_rollback_asks lists first_sent last_sent p k u v = if u == p && nat_lt 0 (first_sent p v) then lists u v ++ Ask k (last_sent p v) ∷ [] else lists u v

-- with the decision of k, told by p to each process that it asked
unfoldable pub with_decisions : Lists → (ℕ → ℕ → ℕ → Bool) → ℕ → ℕ → Bool → Lists
with_decisions lists asked p k c u v = if u == p && asked k p v then lists u v ++ Decide k c ∷ [] else lists u v

-- to each member: what it kept, and then what it holds, as far as it passes the test
unfoldable pub put_back : (ℕ → Bool) → (ℕ → Bool) → Lists → Lists → Lists
put_back test member kept held q p = if member p then messages_where test (kept q p) ++ messages_where test (held q p) else held q p

-- nothing to members
unfoldable pub emptied : (ℕ → Bool) → Lists → Lists
emptied member lists q p = if member p then [] else lists q p

-- to each member only what passes the test
unfoldable pub kept_where : (ℕ → Bool) → (ℕ → Bool) → Lists → Lists
kept_where test member lists q p = if member p then messages_where test (lists q p) else lists q p
