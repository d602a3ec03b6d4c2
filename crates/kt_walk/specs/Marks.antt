-- Messages of which some are marked, and marks that are counted in a tree.
use Rattle.std.specs.Prelude.{◌≡◌, ℕ, zero, suc, ◌+◌, ◌*◌, ◌^◌, ◌<◌, ◌≤◌, Bool, true, false, Some, List, [], ◌∷◌, length, slice_get, slice_index, slice_index_or}
use Rattle.kt_walk.specs.declared.in_transit.Sent.{Sent}

-- how many marks are set
abbrev pub ones : List Bool → ℕ
ones [] = 0
ones (false ∷ marks) = ones marks
ones (true ∷ marks) = suc (ones marks)

-- the messages whose marks are set
abbrev pub pick : List Bool → List Sent → List Sent
pick [] messages = []
pick (mark ∷ marks) [] = []
pick (false ∷ marks) (message ∷ messages) = pick marks messages
pick (true ∷ marks) (message ∷ messages) = message ∷ pick marks messages

-- the same; all of them, where there are no marks
abbrev pub shown : List Bool → List Sent → List Sent
shown [] messages = messages
shown (mark ∷ marks) messages = pick (mark ∷ marks) messages

-- the numbers of messages rise
pub record AreRisingMessages (messages : List Sent) : Type 0 where
  pub each : (j k : ℕ) (a b : Sent) → j < k → slice_get messages j ≡ Some a → slice_get messages k ≡ Some b → a.msg < b.msg

-- marks fit messages whose numbers rise: there are more of them, and those past the messages are not set
pub record HasMarkOfEach (marks : List Bool) (messages : List Sent) : Type 0 where
  pub within : length messages < length marks
  pub past : (k : ℕ) → length messages ≤ k → slice_index_or marks k false ≡ false
  pub rising : AreRisingMessages messages

-- marks, and how many there can be before them
pub record Marking : Type 0 where
  pub marks : List Bool
  pub before : ℕ

-- a power of two
abbrev pub IsPower : ℕ → Type 0
IsPower n = (k : ℕ) × (n ≡ 2 ^ k)

-- which of these numbers are not 0
abbrev pub marks_of : List ℕ → List Bool
marks_of [] = []
marks_of (zero ∷ counts) = false ∷ marks_of counts
marks_of (suc n ∷ counts) = true ∷ marks_of counts

-- the leaves of a tree of counts, which are so many: zeros and ones, and the first ones are zeros
pub record HasLeaves (nodes : List ℕ) (width base : ℕ) : Type 0 where
  pub length : length nodes ≡ 2 * width
  pub power : 0 < width → IsPower width
  pub small : width ≤ 2 ^ 30
  pub base_within : base ≤ width
  pub some_left : 0 < width → base < width
  pub bits : (j : ℕ) → width ≤ j → slice_index nodes j ≤ 1
  pub bounded : (j : ℕ) → j * slice_index nodes j ≤ 2 * width
  pub front : (j : ℕ) → width ≤ j → j < width + base → slice_index nodes j ≡ 0

-- a tree of counts: each node that is no leaf is the sum of two
pub record IsTree (nodes : List ℕ) (width base : ℕ) : Type 0 where
  pub leaves : HasLeaves nodes width base
  pub sums : (j : ℕ) → 0 < j → j < width → slice_index nodes j ≡ slice_index nodes (2 * j) + slice_index nodes (2 * j + 1)
