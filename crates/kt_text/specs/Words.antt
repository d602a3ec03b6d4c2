-- Words and numbers of log and certificate texts.
use Rattle.std.specs.Prelude.{◌≡◌, ◌≢◌, ◌<◌, ℕ, Bool, true, false, List, codes, drop, length, slice_index}
use Rattle.std.specs.Int.{IsInRange}
use Rattle.kt_base.specs.declared.words.Kind.{Kind}
use Rattle.kt_base.specs.declared.words.Kind.TheVariants.{Checkpoint, Rollback}

-- the word of a kind of instance
abbrev pub kind_word : Kind → List ℕ
kind_word Checkpoint = codes "checkpoint"
kind_word Rollback = codes "rollback"

-- the word of a commit or an abort
abbrev pub decision_word : Bool → List ℕ
decision_word true = codes "commit"
decision_word false = codes "abort"

-- a text begins with a digit, which is not 0 where more follow
abbrev pub BeginsAsNumber : List ℕ → Type 0
BeginsAsNumber text = (0 < length text) × IsInRange 48 57 (slice_index text 0) × (slice_index text 0 ≡ 48 → length text ≡ 1)

-- the same, or it begins so after a `-`, with a digit other than 0
abbrev pub BeginsAsBody : List ℕ → Type 0
BeginsAsBody text = (slice_index text 0 ≢ 45 → BeginsAsNumber text) × (slice_index text 0 ≡ 45 → BeginsAsNumber (drop 1 text) × (slice_index (drop 1 text) 0 ≢ 48))
