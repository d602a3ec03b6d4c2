-- Parts that files say, and where their log goes.
use Rattle.std.proofs.Common.{◌≡◌, ℕ, List, [], ◌∷◌, ◌++◌, length, inl, inr, refl, subst, sym}
use Rattle.kt_meaning.proofs.Items.{get_push}
use Rattle.kt_merge.specs.Reading.{PartRead, part_unread}
use Rattle.kt_merge.specs.declared.fault.MergeFault.{MergeFault}
use Rattle.kt_merge.specs.Merging.{StopsMerge, WritesMerge, log_text}
use Rattle.kt_program.specs.declared.line.Merging.{Merging}
use Rattle.kt_program.specs.declared.fault.AppFault.{AppFault}
use Rattle.kt_program.specs.Merged.{AreReadFrom, IsMergedText, IsStopOf, MergesTo, of_merge}
use Rattle.kt_program.specs.Outputs.{TextGoesTo}
use Rattle.kt_program.specs.Stored.{BytesTold}

-- one more part is what a file says
pub read_push : {F : Type 0} (told : F → BytesTold) (parts : List PartRead) (file : F) → AreReadFrom told parts → AreReadFrom told (parts ++ part_unread (length parts) (told file) ∷ [])
read_push told parts file read p part at = elim (get_push parts (part_unread (length parts) (told file)) p part at) [
  | inl there ↦ read p part there
  | inr there ↦ (file, subst (λ (q : ℕ). part ≡ part_unread q (told file)) (sym there.0) there.1)
]

-- what was merged has a text
pub has_text : (parts : List PartRead) (old new : BytesTold) → WritesMerge parts old new → (text : List ℕ) × IsMergedText parts text
has_text parts old new w = (log_text w.log, record { rows = w.rows; log = w.log; merged = w.merged; numbers = w.numbers; written = refl })

-- their log goes where it is asked for
pub merges_to : {F : Type 0} (told : F → BytesTold) (asked : Merging) (old new : BytesTold) (parts : List PartRead) → AreReadFrom told parts → length parts ≡ length asked.parts.items → (text : List ℕ) → IsMergedText parts text
    → TextGoesTo asked.log text old new → MergesTo told asked old new
merges_to told asked old new parts read long text merged goes = (parts, read, long, text, merged, goes)

-- the merge of parts stops, and that is answered
pub stop_of : (parts : List PartRead) (why : MergeFault) (old new : BytesTold) (fault : AppFault) → StopsMerge parts old new why → fault ≡ of_merge why → IsStopOf parts fault
stop_of parts why old new fault stops is = (why, old, new, stops, is)
