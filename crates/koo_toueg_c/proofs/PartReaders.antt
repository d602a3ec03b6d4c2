-- Parts that texts are.
use Rattle.std.proofs.Common.{◌≡◌, ℕ, Some, List, [], ◌∷◌, ◌++◌, length, inl, inr, subst, sym}
use Rattle.std.specs.Prelude.{slice_get}
use Rattle.kt_meaning.proofs.Items.{get_push}
use Rattle.kt_merge.specs.Reading.{PartRead, part_unread}
use Rattle.koo_toueg_c.specs.Merged.{IsReaderOf}

-- one more reader, of the next text
pub reader_push : (texts : List (List ℕ)) (parts : List PartRead) (text : List ℕ) → slice_get texts (length parts) ≡ Some text
    → ((p : ℕ) (part : PartRead) → slice_get parts p ≡ Some part → IsReaderOf texts p part)
    → (p : ℕ) (part : PartRead) → slice_get (parts ++ part_unread (length parts) (Some text) ∷ []) p ≡ Some part → IsReaderOf texts p part
reader_push texts parts text there read p part at = elim (get_push parts (part_unread (length parts) (Some text)) p part at) [
  | inl old ↦ read p part old
  | inr new ↦ (text, subst (λ (q : ℕ). slice_get texts q ≡ Some text) (sym new.0) there, subst (λ (q : ℕ). part ≡ part_unread q (Some text)) (sym new.0) new.1)
]
