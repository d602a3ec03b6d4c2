-- Parts of which none was read.
use Rattle.std.proofs.Common.{◌≡◌, ◌∙◌, ℕ, Option, List, [], ◌∷◌, ◌++◌, length, sym, ap, inl, inr}
use Rattle.kt_meaning.proofs.Items.{get_push}
use Rattle.kt_merge.specs.Reading.{PartRead, part_unread}
use Rattle.kt_merge.specs.Merging.{ArePartsUnread}

pub unread_push : (parts : List PartRead) (part : PartRead) (source : Option (List ℕ)) → ArePartsUnread parts → part ≡ part_unread (length parts) source → ArePartsUnread (parts ++ part ∷ [])
unread_push parts part source all e p other at = elim (get_push parts part p other at) [
  | inl there ↦ all p other there
  | inr there ↦
      let is : other ≡ part_unread (length parts) source = there.1 ∙ e in
      let process : other.process ≡ length parts = ap (λ (x : PartRead). x.process) is in
      ((source, is ∙ ap (λ (q : ℕ). part_unread q source) (sym process)), process ∙ sym there.0)
]
