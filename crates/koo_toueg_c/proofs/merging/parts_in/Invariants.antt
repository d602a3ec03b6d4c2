use Rattle.std.proofs.Common.{◌≡◌, ℕ, Some, length, map}
use Rattle.std.specs.Prelude.{slice_get}
use Rattle.kt_merge.specs.Merging.{ArePartsUnread}
use Rattle.kt_merge.specs.Reading.{PartRead}
use Rattle.koo_toueg_c.specs.Merged.{IsReaderOf}
use Rattle.koo_toueg_c.proofs.merging.parts_in.Given as goal

abbrev pub invariant-loop-text : goal.invariant-loop-text
invariant-loop-text l = record {
  long : length l.parts ≡ l.text-index;
  unread : ArePartsUnread l.parts;
  read : (p : ℕ) (part : PartRead) → slice_get l.parts p ≡ Some part → IsReaderOf (map (λ t. t.now) l.texts) p part;
}
