use Rattle.std.proofs.Common.{◌≡◌, length, map}
use Rattle.kt_run.specs.Telling.{AreEmpty}
use Rattle.kt_run.proofs.journals.Journals.of.Given as goal

abbrev pub invariant-loop-number : goal.invariant-loop-number
invariant-loop-number l = (length l.lists.items ≡ l._number) × AreEmpty (map (λ v. v.items) l.lists.items)
