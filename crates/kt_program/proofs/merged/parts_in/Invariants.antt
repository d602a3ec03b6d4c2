use Rattle.std.proofs.Common.{◌≡◌, length}
use Rattle.kt_merge.specs.Merging.{ArePartsUnread}
use Rattle.kt_program.specs.Merged.{AreReadFrom}
use Rattle.kt_program.proofs.merged.parts_in.Given as goal

abbrev pub invariant-loop-place : goal.invariant-loop-place
invariant-loop-place g l = record {
  long : length l.parts ≡ l.place;
  unread : ArePartsUnread l.parts;
  read : AreReadFrom g.F.File.Read.remaining l.parts;
}
