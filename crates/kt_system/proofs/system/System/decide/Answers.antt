use Rattle.std.proofs.Common.{[], rules}
use Rattle.kt_system.proofs.Tallying.{tallies_then}
use Rattle.kt_system.proofs.Growing.{grows_by, grows_then}
use Rattle.kt_system.proofs.system.System.decide.Goals as goal

pub returns-clause-keeps : goal.returns-clause-keeps
returns-clause-keeps c = record {
  size = search rules;
  grows = grows_then 1 1 _ _ _ (grows_by _ _ _ c.write.ensures.rows) c.close.ensures.keeps.grows;
  tallies = tallies_then [] _ _ _ c.write.ensures.tallies c.close.ensures.keeps.tallies;
}
