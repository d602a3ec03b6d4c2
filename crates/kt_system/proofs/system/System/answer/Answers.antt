use Rattle.std.proofs.Common.{[], rules}
use Rattle.kt_system.proofs.Tallying.{tallies_then}
use Rattle.kt_system.proofs.system.System.answer.Goals as goal

pub returns-in-Reply-clause-keeps : goal.returns-in-Reply-clause-keeps
returns-in-Reply-clause-keeps c = record {
  size = search rules;
  grows = search rules;
  tallies = tallies_then [] _ _ _ c.reply.ensures.tallies c.say_why.ensures.keeps.tallies;
}
