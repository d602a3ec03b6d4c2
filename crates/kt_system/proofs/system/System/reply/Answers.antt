use Rattle.kt_system.proofs.Tallying.{tallies_replied}
use Rattle.kt_system.proofs.system.System.reply.Goals as goal

pub returns-clause-shows : goal.returns-clause-shows
returns-clause-shows c = λ v h. c.count.ensures.shows _ (c.put.ensures.shows v h)

pub returns-clause-tallies : goal.returns-clause-tallies
returns-clause-tallies c = tallies_replied _ _ _ c.args.p c.args.to c.args.inst c.args.willing c.requires.p c.requires.to c.put.ensures.keeps.size c.put.ensures.channels c.put.ensures.tallies c.count.ensures.tallies
