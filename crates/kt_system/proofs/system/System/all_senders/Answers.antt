use Rattle.kt_system.proofs.Takes.{joined_is, joined_within}
use Rattle.kt_system.proofs.system.System.all_senders.Goals as goal

pub returns-clause-takes : goal.returns-clause-takes
returns-clause-takes c = λ q. joined_is c.args.self.now c.args.at q c.senders.result c.held_senders.result c.joined.result (c.joined.ensures q) (c.senders.ensures.sent q) (c.held_senders.ensures.held q)

pub returns-clause-within : goal.returns-clause-within
returns-clause-within c = λ q. joined_within c.args.self.now.size q c.senders.result c.held_senders.result c.joined.result (c.senders.ensures.within q) (c.held_senders.ensures.within q) (c.joined.ensures q)
