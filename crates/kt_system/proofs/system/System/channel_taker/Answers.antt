use Rattle.kt_system.proofs.Takes.{first_receiver}
use Rattle.kt_system.proofs.system.System.channel_taker.Goals as goal

pub returns-clause-first : goal.returns-clause-first
returns-clause-first c = first_receiver _ _ c.receivers.result c.first.result c.self.view_is c.receivers.ensures.some c.receivers.ensures.none c.first.ensures.member c.first.ensures.least c.first.ensures.none
