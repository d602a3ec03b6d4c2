use Rattle.kt_meaning.proofs.Chained.{chained_more}
use Rattle.kt_meaning.proofs.Through.{through_first}
use Rattle.kt_certify.proofs.FirstArrivals.{walk_arrived, walk_searched}
use Rattle.kt_certify.proofs.laws.linking_messages_of_walks.Goals as goal

pub returns-clause-arrived : goal.returns-clause-arrived
returns-clause-arrived c = walk_arrived

pub returns-clause-searched : goal.returns-clause-searched
returns-clause-searched c = walk_searched

pub returns-clause-more : goal.returns-clause-more
returns-clause-more c = chained_more

pub returns-clause-first : goal.returns-clause-first
returns-clause-first c = through_first
