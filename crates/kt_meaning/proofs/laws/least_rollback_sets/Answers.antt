use Rattle.kt_meaning.specs.Past.{past}
use Rattle.kt_meaning.proofs.Places.{sent_places}
use Rattle.kt_meaning.proofs.Leastness.{initiator_member, members_cut, rollback_chain, least_rollback_by_chains, least_rollback_by_links}
use Rattle.kt_meaning.proofs.laws.least_rollback_sets.Goals as goal

pub returns-clause-chain : goal.returns-clause-chain
returns-clause-chain c = λ log k i p chain first h set has consistent.
    rollback_chain (past log) i p chain set (sent_places log) h (has i first) consistent

pub returns-clause-by_chains : goal.returns-clause-by_chains
returns-clause-by_chains c = λ log k i first consistent chains. least_rollback_by_chains log k i first consistent chains

pub returns-clause-by_links : goal.returns-clause-by_links
returns-clause-by_links c = λ log k consistent each. least_rollback_by_links log k consistent each

pub returns-clause-initiator : goal.returns-clause-initiator
returns-clause-initiator c = λ log k p commit l. initiator_member log k p commit l

pub returns-clause-cut : goal.returns-clause-cut
returns-clause-cut c = λ log k p l r. members_cut log k p l r
