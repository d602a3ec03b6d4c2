use Rattle.kt_meaning.specs.Past.{past}
use Rattle.kt_meaning.proofs.Places.{sent_places}
use Rattle.kt_meaning.proofs.Leastness.{members_choice, checkpoint_chain, least_checkpoint_by_chains, least_checkpoint_by_links}
use Rattle.kt_meaning.proofs.laws.least_checkpoint_sets.Goals as goal

pub returns-clause-chain : goal.returns-clause-chain
returns-clause-chain c = λ log k i p chain first h set cut choice consistent.
    checkpoint_chain (past log) k i p chain set cut (sent_places log) h (choice.initiator i first) choice consistent

pub returns-clause-by_chains : goal.returns-clause-by_chains
returns-clause-by_chains c = λ log k i first consistent chains. least_checkpoint_by_chains log k i first consistent chains

pub returns-clause-by_links : goal.returns-clause-by_links
returns-clause-by_links c = λ log k consistent each. least_checkpoint_by_links log k consistent each

pub returns-clause-choice : goal.returns-clause-choice
returns-clause-choice c = λ log k p commit l. members_choice log k p commit l
