use Rattle.kt_chain.proofs.SpellingFacts.{one_list, five_fields}
use Rattle.kt_chain.proofs.laws.one_spelling.Goals as goal

pub returns-clause-fields : goal.returns-clause-fields
returns-clause-fields c = five_fields

pub returns-clause-alone : goal.returns-clause-alone
returns-clause-alone c = one_list
