use Rattle.kt_log_text.proofs.SpellingFacts.{one_row, four_fields}
use Rattle.kt_log_text.proofs.laws.one_spelling.Goals as goal

pub returns-clause-fields : goal.returns-clause-fields
returns-clause-fields c = four_fields

pub returns-clause-alone : goal.returns-clause-alone
returns-clause-alone c = one_row
