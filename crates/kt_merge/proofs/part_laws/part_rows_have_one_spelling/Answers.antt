use Rattle.kt_merge.proofs.SpellingFacts.{one_row, six_fields}
use Rattle.kt_merge.proofs.part_laws.part_rows_have_one_spelling.Goals as goal

pub returns-clause-fields : goal.returns-clause-fields
returns-clause-fields c = six_fields

pub returns-clause-alone : goal.returns-clause-alone
returns-clause-alone c = one_row
