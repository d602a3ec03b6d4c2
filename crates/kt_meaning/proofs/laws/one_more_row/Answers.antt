use Rattle.std.proofs.Common.{ap}
use Rattle.kt_meaning.specs.Past.{Past}
use Rattle.kt_meaning.proofs.LegalLogs.{past_push}
use Rattle.kt_meaning.proofs.Members.{members_push}
use Rattle.kt_meaning.proofs.laws.one_more_row.Goals as goal

pub returns-clause-live : goal.returns-clause-live
returns-clause-live c = λ log row p. ap (λ (s : Past). s.live p) (past_push log row)

pub returns-clause-permanent : goal.returns-clause-permanent
returns-clause-permanent c = λ log row p. ap (λ (s : Past). s.permanent p) (past_push log row)

pub returns-clause-new : goal.returns-clause-new
returns-clause-new c = λ log row k p. ap (λ (s : Past). s.new k p) (past_push log row)

pub returns-clause-members : goal.returns-clause-members
returns-clause-members c = λ log row k. members_push log row k
