use Rattle.kt_meaning.proofs.Members.{contains_member, member_contained, joins_once}
use Rattle.kt_meaning.proofs.FirstMembers.{first_members}
use Rattle.kt_meaning.proofs.laws.members_of_legal_logs.Goals as goal

pub returns-clause-member : goal.returns-clause-member
returns-clause-member c = λ log k p. (λ m. contains_member log k p m, λ h. member_contained log k p h)

pub returns-clause-joins_once : goal.returns-clause-joins_once
returns-clause-joins_once c = λ log l k i j p e f. let g = joins_once log l in g.once k i j p e f

pub returns-clause-initiator_first : goal.returns-clause-initiator_first
returns-clause-initiator_first c = λ log l k p e. let g = first_members log l in g.first k p e
