use Rattle.std.proofs.Common.{◌≡◌, ◌++◌, List, subst, sym}
use Rattle.kt_spacetime.specs.declared.deeds.Deed.{Deed}
use Rattle.kt_meaning.specs.Past.{Past, past}
use Rattle.kt_meaning.proofs.LegalLogs.{past_push, legal_last}
use Rattle.kt_meaning.proofs.Positions.{positions, member_inside, new_inside, live_grows, permanent_stays}
use Rattle.kt_meaning.proofs.laws.positions_of_legal_logs.Goals as goal

pub returns-clause-permanent : goal.returns-clause-permanent
returns-clause-permanent c = λ log l p. let g = positions log l in g.permanent_within p

pub returns-clause-inside : goal.returns-clause-inside
returns-clause-inside c = λ log l k p v m. member_inside (past log) (positions log l) k p v m

pub returns-clause-joined : goal.returns-clause-joined
returns-clause-joined c = λ log l k p o. let g = positions log l in g.inside_member p k o

pub returns-clause-new : goal.returns-clause-new
returns-clause-new c = λ log l k p h. new_inside (past log) (positions log l) k p h

pub returns-clause-uncut : goal.returns-clause-uncut
returns-clause-uncut c = λ log row l k p h.
    let parts = legal_last log row l in
    subst (λ (t : Past). (more : List Deed) × (t.live p ≡ (past log).live p ++ more)) (sym (past_push log row)) (live_grows (past log) row (positions log parts.0) parts.1 k p h)

pub returns-clause-unmoved : goal.returns-clause-unmoved
returns-clause-unmoved c = λ log row l k p h d.
    let parts = legal_last log row l in
    subst (λ (t : Past). t.permanent p ≡ (past log).permanent p) (sym (past_push log row)) (permanent_stays (past log) row (positions log parts.0) parts.1 k p h d)
