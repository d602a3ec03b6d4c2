use Rattle.std.proofs.Common.{length, ℕ, refl, inl}
use Rattle.kt_plan.specs.Limits.{Planned, IsPlan}
use Rattle.kt_promises.specs.Progress.{Progress}
use Rattle.kt_promises.specs.Runs.{RunReaches}
use Rattle.kt_meaning.specs.DecidedWell.{IsDecidedWell}
use Rattle.kt_promises.proofs.ReachedRuns.{log_of}
use Rattle.kt_promises.proofs.DecidedLogs.{decided_well}
use Rattle.kt_promises.proofs.certificates.certificates_of_runs.Goals as goal

well : (plan : Planned) (first : ℕ) (w : Progress) → IsPlan plan → RunReaches plan first w → IsDecidedWell w.now.log
well plan first w i r = log_of plan first w IsDecidedWell i r (decided_well (length plan.names))

pub returns-clause-complete : goal.returns-clause-complete
returns-clause-complete c = λ plan first w i r. c.certificates_of_legal_logs.ensures.complete w.now.log (well plan first w i r).legal

pub returns-clause-rising : goal.returns-clause-rising
returns-clause-rising c = λ plan first w. c.certificates_of_logs.ensures.rising w.now.log

pub returns-clause-stated : goal.returns-clause-stated
returns-clause-stated c = λ plan first w. c.certificates_of_legal_logs.ensures.stated w.now.log

pub returns-clause-lists : goal.returns-clause-lists
returns-clause-lists c = λ plan first w i n d p r.
    let h = well plan first w p r in
    c.certificates_of_legal_logs.ensures.chains w.now.log i n d h.legal (λ k q. c.certificates_of_well_decided_logs.ensures.chained w.now.log k q h)

pub returns-clause-chained : goal.returns-clause-chained
returns-clause-chained c = λ plan first w k p i r. c.certificates_of_well_decided_logs.ensures.chained w.now.log k p (well plan first w i r)

pub returns-clause-certified : goal.returns-clause-certified
returns-clause-certified c = λ plan first w f i r. c.certificates_of_well_decided_logs.ensures.certified w.now.log f (well plan first w i r)

pub returns-clause-passed : goal.returns-clause-passed
returns-clause-passed c = λ plan first w i r. c.certificates_of_well_decided_logs.ensures.passed w.now.log (well plan first w i r)

pub returns-clause-answer : goal.returns-clause-answer
returns-clause-answer c = λ plan first w i r. inl (refl, c.certificates_of_well_decided_logs.ensures.passed w.now.log (well plan first w i r))

pub returns-clause-yes : goal.returns-clause-yes
returns-clause-yes c = λ plan first w v i r. c.certificates_of_well_decided_logs.ensures.yes w.now.log v (well plan first w i r)
