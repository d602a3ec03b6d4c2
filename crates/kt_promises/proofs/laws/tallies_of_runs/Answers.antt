use Rattle.kt_promises.proofs.RunsEnd.{raised_seen, few_begun, fewer_begun_seen, none_put, few_asks, few_replies, few_decisions}
use Rattle.kt_promises.proofs.PutRuns.{put_at_start, put_next}
use Rattle.kt_promises.proofs.laws.tallies_of_runs.Goals as goal

pub returns-clause-instances : goal.returns-clause-instances
returns-clause-instances c = λ plan first w i r. few_begun plan first w i r

pub returns-clause-unbegun : goal.returns-clause-unbegun
returns-clause-unbegun c = λ plan first w put k i r h. none_put plan first w put i r k h

pub returns-clause-asks : goal.returns-clause-asks
returns-clause-asks c = λ plan first w put k i r. few_asks plan first w put i r k

pub returns-clause-replies : goal.returns-clause-replies
returns-clause-replies c = λ plan first w put k i r. few_replies plan first w put i r k

pub returns-clause-decisions : goal.returns-clause-decisions
returns-clause-decisions c = λ plan first w put k i r. few_decisions plan first w put i r k

pub returns-clause-raised : goal.returns-clause-raised
returns-clause-raised c = raised_seen

pub returns-clause-fewer : goal.returns-clause-fewer
returns-clause-fewer c = λ plan first w p d i r e. fewer_begun_seen plan first w i r p d e

pub returns-clause-start : goal.returns-clause-start
returns-clause-start c = put_at_start

pub returns-clause-next : goal.returns-clause-next
returns-clause-next c = put_next
