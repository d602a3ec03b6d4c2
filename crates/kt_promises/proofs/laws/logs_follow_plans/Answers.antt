use Rattle.std.proofs.Common.{arith}
use Rattle.kt_meaning.specs.Follows.{commands_of, command_rows}
use Rattle.kt_promises.proofs.CommandRows.{phases_rise, answer_first, answer_all}
use Rattle.kt_promises.proofs.FollowsRuns.{begins_seen, follows_seen, run_follows}
use Rattle.kt_promises.proofs.laws.logs_follow_plans.Goals as goal

pub returns-clause-begins : goal.returns-clause-begins
returns-clause-begins c = begins_seen

pub returns-clause-follows : goal.returns-clause-follows
returns-clause-follows c = follows_seen

pub returns-clause-counts : goal.returns-clause-counts
returns-clause-counts c = λ plan first w p i r. (run_follows plan first i w r).along.counts p

pub returns-clause-order : goal.returns-clause-order
returns-clause-order c = λ plan log m n j k b l e f. phases_rise plan log m n j k b.phases l e f

pub returns-clause-agree : goal.returns-clause-agree
returns-clause-agree c = λ plan log f. record { commands = λ p. answer_first (commands_of p plan.commands) (command_rows p log) (f.commands p); phases = f.phases }

pub returns-clause-ended : goal.returns-clause-ended
returns-clause-ended c = λ plan log b e q. record { commands = λ p. answer_all (commands_of p plan.commands) (command_rows p log) (b.commands p) (let x = e p in omega (arith, x)); phases = b.phases; quiet_end = q }
