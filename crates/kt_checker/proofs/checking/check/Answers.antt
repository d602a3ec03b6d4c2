use Rattle.std.proofs.lemmas.Result.{IfOk-weaker}
use Rattle.std.proofs.lemmas.Option.{slice_get_within}
use Rattle.kt_meaning.proofs.Sound.{checkpoints_least, rollbacks_least, aborts}
use Rattle.kt_checker.proofs.Sound.{permanent_consistent, present_consistent}
use Rattle.kt_meaning.proofs.Answering.{passed_of, yes_of}
use Rattle.kt_checker.proofs.checking.check.Goals as goal

pub returns-clause-yes : goal.returns-clause-yes
returns-clause-yes c = IfOk-weaker c.judge_rows.result _ _ (λ v h. (λ e. passed_of c.args.log.now.rows c.args.certificates.now v h e, λ passed. yes_of c.args.log.now.rows c.args.certificates.now v h passed)) c.judge_rows.ensures

pub returns-clause-legal : goal.returns-clause-legal
returns-clause-legal c = IfOk-weaker c.judge_rows.result _ _ (λ v h e. (passed_of c.args.log.now.rows c.args.certificates.now v h e).legal) c.judge_rows.ensures

pub returns-clause-passes : goal.returns-clause-passes
returns-clause-passes c = IfOk-weaker c.judge_rows.result _ _ (λ v h e i certificate at.
    let passed = passed_of c.args.log.now.rows c.args.certificates.now v h e in
    (passed.pass i certificate (slice_get_within c.args.certificates.now i certificate at) at).0) c.judge_rows.ensures

pub returns-clause-complete : goal.returns-clause-complete
returns-clause-complete c = IfOk-weaker c.judge_rows.result _ _ (λ v h e. (passed_of c.args.log.now.rows c.args.certificates.now v h e).complete) c.judge_rows.ensures

pub returns-clause-checkpoints : goal.returns-clause-checkpoints
returns-clause-checkpoints c = IfOk-weaker c.judge_rows.result _ _ (λ v h e. checkpoints_least c.args.log.now.rows c.args.certificates.now (passed_of c.args.log.now.rows c.args.certificates.now v h e)) c.judge_rows.ensures

pub returns-clause-rollbacks : goal.returns-clause-rollbacks
returns-clause-rollbacks c = IfOk-weaker c.judge_rows.result _ _ (λ v h e. rollbacks_least c.args.log.now.rows c.args.certificates.now (passed_of c.args.log.now.rows c.args.certificates.now v h e)) c.judge_rows.ensures

pub returns-clause-aborts : goal.returns-clause-aborts
returns-clause-aborts c = IfOk-weaker c.judge_rows.result _ _ (λ v h e. aborts c.args.log.now.rows c.args.certificates.now (passed_of c.args.log.now.rows c.args.certificates.now v h e)) c.judge_rows.ensures

pub returns-clause-permanent : goal.returns-clause-permanent
returns-clause-permanent c = IfOk-weaker c.judge_rows.result _ _ (λ v h e. permanent_consistent c.args.log.now.rows c.args.certificates.now (passed_of c.args.log.now.rows c.args.certificates.now v h e)) c.judge_rows.ensures

pub returns-clause-present : goal.returns-clause-present
returns-clause-present c = IfOk-weaker c.judge_rows.result _ _ (λ v h e. present_consistent c.args.log.now.rows c.args.certificates.now (passed_of c.args.log.now.rows c.args.certificates.now v h e)) c.judge_rows.ensures
