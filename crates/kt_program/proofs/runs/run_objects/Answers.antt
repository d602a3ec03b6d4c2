use Rattle.std.proofs.Common.{refl}
use Rattle.kt_program.specs.Made.{IsMadeAs, order_by}
use Rattle.kt_program.specs.Played.{OverNew}
use Rattle.kt_program.proofs.OrderedRuns.{listed_so, recorded_by, stopped_by}
use Rattle.kt_program.proofs.runs.run_objects.Goals as goal

pub returns-clause-recorded : goal.returns-clause-recorded
returns-clause-recorded g c =
    let made = c.in_ok-made.ensures.made in
    recorded_by c.write_recorded.result
    (λ moves. OverNew c.args.plan.now (λ cast. IsMadeAs c.args.run.now.by (order_by c.args.run.now.seed) c.args.plan.now cast c.args.steps.now moves))
    c.args.plan.now made.0 made.0 c.in_ok-made.made.log.rows _ _ refl made.2 c.in_ok-made.ensures.follows c.in_ok-made.ensures.promised
    c.write_recorded.ensures.written (c.write_recorded.ensures.steps made.0 (listed_so _ _ _ _ made.0 c.keep-keep.ensures c.as_slice.ensures.value made.1))

pub returns-clause-stopped : goal.returns-clause-stopped
returns-clause-stopped g c =
    let made = c.in_ok-made.ensures.made in
    stopped_by c.write_recorded.result
    (λ moves. OverNew c.args.plan.now (λ cast. IsMadeAs c.args.run.now.by (order_by c.args.run.now.seed) c.args.plan.now cast c.args.steps.now moves))
    c.args.plan.now made.0 made.0 c.in_ok-made.made.log.rows _ _ refl made.2
    (c.write_recorded.ensures.stopped made.0 (listed_so _ _ _ _ made.0 c.keep-keep.ensures c.as_slice.ensures.value made.1))
