use Rattle.std.proofs.Common.{map, subst, sym, ◌∙◌}
use Rattle.kt_object.specs.Holdings.{content}
use Rattle.kt_program.specs.Made.{IsFaultOverNew, order_by}
use Rattle.kt_program.proofs.Casting.{are_new}
use Rattle.kt_program.proofs.KeptRuns.{made_in_threads, made_serially}
use Rattle.kt_program.proofs.MadeRuns.{refused_anew, refused_in, serial_fault, threads_fault}
use Rattle.kt_program.proofs.NewCasts.{neither}
use Rattle.kt_program.proofs.NewObjects.{right_for_live, right_for_run}
use Rattle.kt_program.proofs.runs.run_of.Goals as goal

pub returns-in-Ok-clause-made : goal.returns-in-Ok-clause-made
returns-in-Ok-clause-made g c =
    let run = c.in-Ok.made in
    made_serially (record { next = c.progress_of_runs.ensures.next; none = c.steps_of_runs.ensures.none; of_another = c.steps_of_runs.ensures.of_another; exactly = c.never_stuck.ensures.exactly; log = c.told_of_runs.ensures.log; ends = c.one_run.ensures.ends })
    c.args.plan.now (map (λ row. map (λ b. content ((goal.Recoverable-dyn g (b.vtable, b.value)).kind_of b.value) ((goal.Recoverable-dyn g (b.vtable, b.value)).value_of b.value)) row.items) c.args.cast.items)
    c.size-processes.ensures.plan c.args.run.now.by (order_by c.args.run.now.seed) c.args.keep c.args.steps.now run.steps.items run.log.rows c.steps_are_read_back.ensures
    (are_new c.args.cast.items (λ row. row.items) _ _ c.args.plan.now c.requires.sizes c.requires.kinds c.requires.opening) c.in-Ok.ensures.certified
    c.order_of.result c.in-Serial.is c.order_of.ensures c.in-Ok.ensures.run

pub returns-in-Err-clause-fault : goal.returns-in-Err-clause-fault
returns-in-Err-clause-fault g c =
    let new = are_new c.args.cast.items (λ row. row.items) _ _ c.args.plan.now c.requires.sizes c.requires.kinds c.requires.opening in
    let order = order_by c.args.run.now.seed in
    subst (IsFaultOverNew c.args.run.now.by order c.args.plan.now c.args.steps.now) (sym c.from.ensures)
    (serial_fault c.args.run.now.by order c.args.plan.now c.args.steps.now c.in-Err.stop.fault c.in-Serial.is
    (right_for_run c.args.plan.now _ c.requires.sizes c.requires.kinds c.in-Err.stop.fault c.in-Err.ensures.fault)
    (λ p e. neither (c.requires.saved p) (λ stopped. c.requires.taken p stopped.1) (c.in-Err.ensures.object p e))
    c.in-Err.ensures.untold
    (λ done why e. refused_anew order c.order_of.result c.args.plan.now _ c.args.steps.now done why c.order_of.ensures new
    (refused_in c.order_of.result c.args.plan.now _ c.args.steps.now done why (λ default. c.in-Err.ensures.default_refused default done why e) (c.in-Err.ensures.refused done why e))))

pub returns-in-Ok-kept_live_run_of-clause-made : goal.returns-in-Ok-kept_live_run_of-clause-made
returns-in-Ok-kept_live_run_of-clause-made g c =
    let run = c.in-Ok-kept_live_run_of.made in
    let e = c.in-Ok-kept_live_run_of.ensures in
    made_in_threads (record { next = c.progress_of_runs.ensures.next; none = c.steps_of_runs.ensures.none; of_another = c.steps_of_runs.ensures.of_another; exactly = c.never_stuck.ensures.exactly; log = c.told_of_runs.ensures.log; ends = c.one_run.ensures.ends })
    c.args.plan.now (map (λ row. map (λ b. content ((goal.Recoverable-dyn g (b.vtable, b.value)).kind_of b.value) ((goal.Recoverable-dyn g (b.vtable, b.value)).value_of b.value)) row.items) c.args.cast.items)
    c.size-processes.ensures.plan c.args.run.now.by (order_by c.args.run.now.seed) c.args.keep c.args.steps.now run.steps.items run.log.rows c.steps_are_read_back.ensures
    (are_new c.args.cast.items (λ row. row.items) _ _ c.args.plan.now c.requires.sizes c.requires.kinds c.requires.opening) e.certified
    c.in-Threads.is e.run e.lived

pub returns-in-Err-kept_live_run_of-clause-fault : goal.returns-in-Err-kept_live_run_of-clause-fault
returns-in-Err-kept_live_run_of-clause-fault g c =
    let order = order_by c.args.run.now.seed in
    subst (IsFaultOverNew c.args.run.now.by order c.args.plan.now c.args.steps.now) (sym c.from-in-Err-kept_live_run_of.ensures)
    (threads_fault c.args.run.now.by order c.args.plan.now c.args.steps.now c.in-Err-kept_live_run_of.fault c.in-Threads.is
    (right_for_live c.args.plan.now _ c.requires.sizes c.requires.kinds c.in-Err-kept_live_run_of.fault c.in-Err-kept_live_run_of.ensures.fault)
    (λ p e. neither (c.requires.saved p) (c.requires.taken p) (c.in-Err-kept_live_run_of.ensures.object p e)))
