use Rattle.std.proofs.Common.{inl, inr, [], map, refl, subst, sym, ap}
use Rattle.std.specs.Prelude.{slice_index_or}
use Rattle.kt_core.specs.declared.faults.StepFault.TheVariants.{NotEnabled}
use Rattle.kt_object.specs.Holdings.{content}
use Rattle.kt_plan.specs.Limits.{Planned, IsPlan}
use Rattle.kt_run.specs.Faults.{stopped_at}
use Rattle.kt_run.specs.Hindered.{TellsHindrance}
use Rattle.kt_run.specs.Objects.{first_of}
use Rattle.kt_run.specs.Orders.{generator_of, IsRefusedInOrder, IsStoppedInOrder, RestsInOrder}
use Rattle.kt_run.specs.Rejections.{objects_held, HaveSpares}
use Rattle.kt_run.specs.Runs.{told_and_held}
use Rattle.kt_run.specs.declared.orders.Order.{Order}
use Rattle.kt_run.proofs.Casting.{of_right}
use Rattle.kt_run.proofs.Ordering.{one_refused, one_stopped, default_refused, default_stopped}
use Rattle.kt_run.proofs.Rejecting.{have_spares, of_plan, rejected_of}
use Rattle.kt_run.proofs.Resting.{run_of, play_of, follows_of}
use Rattle.kt_run.proofs.recorded.kept_run_of.Goals as goal

pub returns-in-Ok-make_all-clause-run : goal.returns-in-Ok-make_all-clause-run
returns-in-Ok-make_all-clause-run g c =
    run_of c.laws_of_runs.ensures c.args.plan.now (map (λ row. map (λ b. content ((goal.Recoverable-dyn g (b.vtable, b.value)).kind_of b.value) ((goal.Recoverable-dyn g (b.vtable, b.value)).value_of b.value)) row.items) c.args.cast.items) c.args.steps.now (subst IsPlan c.in-Ok.ensures.plan c.in-Ok.ensures.starts.shown.limits) c.args.order c.args.keep c.in-Ok-make_all.made.items c.make_all.new.self.world (told_and_held c.make_all.new.self.journals c.make_all.new.self.objects.items (λ b. content ((goal.Recoverable-dyn g (b.vtable, b.value)).kind_of b.value) ((goal.Recoverable-dyn g (b.vtable, b.value)).value_of b.value))) c.into_log.result.rows (ap (λ l. l.rows) c.into_log.ensures.log)
    (subst (λ (p : Planned). RestsInOrder p (map (λ row. map (λ b. content ((goal.Recoverable-dyn g (b.vtable, b.value)).kind_of b.value) ((goal.Recoverable-dyn g (b.vtable, b.value)).value_of b.value)) row.items) c.args.cast.items) c.args.steps.now (generator_of c.args.order) c.args.keep c.in-Ok-make_all.made.items c.make_all.new.self.world (told_and_held c.make_all.new.self.journals c.make_all.new.self.objects.items (λ b. content ((goal.Recoverable-dyn g (b.vtable, b.value)).kind_of b.value) ((goal.Recoverable-dyn g (b.vtable, b.value)).value_of b.value)))) c.in-Ok.ensures.plan (c.in-Ok-make_all.ensures.rests (map (λ row. map (λ b. content ((goal.Recoverable-dyn g (b.vtable, b.value)).kind_of b.value) ((goal.Recoverable-dyn g (b.vtable, b.value)).value_of b.value)) row.items) c.args.cast.items) c.in-Ok.ensures.due))

pub returns-in-Ok-make_all-clause-played : goal.returns-in-Ok-make_all-clause-played
returns-in-Ok-make_all-clause-played g c = λ default.
    play_of c.laws_of_runs.ensures c.args.plan.now (map (λ row. map (λ b. content ((goal.Recoverable-dyn g (b.vtable, b.value)).kind_of b.value) ((goal.Recoverable-dyn g (b.vtable, b.value)).value_of b.value)) row.items) c.args.cast.items) c.args.steps.now (subst IsPlan c.in-Ok.ensures.plan c.in-Ok.ensures.starts.shown.limits) c.args.keep c.in-Ok-make_all.made.items c.make_all.new.self.world (told_and_held c.make_all.new.self.journals c.make_all.new.self.objects.items (λ b. content ((goal.Recoverable-dyn g (b.vtable, b.value)).kind_of b.value) ((goal.Recoverable-dyn g (b.vtable, b.value)).value_of b.value))) c.into_log.result.rows (ap (λ l. l.rows) c.into_log.ensures.log)
    (subst (λ (o : Order). RestsInOrder c.args.plan.now (map (λ row. map (λ b. content ((goal.Recoverable-dyn g (b.vtable, b.value)).kind_of b.value) ((goal.Recoverable-dyn g (b.vtable, b.value)).value_of b.value)) row.items) c.args.cast.items) c.args.steps.now (generator_of o) c.args.keep c.in-Ok-make_all.made.items c.make_all.new.self.world (told_and_held c.make_all.new.self.journals c.make_all.new.self.objects.items (λ b. content ((goal.Recoverable-dyn g (b.vtable, b.value)).kind_of b.value) ((goal.Recoverable-dyn g (b.vtable, b.value)).value_of b.value)))) default
    (subst (λ (p : Planned). RestsInOrder p (map (λ row. map (λ b. content ((goal.Recoverable-dyn g (b.vtable, b.value)).kind_of b.value) ((goal.Recoverable-dyn g (b.vtable, b.value)).value_of b.value)) row.items) c.args.cast.items) c.args.steps.now (generator_of c.args.order) c.args.keep c.in-Ok-make_all.made.items c.make_all.new.self.world (told_and_held c.make_all.new.self.journals c.make_all.new.self.objects.items (λ b. content ((goal.Recoverable-dyn g (b.vtable, b.value)).kind_of b.value) ((goal.Recoverable-dyn g (b.vtable, b.value)).value_of b.value)))) c.in-Ok.ensures.plan (c.in-Ok-make_all.ensures.rests (map (λ row. map (λ b. content ((goal.Recoverable-dyn g (b.vtable, b.value)).kind_of b.value) ((goal.Recoverable-dyn g (b.vtable, b.value)).value_of b.value)) row.items) c.args.cast.items) c.in-Ok.ensures.due)))

pub returns-in-Ok-make_all-clause-follows : goal.returns-in-Ok-make_all-clause-follows
returns-in-Ok-make_all-clause-follows g c =
    follows_of c.laws_of_runs.ensures c.args.plan.now (map (λ row. map (λ b. content ((goal.Recoverable-dyn g (b.vtable, b.value)).kind_of b.value) ((goal.Recoverable-dyn g (b.vtable, b.value)).value_of b.value)) row.items) c.args.cast.items) c.args.steps.now (subst IsPlan c.in-Ok.ensures.plan c.in-Ok.ensures.starts.shown.limits) c.args.order c.args.keep c.in-Ok-make_all.made.items c.make_all.new.self.world (told_and_held c.make_all.new.self.journals c.make_all.new.self.objects.items (λ b. content ((goal.Recoverable-dyn g (b.vtable, b.value)).kind_of b.value) ((goal.Recoverable-dyn g (b.vtable, b.value)).value_of b.value))) c.into_log.result.rows (ap (λ l. l.rows) c.into_log.ensures.log)
    (subst (λ (p : Planned). RestsInOrder p (map (λ row. map (λ b. content ((goal.Recoverable-dyn g (b.vtable, b.value)).kind_of b.value) ((goal.Recoverable-dyn g (b.vtable, b.value)).value_of b.value)) row.items) c.args.cast.items) c.args.steps.now (generator_of c.args.order) c.args.keep c.in-Ok-make_all.made.items c.make_all.new.self.world (told_and_held c.make_all.new.self.journals c.make_all.new.self.objects.items (λ b. content ((goal.Recoverable-dyn g (b.vtable, b.value)).kind_of b.value) ((goal.Recoverable-dyn g (b.vtable, b.value)).value_of b.value)))) c.in-Ok.ensures.plan (c.in-Ok-make_all.ensures.rests (map (λ row. map (λ b. content ((goal.Recoverable-dyn g (b.vtable, b.value)).kind_of b.value) ((goal.Recoverable-dyn g (b.vtable, b.value)).value_of b.value)) row.items) c.args.cast.items) c.in-Ok.ensures.due))

pub returns-in-Err-clause-refused : goal.returns-in-Err-clause-refused
returns-in-Err-clause-refused g c = λ done why e. absurd (c.in-Err.ensures.early done why e)

pub returns-in-Err-clause-default_refused : goal.returns-in-Err-clause-default_refused
returns-in-Err-clause-default_refused g c = λ default done why e. absurd (c.in-Err.ensures.early done why e)

pub returns-in-Err-clause-hindered : goal.returns-in-Err-clause-hindered
returns-in-Err-clause-hindered g c = λ done e. absurd (c.in-Err.ensures.early done NotEnabled e)

pub returns-in-Err-clause-object : goal.returns-in-Err-clause-object
returns-in-Err-clause-object g c = λ p e. inl (c.in-Err.ensures.object p e)

pub returns-in-Err-clause-default_object : goal.returns-in-Err-clause-default_object
returns-in-Err-clause-default_object g c = λ default p e. inl (c.in-Err.ensures.object p e)

pub returns-in-Err-make_all-clause-fault : goal.returns-in-Err-make_all-clause-fault
returns-in-Err-make_all-clause-fault g c = of_right c.args.plan.now _ c.in-Err-make_all.fault c.in-Ok.ensures.cast c.in-Err-make_all.ensures.fault

pub returns-in-Err-make_all-clause-refused : goal.returns-in-Err-make_all-clause-refused
returns-in-Err-make_all-clause-refused g c = λ done why e.
    one_refused c.args.plan.now (map (λ row. map (λ b. content ((goal.Recoverable-dyn g (b.vtable, b.value)).kind_of b.value) ((goal.Recoverable-dyn g (b.vtable, b.value)).value_of b.value)) row.items) c.args.cast.items) c.args.steps.now (generator_of c.args.order) done why
    (subst (λ (p : Planned). IsRefusedInOrder p (map (λ row. map (λ b. content ((goal.Recoverable-dyn g (b.vtable, b.value)).kind_of b.value) ((goal.Recoverable-dyn g (b.vtable, b.value)).value_of b.value)) row.items) c.args.cast.items) c.args.steps.now (generator_of c.args.order) done why) c.in-Ok.ensures.plan (c.in-Err-make_all.ensures.refused (map (λ row. map (λ b. content ((goal.Recoverable-dyn g (b.vtable, b.value)).kind_of b.value) ((goal.Recoverable-dyn g (b.vtable, b.value)).value_of b.value)) row.items) c.args.cast.items) c.in-Ok.ensures.due done why e))

pub returns-in-Err-make_all-clause-default_refused : goal.returns-in-Err-make_all-clause-default_refused
returns-in-Err-make_all-clause-default_refused g c = λ default done why e.
    default_refused c.laws_of_runs.ensures c.args.plan.now (map (λ row. map (λ b. content ((goal.Recoverable-dyn g (b.vtable, b.value)).kind_of b.value) ((goal.Recoverable-dyn g (b.vtable, b.value)).value_of b.value)) row.items) c.args.cast.items) c.args.steps.now (subst IsPlan c.in-Ok.ensures.plan c.in-Ok.ensures.starts.shown.limits) done why
    (subst (λ (o : Order). IsRefusedInOrder c.args.plan.now (map (λ row. map (λ b. content ((goal.Recoverable-dyn g (b.vtable, b.value)).kind_of b.value) ((goal.Recoverable-dyn g (b.vtable, b.value)).value_of b.value)) row.items) c.args.cast.items) c.args.steps.now (generator_of o) done why) default
    (subst (λ (p : Planned). IsRefusedInOrder p (map (λ row. map (λ b. content ((goal.Recoverable-dyn g (b.vtable, b.value)).kind_of b.value) ((goal.Recoverable-dyn g (b.vtable, b.value)).value_of b.value)) row.items) c.args.cast.items) c.args.steps.now (generator_of c.args.order) done why) c.in-Ok.ensures.plan (c.in-Err-make_all.ensures.refused (map (λ row. map (λ b. content ((goal.Recoverable-dyn g (b.vtable, b.value)).kind_of b.value) ((goal.Recoverable-dyn g (b.vtable, b.value)).value_of b.value)) row.items) c.args.cast.items) c.in-Ok.ensures.due done why e)))

pub returns-in-Err-make_all-clause-hindered : goal.returns-in-Err-make_all-clause-hindered
returns-in-Err-make_all-clause-hindered g c =
    subst (λ (z : Planned). TellsHindrance z (map (λ row. map (λ b. content ((goal.Recoverable-dyn g (b.vtable, b.value)).kind_of b.value) ((goal.Recoverable-dyn g (b.vtable, b.value)).value_of b.value)) row.items) c.args.cast.items) c.args.steps.now c.in-Err-make_all.fault c.make_all.new.self.hindrance) c.in-Ok.ensures.plan (c.in-Err-make_all.ensures.hindered (map (λ row. map (λ b. content ((goal.Recoverable-dyn g (b.vtable, b.value)).kind_of b.value) ((goal.Recoverable-dyn g (b.vtable, b.value)).value_of b.value)) row.items) c.args.cast.items) c.in-Ok.ensures.due)

pub returns-in-Err-make_all-clause-unhindered : goal.returns-in-Err-make_all-clause-unhindered
returns-in-Err-make_all-clause-unhindered g c = c.in-Err-make_all.ensures.unhindered c.in-Ok.ensures.hindrance

pub returns-in-Err-make_all-clause-untold : goal.returns-in-Err-make_all-clause-untold
returns-in-Err-make_all-clause-untold g c = c.in-Err-make_all.ensures.untold c.in-Ok.ensures.none

pub returns-in-Err-make_all-clause-object : goal.returns-in-Err-make_all-clause-object
returns-in-Err-make_all-clause-object g c = λ p e. inr (
  one_stopped c.args.plan.now (map (λ row. map (λ b. content ((goal.Recoverable-dyn g (b.vtable, b.value)).kind_of b.value) ((goal.Recoverable-dyn g (b.vtable, b.value)).value_of b.value)) row.items) c.args.cast.items) c.args.steps.now (generator_of c.args.order) p
      (subst (λ (z : Planned). IsStoppedInOrder z (map (λ row. map (λ b. content ((goal.Recoverable-dyn g (b.vtable, b.value)).kind_of b.value) ((goal.Recoverable-dyn g (b.vtable, b.value)).value_of b.value)) row.items) c.args.cast.items) c.args.steps.now (generator_of c.args.order) p) c.in-Ok.ensures.plan (c.in-Err-make_all.ensures.named (map (λ row. map (λ b. content ((goal.Recoverable-dyn g (b.vtable, b.value)).kind_of b.value) ((goal.Recoverable-dyn g (b.vtable, b.value)).value_of b.value)) row.items) c.args.cast.items) c.in-Ok.ensures.due p (ap stopped_at e))),
  of_plan (λ row. row.items) (λ b. (goal.Recoverable-dyn g (b.vtable, b.value)).kind_of b.value) (λ b. content ((goal.Recoverable-dyn g (b.vtable, b.value)).kind_of b.value) ((goal.Recoverable-dyn g (b.vtable, b.value)).value_of b.value)) (λ b. refl) (λ b saved. (goal.Recoverable-dyn g (b.vtable, b.value)).may_reject b.value saved) c.args.plan.now c.args.cast.items p c.in-Ok.ensures.cast
      (rejected_of (λ b saved. (goal.Recoverable-dyn g (b.vtable, b.value)).may_reject b.value saved) (first_of (slice_index_or (map (λ row. map (λ b. content ((goal.Recoverable-dyn g (b.vtable, b.value)).kind_of b.value) ((goal.Recoverable-dyn g (b.vtable, b.value)).value_of b.value)) row.items) c.args.cast.items) p [])).kind p (map (λ row. row.items) c.args.cast.items) (objects_held c.in-Ok.run_state.objects.items) c.in-Ok.ensures.rejects
      (c.in-Err-make_all.ensures.object (map (λ row. map (λ b. content ((goal.Recoverable-dyn g (b.vtable, b.value)).kind_of b.value) ((goal.Recoverable-dyn g (b.vtable, b.value)).value_of b.value)) row.items) c.args.cast.items) c.in-Ok.ensures.due
      (subst (λ (z : Planned). HaveSpares z (map (λ row. map (λ b. content ((goal.Recoverable-dyn g (b.vtable, b.value)).kind_of b.value) ((goal.Recoverable-dyn g (b.vtable, b.value)).value_of b.value)) row.items) c.args.cast.items)) (sym c.in-Ok.ensures.plan) (have_spares (λ row. row.items) (λ b. (goal.Recoverable-dyn g (b.vtable, b.value)).kind_of b.value) (λ b. content ((goal.Recoverable-dyn g (b.vtable, b.value)).kind_of b.value) ((goal.Recoverable-dyn g (b.vtable, b.value)).value_of b.value)) (λ b. refl) c.args.plan.now c.args.cast.items c.in-Ok.ensures.cast)) p e)),
)

pub returns-in-Err-make_all-clause-default_object : goal.returns-in-Err-make_all-clause-default_object
returns-in-Err-make_all-clause-default_object g c = λ default p e. inr (
  default_stopped c.laws_of_runs.ensures c.args.plan.now (map (λ row. map (λ b. content ((goal.Recoverable-dyn g (b.vtable, b.value)).kind_of b.value) ((goal.Recoverable-dyn g (b.vtable, b.value)).value_of b.value)) row.items) c.args.cast.items) c.args.steps.now (subst IsPlan c.in-Ok.ensures.plan c.in-Ok.ensures.starts.shown.limits) p
      (subst (λ (o : Order). IsStoppedInOrder c.args.plan.now (map (λ row. map (λ b. content ((goal.Recoverable-dyn g (b.vtable, b.value)).kind_of b.value) ((goal.Recoverable-dyn g (b.vtable, b.value)).value_of b.value)) row.items) c.args.cast.items) c.args.steps.now (generator_of o) p) default
      (subst (λ (z : Planned). IsStoppedInOrder z (map (λ row. map (λ b. content ((goal.Recoverable-dyn g (b.vtable, b.value)).kind_of b.value) ((goal.Recoverable-dyn g (b.vtable, b.value)).value_of b.value)) row.items) c.args.cast.items) c.args.steps.now (generator_of c.args.order) p) c.in-Ok.ensures.plan (c.in-Err-make_all.ensures.named (map (λ row. map (λ b. content ((goal.Recoverable-dyn g (b.vtable, b.value)).kind_of b.value) ((goal.Recoverable-dyn g (b.vtable, b.value)).value_of b.value)) row.items) c.args.cast.items) c.in-Ok.ensures.due p (ap stopped_at e)))),
  of_plan (λ row. row.items) (λ b. (goal.Recoverable-dyn g (b.vtable, b.value)).kind_of b.value) (λ b. content ((goal.Recoverable-dyn g (b.vtable, b.value)).kind_of b.value) ((goal.Recoverable-dyn g (b.vtable, b.value)).value_of b.value)) (λ b. refl) (λ b saved. (goal.Recoverable-dyn g (b.vtable, b.value)).may_reject b.value saved) c.args.plan.now c.args.cast.items p c.in-Ok.ensures.cast
      (rejected_of (λ b saved. (goal.Recoverable-dyn g (b.vtable, b.value)).may_reject b.value saved) (first_of (slice_index_or (map (λ row. map (λ b. content ((goal.Recoverable-dyn g (b.vtable, b.value)).kind_of b.value) ((goal.Recoverable-dyn g (b.vtable, b.value)).value_of b.value)) row.items) c.args.cast.items) p [])).kind p (map (λ row. row.items) c.args.cast.items) (objects_held c.in-Ok.run_state.objects.items) c.in-Ok.ensures.rejects
      (c.in-Err-make_all.ensures.object (map (λ row. map (λ b. content ((goal.Recoverable-dyn g (b.vtable, b.value)).kind_of b.value) ((goal.Recoverable-dyn g (b.vtable, b.value)).value_of b.value)) row.items) c.args.cast.items) c.in-Ok.ensures.due
      (subst (λ (z : Planned). HaveSpares z (map (λ row. map (λ b. content ((goal.Recoverable-dyn g (b.vtable, b.value)).kind_of b.value) ((goal.Recoverable-dyn g (b.vtable, b.value)).value_of b.value)) row.items) c.args.cast.items)) (sym c.in-Ok.ensures.plan) (have_spares (λ row. row.items) (λ b. (goal.Recoverable-dyn g (b.vtable, b.value)).kind_of b.value) (λ b. content ((goal.Recoverable-dyn g (b.vtable, b.value)).kind_of b.value) ((goal.Recoverable-dyn g (b.vtable, b.value)).value_of b.value)) (λ b. refl) c.args.plan.now c.args.cast.items c.in-Ok.ensures.cast)) p e)),
)
