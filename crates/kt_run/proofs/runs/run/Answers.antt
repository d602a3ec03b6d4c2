use Rattle.std.proofs.Common.{rules, inl, inr, ◌≡◌, ◌∙◌, List, [], length, map, refl, subst, sym, ap}
use Rattle.std.specs.Prelude.{Result, None, Err, IfErr, slice_index_or}
use Rattle.std.specs.List.{AllZip}
use Rattle.std.specs.Option.{option_map}
use Rattle.std.proofs.lemmas.Option.{slice_get-map, slice_get-get_or}
use Rattle.kt_core.specs.Worlds.{World}
use Rattle.kt_object.specs.Holdings.{content}
use Rattle.kt_plan.specs.Limits.{Planned, IsPlan}
use Rattle.kt_plan.specs.declared.steps.Told.{Told}
use Rattle.kt_run.specs.Faults.{stopped_at}
use Rattle.kt_run.specs.Objects.{belongings_of, first_of, has_of, HoldDue, AreLeft}
use Rattle.kt_run.specs.Orders.{IsRefusedInOrder, IsStoppedInOrder, RestsInOrder}
use Rattle.kt_run.specs.Rejections.{objects_held, HaveSpares, MayReject}
use Rattle.kt_run.specs.Runs.{told_and_held, IsToldPlay}
use Rattle.kt_run.specs.Telling.{AreToldTheirRows}
use Rattle.kt_run.specs.declared.orders.Order.TheVariants.{Default}
use Rattle.kt_run.specs.declared.recorded.Keep.TheVariants.{Log}
use Rattle.kt_run.proofs.Casting.{of_right}
use Rattle.kt_run.proofs.Ordering.{default_refused, default_stopped}
use Rattle.kt_run.proofs.Rejecting.{have_spares, of_plan, rejected_of}
use Rattle.kt_run.proofs.Resting.{told_play_of, their_rows, due_of, settled_of, follows_of}
use Rattle.kt_run.proofs.Spares.{left_then}
use Rattle.kt_run.proofs.runs.run.Goals as goal
use Rattle.kt_run.proofs.runs.run.Goals.{After-into_lists}

limits : (g : _) (c : After-into_lists g) → IsPlan c.args.plan.now
limits g c = subst IsPlan c.in_ok-run_state.ensures.plan c.in_ok-run_state.ensures.starts.shown.limits

rests : (g : _) (c : After-into_lists g) → RestsInOrder c.args.plan.now (map (λ row. map (λ b. content ((goal.Recoverable-dyn g (b.vtable, b.value)).kind_of b.value) ((goal.Recoverable-dyn g (b.vtable, b.value)).value_of b.value)) row.items) c.args.cast.items) c.args.steps.now None Log c.in_ok-make_all.field-0.items c.make_all.new.self.world (told_and_held c.make_all.new.self.journals c.make_all.new.self.objects.items (λ b. content ((goal.Recoverable-dyn g (b.vtable, b.value)).kind_of b.value) ((goal.Recoverable-dyn g (b.vtable, b.value)).value_of b.value)))
rests g c = subst (λ (p : Planned). RestsInOrder p (map (λ row. map (λ b. content ((goal.Recoverable-dyn g (b.vtable, b.value)).kind_of b.value) ((goal.Recoverable-dyn g (b.vtable, b.value)).value_of b.value)) row.items) c.args.cast.items) c.args.steps.now None Log c.in_ok-make_all.field-0.items c.make_all.new.self.world (told_and_held c.make_all.new.self.journals c.make_all.new.self.objects.items (λ b. content ((goal.Recoverable-dyn g (b.vtable, b.value)).kind_of b.value) ((goal.Recoverable-dyn g (b.vtable, b.value)).value_of b.value)))) (ap (λ (w : World). w.agenda.plan) c.in_ok-keep_journals.ensures.world ∙ c.in_ok-run_state.ensures.plan)
    (c.in_ok-make_all.ensures.rests (map (λ row. map (λ b. content ((goal.Recoverable-dyn g (b.vtable, b.value)).kind_of b.value) ((goal.Recoverable-dyn g (b.vtable, b.value)).value_of b.value)) row.items) c.args.cast.items) (subst (λ helds. HoldDue (map (λ row. map (λ b. content ((goal.Recoverable-dyn g (b.vtable, b.value)).kind_of b.value) ((goal.Recoverable-dyn g (b.vtable, b.value)).value_of b.value)) row.items) c.args.cast.items) [] (has_of helds.items (λ b. content ((goal.Recoverable-dyn g (b.vtable, b.value)).kind_of b.value) ((goal.Recoverable-dyn g (b.vtable, b.value)).value_of b.value)))) (sym c.in_ok-keep_journals.ensures.objects) c.in_ok-run_state.ensures.due))

pub make_all-requires-clause-due : goal.make_all-requires-clause-due
make_all-requires-clause-due g c = ((map (λ row. map (λ b. content ((goal.Recoverable-dyn g (b.vtable, b.value)).kind_of b.value) ((goal.Recoverable-dyn g (b.vtable, b.value)).value_of b.value)) row.items) c.args.cast.items), (subst (λ helds. HoldDue (map (λ row. map (λ b. content ((goal.Recoverable-dyn g (b.vtable, b.value)).kind_of b.value) ((goal.Recoverable-dyn g (b.vtable, b.value)).value_of b.value)) row.items) c.args.cast.items) [] (has_of helds.items (λ b. content ((goal.Recoverable-dyn g (b.vtable, b.value)).kind_of b.value) ((goal.Recoverable-dyn g (b.vtable, b.value)).value_of b.value)))) (sym c.in_ok-keep_journals.ensures.objects) c.in_ok-run_state.ensures.due))

pub returns-clause-run : goal.returns-clause-run
returns-clause-run g c =
    let end = c.make_all.new.self in
    let count : length end.journals ≡ length c.args.plan.now.names =
    c.in_ok-make_all.ensures.count ∙ (c.in_ok-keep_journals.ensures.count ∙ ap (λ (p : Planned). length p.names) c.in_ok-run_state.ensures.plan) in
    subst (λ (told : List (List Told)). IsToldPlay c.args.plan.now (map (λ row. map (λ b. content ((goal.Recoverable-dyn g (b.vtable, b.value)).kind_of b.value) ((goal.Recoverable-dyn g (b.vtable, b.value)).value_of b.value)) row.items) c.args.cast.items) c.args.steps.now c.into_log.result.rows told) (sym c.into_lists.ensures)
    (told_play_of c.laws_of_runs.ensures c.args.plan.now (map (λ row. map (λ b. content ((goal.Recoverable-dyn g (b.vtable, b.value)).kind_of b.value) ((goal.Recoverable-dyn g (b.vtable, b.value)).value_of b.value)) row.items) c.args.cast.items) c.args.steps.now (limits g c) Log c.in_ok-make_all.field-0.items c.make_all.new.self.world (told_and_held c.make_all.new.self.journals c.make_all.new.self.objects.items (λ b. content ((goal.Recoverable-dyn g (b.vtable, b.value)).kind_of b.value) ((goal.Recoverable-dyn g (b.vtable, b.value)).value_of b.value))) c.into_log.result.rows (ap (λ l. l.rows) c.into_log.ensures.log) (rests g c) count)

pub returns-clause-told : goal.returns-clause-told
returns-clause-told g c =
    subst (λ (told : List (List Told)). AreToldTheirRows c.into_log.result.rows told) (sym c.into_lists.ensures)
    (their_rows c.laws_of_runs.ensures c.args.plan.now (map (λ row. map (λ b. content ((goal.Recoverable-dyn g (b.vtable, b.value)).kind_of b.value) ((goal.Recoverable-dyn g (b.vtable, b.value)).value_of b.value)) row.items) c.args.cast.items) c.args.steps.now (limits g c) Default Log c.in_ok-make_all.field-0.items c.make_all.new.self.world (told_and_held c.make_all.new.self.journals c.make_all.new.self.objects.items (λ b. content ((goal.Recoverable-dyn g (b.vtable, b.value)).kind_of b.value) ((goal.Recoverable-dyn g (b.vtable, b.value)).value_of b.value))) c.into_log.result.rows (ap (λ l. l.rows) c.into_log.ensures.log) (rests g c))

pub returns-clause-due : goal.returns-clause-due
returns-clause-due g c = due_of c.laws_of_runs.ensures c.args.plan.now (map (λ row. map (λ b. content ((goal.Recoverable-dyn g (b.vtable, b.value)).kind_of b.value) ((goal.Recoverable-dyn g (b.vtable, b.value)).value_of b.value)) row.items) c.args.cast.items) c.args.steps.now (limits g c) Default Log c.in_ok-make_all.field-0.items c.make_all.new.self.world (told_and_held c.make_all.new.self.journals c.make_all.new.self.objects.items (λ b. content ((goal.Recoverable-dyn g (b.vtable, b.value)).kind_of b.value) ((goal.Recoverable-dyn g (b.vtable, b.value)).value_of b.value))) c.into_log.result.rows (ap (λ l. l.rows) c.into_log.ensures.log) (rests g c)

pub returns-clause-follows : goal.returns-clause-follows
returns-clause-follows g c = follows_of c.laws_of_runs.ensures c.args.plan.now (map (λ row. map (λ b. content ((goal.Recoverable-dyn g (b.vtable, b.value)).kind_of b.value) ((goal.Recoverable-dyn g (b.vtable, b.value)).value_of b.value)) row.items) c.args.cast.items) c.args.steps.now (limits g c) Default Log c.in_ok-make_all.field-0.items c.make_all.new.self.world (told_and_held c.make_all.new.self.journals c.make_all.new.self.objects.items (λ b. content ((goal.Recoverable-dyn g (b.vtable, b.value)).kind_of b.value) ((goal.Recoverable-dyn g (b.vtable, b.value)).value_of b.value))) c.into_log.result.rows (ap (λ l. l.rows) c.into_log.ensures.log) (rests g c)

pub returns-clause-settled : goal.returns-clause-settled
returns-clause-settled g c = λ p other l.
    let helds = c.make_all.new.self.objects.items in
    settled_of c.laws_of_runs.ensures c.args.plan.now (map (λ row. map (λ b. content ((goal.Recoverable-dyn g (b.vtable, b.value)).kind_of b.value) ((goal.Recoverable-dyn g (b.vtable, b.value)).value_of b.value)) row.items) c.args.cast.items) c.args.steps.now (limits g c) Default Log c.in_ok-make_all.field-0.items c.make_all.new.self.world (told_and_held c.make_all.new.self.journals c.make_all.new.self.objects.items (λ b. content ((goal.Recoverable-dyn g (b.vtable, b.value)).kind_of b.value) ((goal.Recoverable-dyn g (b.vtable, b.value)).value_of b.value))) c.into_log.result.rows (ap (λ l. l.rows) c.into_log.ensures.log) (rests g c)
    p (belongings_of (λ b. content ((goal.Recoverable-dyn g (b.vtable, b.value)).kind_of b.value) ((goal.Recoverable-dyn g (b.vtable, b.value)).value_of b.value)) (slice_index_or helds p other))
    (slice_get-map (belongings_of (λ b. content ((goal.Recoverable-dyn g (b.vtable, b.value)).kind_of b.value) ((goal.Recoverable-dyn g (b.vtable, b.value)).value_of b.value))) helds p ∙ ap (option_map (belongings_of (λ b. content ((goal.Recoverable-dyn g (b.vtable, b.value)).kind_of b.value) ((goal.Recoverable-dyn g (b.vtable, b.value)).value_of b.value)))) (slice_get-get_or helds p other l))

pub returns-clause-spares : goal.returns-clause-spares
returns-clause-spares g c =
    let given = subst (λ helds. AllZip (λ row h. AreLeft row.items h.spares.items) c.args.cast.items helds.items) (sym c.in_ok-keep_journals.ensures.objects) c.in_ok-run_state.ensures.spares in
    left_then (λ h. h.spares.items) (λ row. row.items) c.args.cast.items c.keep_journals.new.self.objects.items c.make_all.new.self.objects.items given c.in_ok-make_all.ensures.spares

if_err : {T E : Type 0} (r : Result T E) (P : E → Type 0) (e : E) → r ≡ Err e → P e → IfErr r P
if_err r P e is p = rw is p

pub returns-in_err-run_state-clause-refused : goal.returns-in_err-run_state-clause-refused
returns-in_err-run_state-clause-refused g c = if_err c.from_residual.result _ c.in_err-run_state.field-0.0 (search rules) (λ done why e. absurd (c.in_err-run_state.ensures.early done why e))

pub returns-in_err-run_state-clause-named : goal.returns-in_err-run_state-clause-named
returns-in_err-run_state-clause-named g c = if_err c.from_residual.result _ c.in_err-run_state.field-0.0 (search rules) (λ p e. absurd (c.in_err-run_state.ensures.untold p e))

pub returns-in_err-run_state-clause-object : goal.returns-in_err-run_state-clause-object
returns-in_err-run_state-clause-object g c = if_err c.from_residual.result _ c.in_err-run_state.field-0.0 (search rules) (λ p e. inl (c.in_err-run_state.ensures.object p e))

pub returns-in_err-make_all-clause-fault : goal.returns-in_err-make_all-clause-fault
returns-in_err-make_all-clause-fault g c = if_err c.from_residual-in_err-make_all.result _ c.in_err-make_all.field-0.0 (search rules)
    (of_right _ _ c.in_err-make_all.field-0.0 c.in_ok-run_state.ensures.cast c.in_err-make_all.ensures.fault)

pub returns-in_err-make_all-clause-refused : goal.returns-in_err-make_all-clause-refused
returns-in_err-make_all-clause-refused g c = if_err c.from_residual-in_err-make_all.result _ c.in_err-make_all.field-0.0 (search rules)
    (λ done why e. default_refused c.laws_of_runs.ensures c.args.plan.now (map (λ row. map (λ b. content ((goal.Recoverable-dyn g (b.vtable, b.value)).kind_of b.value) ((goal.Recoverable-dyn g (b.vtable, b.value)).value_of b.value)) row.items) c.args.cast.items) c.args.steps.now (subst IsPlan c.in_ok-run_state.ensures.plan c.in_ok-run_state.ensures.starts.shown.limits) done why
    (subst (λ (p : Planned). IsRefusedInOrder p (map (λ row. map (λ b. content ((goal.Recoverable-dyn g (b.vtable, b.value)).kind_of b.value) ((goal.Recoverable-dyn g (b.vtable, b.value)).value_of b.value)) row.items) c.args.cast.items) c.args.steps.now None done why) (ap (λ (w : World). w.agenda.plan) c.in_ok-keep_journals.ensures.world ∙ c.in_ok-run_state.ensures.plan) (c.in_err-make_all.ensures.refused (map (λ row. map (λ b. content ((goal.Recoverable-dyn g (b.vtable, b.value)).kind_of b.value) ((goal.Recoverable-dyn g (b.vtable, b.value)).value_of b.value)) row.items) c.args.cast.items) (subst (λ helds. HoldDue (map (λ row. map (λ b. content ((goal.Recoverable-dyn g (b.vtable, b.value)).kind_of b.value) ((goal.Recoverable-dyn g (b.vtable, b.value)).value_of b.value)) row.items) c.args.cast.items) [] (has_of helds.items (λ b. content ((goal.Recoverable-dyn g (b.vtable, b.value)).kind_of b.value) ((goal.Recoverable-dyn g (b.vtable, b.value)).value_of b.value)))) (sym c.in_ok-keep_journals.ensures.objects) c.in_ok-run_state.ensures.due) done why e)))

pub returns-in_err-make_all-clause-named : goal.returns-in_err-make_all-clause-named
returns-in_err-make_all-clause-named g c = if_err c.from_residual-in_err-make_all.result _ c.in_err-make_all.field-0.0 (search rules)
    (λ p e. default_stopped c.laws_of_runs.ensures c.args.plan.now (map (λ row. map (λ b. content ((goal.Recoverable-dyn g (b.vtable, b.value)).kind_of b.value) ((goal.Recoverable-dyn g (b.vtable, b.value)).value_of b.value)) row.items) c.args.cast.items) c.args.steps.now (subst IsPlan c.in_ok-run_state.ensures.plan c.in_ok-run_state.ensures.starts.shown.limits) p
    (subst (λ (z : Planned). IsStoppedInOrder z (map (λ row. map (λ b. content ((goal.Recoverable-dyn g (b.vtable, b.value)).kind_of b.value) ((goal.Recoverable-dyn g (b.vtable, b.value)).value_of b.value)) row.items) c.args.cast.items) c.args.steps.now None p) (ap (λ (w : World). w.agenda.plan) c.in_ok-keep_journals.ensures.world ∙ c.in_ok-run_state.ensures.plan)
    (c.in_err-make_all.ensures.named (map (λ row. map (λ b. content ((goal.Recoverable-dyn g (b.vtable, b.value)).kind_of b.value) ((goal.Recoverable-dyn g (b.vtable, b.value)).value_of b.value)) row.items) c.args.cast.items) (subst (λ helds. HoldDue (map (λ row. map (λ b. content ((goal.Recoverable-dyn g (b.vtable, b.value)).kind_of b.value) ((goal.Recoverable-dyn g (b.vtable, b.value)).value_of b.value)) row.items) c.args.cast.items) [] (has_of helds.items (λ b. content ((goal.Recoverable-dyn g (b.vtable, b.value)).kind_of b.value) ((goal.Recoverable-dyn g (b.vtable, b.value)).value_of b.value)))) (sym c.in_ok-keep_journals.ensures.objects) c.in_ok-run_state.ensures.due) p (ap stopped_at e))))

pub returns-in_err-make_all-clause-object : goal.returns-in_err-make_all-clause-object
returns-in_err-make_all-clause-object g c = if_err c.from_residual-in_err-make_all.result _ c.in_err-make_all.field-0.0 (search rules)
    (λ p e. inr (
      default_stopped c.laws_of_runs.ensures c.args.plan.now (map (λ row. map (λ b. content ((goal.Recoverable-dyn g (b.vtable, b.value)).kind_of b.value) ((goal.Recoverable-dyn g (b.vtable, b.value)).value_of b.value)) row.items) c.args.cast.items) c.args.steps.now (subst IsPlan c.in_ok-run_state.ensures.plan c.in_ok-run_state.ensures.starts.shown.limits) p
          (subst (λ (z : Planned). IsStoppedInOrder z (map (λ row. map (λ b. content ((goal.Recoverable-dyn g (b.vtable, b.value)).kind_of b.value) ((goal.Recoverable-dyn g (b.vtable, b.value)).value_of b.value)) row.items) c.args.cast.items) c.args.steps.now None p) (ap (λ (w : World). w.agenda.plan) c.in_ok-keep_journals.ensures.world ∙ c.in_ok-run_state.ensures.plan)
          (c.in_err-make_all.ensures.named (map (λ row. map (λ b. content ((goal.Recoverable-dyn g (b.vtable, b.value)).kind_of b.value) ((goal.Recoverable-dyn g (b.vtable, b.value)).value_of b.value)) row.items) c.args.cast.items) (subst (λ helds. HoldDue (map (λ row. map (λ b. content ((goal.Recoverable-dyn g (b.vtable, b.value)).kind_of b.value) ((goal.Recoverable-dyn g (b.vtable, b.value)).value_of b.value)) row.items) c.args.cast.items) [] (has_of helds.items (λ b. content ((goal.Recoverable-dyn g (b.vtable, b.value)).kind_of b.value) ((goal.Recoverable-dyn g (b.vtable, b.value)).value_of b.value)))) (sym c.in_ok-keep_journals.ensures.objects) c.in_ok-run_state.ensures.due) p (ap stopped_at e))),
      of_plan (λ row. row.items) (λ b. (goal.Recoverable-dyn g (b.vtable, b.value)).kind_of b.value) (λ b. content ((goal.Recoverable-dyn g (b.vtable, b.value)).kind_of b.value) ((goal.Recoverable-dyn g (b.vtable, b.value)).value_of b.value)) (λ b. refl) (λ b saved. (goal.Recoverable-dyn g (b.vtable, b.value)).may_reject b.value saved) c.args.plan.now c.args.cast.items p c.in_ok-run_state.ensures.cast
          (rejected_of (λ b saved. (goal.Recoverable-dyn g (b.vtable, b.value)).may_reject b.value saved) (first_of (slice_index_or (map (λ row. map (λ b. content ((goal.Recoverable-dyn g (b.vtable, b.value)).kind_of b.value) ((goal.Recoverable-dyn g (b.vtable, b.value)).value_of b.value)) row.items) c.args.cast.items) p [])).kind p (map (λ row. row.items) c.args.cast.items) (objects_held c.in_ok-run_state.run_state.objects.items) c.in_ok-run_state.ensures.rejects
          (subst (λ helds. MayReject (λ b saved. (goal.Recoverable-dyn g (b.vtable, b.value)).may_reject b.value saved) (first_of (slice_index_or (map (λ row. map (λ b. content ((goal.Recoverable-dyn g (b.vtable, b.value)).kind_of b.value) ((goal.Recoverable-dyn g (b.vtable, b.value)).value_of b.value)) row.items) c.args.cast.items) p [])).kind (slice_index_or (objects_held helds.items) p [])) c.in_ok-keep_journals.ensures.objects
          (c.in_err-make_all.ensures.object (map (λ row. map (λ b. content ((goal.Recoverable-dyn g (b.vtable, b.value)).kind_of b.value) ((goal.Recoverable-dyn g (b.vtable, b.value)).value_of b.value)) row.items) c.args.cast.items) (subst (λ helds. HoldDue (map (λ row. map (λ b. content ((goal.Recoverable-dyn g (b.vtable, b.value)).kind_of b.value) ((goal.Recoverable-dyn g (b.vtable, b.value)).value_of b.value)) row.items) c.args.cast.items) [] (has_of helds.items (λ b. content ((goal.Recoverable-dyn g (b.vtable, b.value)).kind_of b.value) ((goal.Recoverable-dyn g (b.vtable, b.value)).value_of b.value)))) (sym c.in_ok-keep_journals.ensures.objects) c.in_ok-run_state.ensures.due)
          (subst (λ (z : Planned). HaveSpares z (map (λ row. map (λ b. content ((goal.Recoverable-dyn g (b.vtable, b.value)).kind_of b.value) ((goal.Recoverable-dyn g (b.vtable, b.value)).value_of b.value)) row.items) c.args.cast.items)) (sym (ap (λ (w : World). w.agenda.plan) c.in_ok-keep_journals.ensures.world ∙ c.in_ok-run_state.ensures.plan)) (have_spares (λ row. row.items) (λ b. (goal.Recoverable-dyn g (b.vtable, b.value)).kind_of b.value) (λ b. content ((goal.Recoverable-dyn g (b.vtable, b.value)).kind_of b.value) ((goal.Recoverable-dyn g (b.vtable, b.value)).value_of b.value)) (λ b. refl) c.args.plan.now c.args.cast.items c.in_ok-run_state.ensures.cast)) p e))),
    ))
