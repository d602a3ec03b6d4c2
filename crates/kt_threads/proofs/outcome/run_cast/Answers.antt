use Rattle.std.proofs.Common.{rules, ◌≡◌, [], inl, inr, map, subst}
use Rattle.std.specs.Prelude.{Result, Err, IfErr, slice_index_or}
use Rattle.kt_object.specs.Holdings.{content}
use Rattle.kt_run.specs.Objects.{first_of}
use Rattle.kt_run.specs.Rejections.{MayReject}
use Rattle.kt_threads.proofs.Keeping.{due_then, run_then, settled_then}
use Rattle.kt_threads.proofs.Rejecting.{of_kind}
use Rattle.kt_threads.proofs.Working.{all_of_has, left_then}
use Rattle.kt_threads.proofs.outcome.run_cast.Goals as goal

pub returns-clause-run : goal.returns-clause-run
returns-clause-run g c =
    let ends = c.in_ok-run.ensures in
    run_then c.laws_of_worlds.ensures c.args.plan.now _ _ ends.history ends.served.0 ends.served.1 _ _ ends.served.2 _ c.in_ok-objects.ensures.due

pub returns-clause-due : goal.returns-clause-due
returns-clause-due g c =
    let ends = c.in_ok-run.ensures in
    due_then c.laws_of_worlds.ensures c.args.plan.now _ _ ends.history ends.served.0 ends.served.1 _ _ ends.served.2 _ c.in_ok-objects.ensures.due

pub returns-clause-settled : goal.returns-clause-settled
returns-clause-settled g c =
    let ends = c.in_ok-run.ensures in
    all_of_has (λ b. content ((goal.Recoverable-dyn g (b.vtable, b.value)).kind_of b.value) ((goal.Recoverable-dyn g (b.vtable, b.value)).value_of b.value)) c.in_ok-run.run'.1.items
    (settled_then c.laws_of_worlds.ensures c.args.plan.now _ _ ends.history ends.served.0 ends.served.1 _ _ ends.served.2 _ c.in_ok-objects.ensures.due)

pub returns-clause-spares : goal.returns-clause-spares
returns-clause-spares g c =
    left_then (λ h. h.spares.items) (λ row. row.items) c.args.cast.items c.in_ok-objects.objects.items c.in_ok-run.run'.1.items
    c.in_ok-objects.ensures.spares c.in_ok-run.ensures.spares

if_err : {T E : Type 0} (r : Result T E) (P : E → Type 0) (e : E) → r ≡ Err e → P e → IfErr r P
if_err r P e is p = rw is p

pub returns-in_err-objects-clause-object : goal.returns-in_err-objects-clause-object
returns-in_err-objects-clause-object g c = if_err c.from_residual.result _ c.in_err-objects.field-0.0 (search rules) (λ p e. inl (c.in_err-objects.ensures.object p e))

pub returns-in_err-run-clause-object : goal.returns-in_err-run-clause-object
returns-in_err-run-clause-object g c = if_err c.from_residual-in_err-run.result _ c.in_err-run.field-0.0 (search rules)
    (λ p e. inr (of_kind (λ b saved. (goal.Recoverable-dyn g (b.vtable, b.value)).may_reject b.value saved) _ _ (slice_index_or (map (λ row. row.items) c.args.cast.items) p []) (c.in_ok-objects.ensures.kinds p)
    (subst (λ objects. MayReject (λ b saved. (goal.Recoverable-dyn g (b.vtable, b.value)).may_reject b.value saved) (first_of (slice_index_or (map (λ row. map (λ b. content ((goal.Recoverable-dyn g (b.vtable, b.value)).kind_of b.value) ((goal.Recoverable-dyn g (b.vtable, b.value)).value_of b.value)) row.items) c.args.cast.items) p [])).kind (slice_index_or objects p []))
    c.in_ok-objects.ensures.given
    (c.in_err-run.ensures.object (map (λ row. map (λ b. content ((goal.Recoverable-dyn g (b.vtable, b.value)).kind_of b.value) ((goal.Recoverable-dyn g (b.vtable, b.value)).value_of b.value)) row.items) c.args.cast.items) c.in_ok-objects.ensures.due p e))))
