use Rattle.std.proofs.Common.{rules, ◌≡◌, ◌∙◌, ◌<◌, ℕ, List, [], Some, ap, refl, subst, sym, length, map, slice_index_or, true}
use Rattle.std.specs.Prelude.{Result, Err, IfErr}
use Rattle.std.proofs.lemmas.List.{length-map}
use Rattle.std.proofs.lemmas.Result.{err_from_is_err_and}
use Rattle.kt_threads.specs.Books.{DoneBy, errands_by}
use Rattle.kt_threads.specs.declared.asked.Errand.{Errand}
use Rattle.kt_object.specs.Holdings.{content}
use Rattle.kt_threads.proofs.Noting.{theirs_of}
use Rattle.kt_threads.specs.Faults.{live_stopped_at}
use Rattle.kt_threads.specs.Histories.{AreTheirs}
use Rattle.kt_threads.proofs.Rejecting.{not_object, rejected_in_thread}
use Rattle.kt_threads.proofs.Working.{all_served_of, all_left_of}
use Rattle.kt_threads.proofs.Zips.{mapped}
use Rattle.kt_threads.proofs.outcome.work_out.Goals as goal

pub returns-clause-told : goal.returns-clause-told
returns-clause-told g c = c.in_ok-lived.ensures.noted.tells

pub returns-clause-listed : goal.returns-clause-listed
returns-clause-listed g c = c.in_ok-lived.ensures.noted.lists

pub returns-clause-served : goal.returns-clause-served
returns-clause-served g c =
    let is : c.all_agree.result ≡ true = search rules in
    let done = c.in_ok-done.done.items in
    let lists : List (List Errand) = map (λ (d : DoneBy). d.errands) done in
    let here : c.deref-2.result.now ≡ done = search rules in
    let count : length lists ≡ length c.args.plan.now.names =
    length-map done (λ (d : DoneBy). d.errands) ∙ (ap (λ (l : List DoneBy). length l) (sym here) ∙ (c.all_agree.ensures.count is ∙ (search rules))) in
    let same = subst (λ (l : List DoneBy). (p : ℕ) → p < c.size.result → slice_index_or (map (λ (d : DoneBy). d.errands) l) p [] ≡ errands_by p c.in_ok-lived.asked) here (c.all_agree.ensures.same is) in
    let theirs : AreTheirs (length c.args.plan.now.names) (map (λ step. step.value) c.in_ok-lived.lived.steps.items) lists =
    theirs_of (length c.args.plan.now.names) (map (λ step. step.value) c.in_ok-lived.lived.steps.items) c.in_ok-lived.asked lists c.in_ok-lived.ensures.noted.asks count
    (λ p l. same p (search rules)) in
    let have : lists ≡ map (λ t. t.done.errands) c.in_ok-workers-2.workers.items =
    ap (map (λ (d : DoneBy). d.errands)) c.in_ok-done.ensures.done ∙ sym (mapped (λ (d : DoneBy). d.errands) (λ t. t.done) (λ t. t.done.errands) (λ _. refl) c.in_ok-workers-2.workers.items) in (
      lists,
      theirs,
      all_served_of (λ b. content ((goal.Recoverable-dyn g (b.vtable, b.value)).kind_of b.value) ((goal.Recoverable-dyn g (b.vtable, b.value)).value_of b.value)) (λ b saved. (goal.Recoverable-dyn g (b.vtable, b.value)).may_reject b.value saved)
          c.args.objects.items c.in_ok-done.objects.items lists c.in_ok-workers.workers.items c.in_ok-workers-2.workers.items
          c.in_ok-workers.ensures.held c.in_ok-done.ensures.held have c.in_ok-workers.ensures.fresh
          c.in_ok-workers-2.ensures c.in_ok-done.ensures.whole,
    )

pub returns-clause-spares : goal.returns-clause-spares
returns-clause-spares g c =
    all_left_of (λ b. content ((goal.Recoverable-dyn g (b.vtable, b.value)).kind_of b.value) ((goal.Recoverable-dyn g (b.vtable, b.value)).value_of b.value)) (λ b saved. (goal.Recoverable-dyn g (b.vtable, b.value)).may_reject b.value saved)
    c.args.objects.items c.in_ok-done.objects.items c.in_ok-workers.workers.items c.in_ok-workers-2.workers.items
    c.in_ok-workers.ensures.held c.in_ok-done.ensures.held
    c.in_ok-workers-2.ensures c.in_ok-done.ensures.whole

if_err : {T E : Type 0} (r : Result T E) (P : E → Type 0) (e : E) → r ≡ Err e → P e → IfErr r P
if_err r P e is p = rw is p

pub returns-in_err-lived-clause-object : goal.returns-in_err-lived-clause-object
returns-in_err-lived-clause-object g c = λ cast due. if_err c.from_residual-in_err-lived.result _ c.in_err-lived.field-0.0 (search rules)
    (λ p e. rejected_in_thread (λ b. content ((goal.Recoverable-dyn g (b.vtable, b.value)).kind_of b.value) ((goal.Recoverable-dyn g (b.vtable, b.value)).value_of b.value)) (λ b saved. (goal.Recoverable-dyn g (b.vtable, b.value)).may_reject b.value saved)
    cast c.args.objects.items c.in_ok-workers.workers.items c.in_ok-workers-2.workers.items c.in_ok-workers.ensures.held due c.in_ok-workers.ensures.going c.in_ok-workers-2.ensures
    p (rw (sym c.deref.ensures.value) (c.in_err-lived.ensures.named p (ap live_stopped_at e) ∙ ap Some e)))

pub returns-in_err-done-clause-object : goal.returns-in_err-done-clause-object
returns-in_err-done-clause-object g c = λ cast due.
    let fault = err_from_is_err_and c.from_residual-in_err-done.result c.from_residual-in_err-done.ensures.1 in
    let err = fault.1 in
    let same = fault.2 in
    if_err c.from_residual-in_err-done.result _ c.in_err-done.field-0.0 (cc (err, same))
    (λ p e. absurd (not_object c.in_err-done.field-0.0 p c.in_err-done.ensures.unnamed e))
