use Rattle.std.proofs.Common.{rules, ◌≡◌, ◌+◌, ◌∙◌, ℕ, List, length, sym, arith}
use Rattle.std.specs.Prelude.{Result, Ok, Err, IfErr, OnOk}
use Rattle.std.proofs.lemmas.List.{length-map}
use Rattle.kt_plan.specs.Failures.{failures_of}
use Rattle.kt_object.proofs.CastFacts.{from_image}
use Rattle.kt_object.proofs.casts.begin_all.Goals as goal

if_err : {T E : Type 0} (r : Result T E) (P : E → Type 0) (e : E) → r ≡ Err e → P e → IfErr r P
if_err r P e is p = rw is p

on_ok : {T E : Type 0} (r : Result T E) (P : Type 0) → P → OnOk r P
on_ok (Ok value) P p = p
on_ok (Err fault) P p = tt

any_err : {T E : Type 0} (r : Result T E) (P : E → Type 0) → ((e : E) → P e) → IfErr r P
any_err (Ok value) P p = tt
any_err (Err fault) P p = p fault

pub returns-in_err-check_cast-clause-least : goal.returns-in_err-check_cast-clause-least
returns-in_err-check_cast-clause-least g c =
    let k : c.deref.result.now ≡ c.args.plan.now.kinds = search rules in
    if_err c.from_residual.result _ c.in_err-check_cast.field-0.0 (search rules) (rw (c.as_slice.ensures.value, k) at c.in_err-check_cast.ensures.least)

pub returns-in_err-check_cast-clause-kind : goal.returns-in_err-check_cast-clause-kind
returns-in_err-check_cast-clause-kind g c =
    let k : c.deref.result.now ≡ c.args.plan.now.kinds = search rules in
    if_err c.from_residual.result _ c.in_err-check_cast.field-0.0 (search rules) (rw (c.as_slice.ensures.value, k) at c.in_err-check_cast.ensures.kind)

pub returns-clause-kinds : goal.returns-clause-kinds
returns-clause-kinds g c =
    let k : c.deref.result.now ≡ c.args.plan.now.kinds = search rules in
    on_ok c.begin_rows.result _ (rw (c.as_slice.ensures.value, k) at c.in_ok-check_cast.ensures.kinds)

pub returns-clause-later : goal.returns-clause-later
returns-clause-later g c =
    let k : c.deref.result.now ≡ c.args.plan.now.kinds = search rules in
    any_err c.begin_rows.result _ (λ fault later. rw (c.as_slice.ensures.value, k) at c.in_ok-check_cast.ensures.kinds)

pub begin_rows-requires-clause-few : goal.begin_rows-requires-clause-few
begin_rows-requires-clause-few g c =
    let k : c.deref.result.now ≡ c.args.plan.now.kinds = search rules in
    let s = rw (c.as_slice.ensures.value, k) at c.in_ok-check_cast.ensures.sizes in
    let n = sym (length-map c.args.cast.items _) ∙ s.processes in
    let p = c.size-count.ensures.plan in
    let e = p.one_kind_each in
    let f = p.names.few in
    omega (arith, n, e, f)

pub begin_rows-requires-clause-some : goal.begin_rows-requires-clause-some
begin_rows-requires-clause-some g c = λ p row l.
    let k : c.deref.result.now ≡ c.args.plan.now.kinds = search rules in
    let s = rw (c.as_slice.ensures.value, k) at c.in_ok-check_cast.ensures.sizes in
    let n = sym (length-map c.args.cast.items _) ∙ s.processes in
    let h = from_image _ (λ (xs : List ℕ). length xs ≡ failures_of c.deref-2.result.now p + 1) c.args.cast.items p row l (s.objects p (omega (arith, l, n))) in
    let i = sym (length-map _ _) ∙ h in
    omega (arith, i)
