use Rattle.std.proofs.Common.{rules, ◌≡◌, ℕ, ℤ, false, List, Option, ap, set, subst, sym, ◌∙◌}
use Rattle.std.specs.Prelude.{Result, Ok, Err, OnErr, is_some}
use Rattle.std.proofs.Math.Seq.{map-set_same}
use Rattle.kt_object.specs.Holdings.{content}
use Rattle.std.specs.List.{Any}
use Rattle.kt_object.specs.Refusals.{held_objects}
use Rattle.kt_object.proofs.Rejected.{any_there, any_present, any_spare, any_at_0, any_set, any_removed}
use Rattle.kt_object.proofs.held.Held.restore.Goals as goal

on_err : {T E : Type 0} (r : Result T E) (P : Type 0) → P → OnErr r P
on_err (Ok value) P p = tt
on_err (Err fault) P p = p

same_content : (j k : ℕ) (v w : List ℤ) → j ≡ k → v ≡ w → content j v ≡ content k w
same_content j k v w e f = ap (λ (n : ℕ). content n v) e ∙ ap (λ (x : List ℤ). content k x) f

pub returns-in_err-bring_back-clause-err_spares : goal.returns-in_err-bring_back-clause-err_spares
returns-in_err-bring_back-clause-err_spares g c =
    let y = c.index_mut.result.now in
    on_err c.from_residual.result _ (map-set_same _ c.args.self.now.spares.items 0 _ y
    (rw (← c.index_mut.ensures.value) (same_content _ _ _ _ c.bring_back.ensures.kind c.in_err-bring_back.ensures.err)))

pub returns-in-Some-clause-form : goal.returns-in-Some-clause-form
returns-in-Some-clause-form g c = λ e.
    any_there (λ b. (goal.Recoverable-dyn g (b.vtable, b.value)).may_reject b.value c.args.self.now.depot.permanent) c.args.self.now.present c.in-Some.object c.args.self.now.spares.items (sym c.in-Some.ensures.value)
    (rw c.permanent.ensures at (c.bring_back-answer.ensures.form e))

pub returns-in-Some-clause-rejects : goal.returns-in-Some-clause-rejects
returns-in-Some-clause-rejects g c = λ bytes.
    any_present (λ b. (goal.Recoverable-dyn g (b.vtable, b.value)).may_reject b.value bytes) c.args.self.now.present c.in-Some.object c.bring_back-answer.new.object c.args.self.now.spares.items (sym c.in-Some.ensures.value)
    (c.bring_back-answer.ensures.rejects bytes)

pub returns-in_err-bring_back-clause-form : goal.returns-in_err-bring_back-clause-form
returns-in_err-bring_back-clause-form g c = λ e.
    let is : c.from_residual.result ≡ Err c.in_err-bring_back.field-0.0 = search rules in
    let down : is_some c.args.self.now.present ≡ false = search rules in
    any_at_0 (λ b. (goal.Recoverable-dyn g (b.vtable, b.value)).may_reject b.value c.args.self.now.depot.permanent) c.args.self.now.present c.index_mut.result.now c.args.self.now.spares.items (c.requires down) (sym c.index_mut.ensures.value)
    (rw c.permanent-2.ensures at (c.in_err-bring_back.ensures.form (sym is ∙ e)))

pub returns-in_err-bring_back-clause-rejects : goal.returns-in_err-bring_back-clause-rejects
returns-in_err-bring_back-clause-rejects g c = λ bytes any.
    let down : is_some c.args.self.now.present ≡ false = search rules in
    any_spare (λ b. (goal.Recoverable-dyn g (b.vtable, b.value)).may_reject b.value bytes) c.args.self.now.present c.args.self.now.spares.items
    (any_set (λ b. (goal.Recoverable-dyn g (b.vtable, b.value)).may_reject b.value bytes) c.index_mut.result.now c.bring_back.new.object c.args.self.now.spares.items (c.requires down) (sym c.index_mut.ensures.value)
    (c.bring_back.ensures.rejects bytes) (subst (λ (o : Option _). Any (λ b. (goal.Recoverable-dyn g (b.vtable, b.value)).may_reject b.value bytes) (held_objects o (set c.args.self.now.spares.items 0 c.bring_back.new.object))) c.take.ensures.after any))

pub returns-clause-rejects : goal.returns-clause-rejects
returns-clause-rejects g c = λ bytes any.
    let down : is_some c.args.self.now.present ≡ false = search rules in
    any_removed (λ b. (goal.Recoverable-dyn g (b.vtable, b.value)).may_reject b.value bytes) c.args.self.now.present c.index_mut.result.now c.bring_back.new.object c.remove.result c.args.self.now.spares.items c.remove.new.self.items
    (c.requires down) (sym c.index_mut.ensures.value) (c.bring_back.ensures.rejects bytes) c.remove.ensures.value c.remove.ensures.items any
