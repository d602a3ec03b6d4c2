use Rattle.std.proofs.Common.{rules, All, ℕ, ◌∙◌, ap, subst, sym}
use Rattle.kt_object.specs.Bytes.{IsSavedState}
use Rattle.kt_object.specs.Value.{opening_value}
use Rattle.kt_plan.specs.Limits.{IsKindOfObject}
use Rattle.kt_program.proofs.Casting.{sizes_of_cast, kinds_of_cast, made_of_cast}
use Rattle.kt_program.proofs.NewCasts.{all_saved, all_taken}
use Rattle.kt_program.proofs.runs.new_run.Goals as goal

pub run_of-requires-clause-sizes : goal.run_of-requires-clause-sizes
run_of-requires-clause-sizes g c = λ k outlives. sizes_of_cast c.in_ok-cast.cast.items (λ row. row.items) _ _ _ _ c.in_ok-cast.ensures

pub run_of-requires-clause-kinds : goal.run_of-requires-clause-kinds
run_of-requires-clause-kinds g c = λ k outlives.
    let proper : All IsKindOfObject c.args.plan.now.kinds = search rules in
    kinds_of_cast c.in_ok-cast.cast.items (λ row. row.items) _ _ _ _ (λ number o is made. made.2.met.1.0 is) proper c.in_ok-cast.ensures

pub run_of-requires-clause-opening : goal.run_of-requires-clause-opening
run_of-requires-clause-opening g c = λ k outlives p row l i object m.
    let proper : All IsKindOfObject c.args.plan.now.kinds = search rules in
    let made = made_of_cast c.in_ok-cast.cast.items (λ row. row.items) _ _ _ proper c.in_ok-cast.ensures p row l i object m in
    made.made.2.met.1.1.0 made.proper ∙ ap opening_value (sym (made.made.2.met.1.0 made.proper))

pub run_of-requires-clause-saved : goal.run_of-requires-clause-saved
run_of-requires-clause-saved g c = λ k outlives.
    let proper : All IsKindOfObject c.args.plan.now.kinds = search rules in
    all_saved c.in_ok-cast.cast.items (λ row. row.items) _ _ _ proper c.in_ok-cast.ensures _ _ (λ number o made. made.2.met.1.1.1.saves)

pub run_of-requires-clause-taken : goal.run_of-requires-clause-taken
run_of-requires-clause-taken g c = λ k outlives.
    let proper : All IsKindOfObject c.args.plan.now.kinds = search rules in
    all_taken c.in_ok-cast.cast.items (λ row. row.items) _ _ _ proper c.in_ok-cast.ensures _
    (λ number o value saved is made state. made.2.met.1.1.1.takes value saved (subst (λ (n : ℕ). IsSavedState n value saved) (sym (made.2.met.1.0 is)) state))
