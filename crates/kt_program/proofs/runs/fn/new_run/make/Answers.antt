use Rattle.std.proofs.Common.{rules, ◌≡◌, ◌∙◌, ℕ, ℤ, List, subst, sym, ap}
use denote.Param.Object.{read_made}
use Rattle.kt_object.specs.Reliable.{IsReliable}
use Rattle.kt_object.specs.Value.{opening_value}
use Rattle.kt_program.proofs.runs.fn.new_run.make.Goals as goal
use Rattle.kt_program.proofs.runs.fn.new_run.make.Hides.{has-1-3}

-- the members of the boxed tail are those of the tail itself
pub returns-in_ok-new-in_default : goal.returns-in_ok-new-in_default
returns-in_ok-new-in_default g c =
    let tail = (has-1-3 g.dyn-1.0 g.dyn-1-has).same tt in
    let boxed = c.into_dyn_box-in_ok-new-in_default.ensures.1 in
    let new = c.in_ok-new-in_default.ensures.ok in
    record {
      kind = λ is. let two : 2 ≡ c.args.kind = search rules in
          read_made g.dyn-1.0 _ _ tail ℕ (λ j v. j.1.kind_of v) _ _ _ boxed ∙ two;
      value = λ is. let two : 2 ≡ c.args.kind = search rules in
          read_made g.dyn-1.0 _ _ tail (List ℤ) (λ j v. j.1.value_of v) _ _ _ boxed ∙ (ap (λ t. t.numbers) new ∙ (c.new-in_default.ensures.value ∙ ap opening_value two));
      reliable = subst (λ (P : Type 0). P)
          (sym (read_made g.dyn-1.0 _ _ tail (Type 0) (λ j v. IsReliable (j.1.kind_of v) (j.1.may_refuse v) (λ saved. j.1.may_reject v saved)) _ _ _ boxed))
          c.new-in_default.ensures.reliable;
    }
