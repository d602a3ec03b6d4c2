use Rattle.std.proofs.Common.{rules, ◌≡◌, ◌∙◌, true, false, [], ◌∷◌, ◌++◌, ap, subst, refl, map, length}
use Rattle.std.specs.Prelude.{pos}
use Rattle.kt_threads.specs.Errands.{errand_of, is_no_errand}
use Rattle.kt_threads.specs.Histories.{WorldHistory, IsMade}
use Rattle.kt_threads.specs.declared.state.Made.{Made}
use Rattle.kt_threads.proofs.Replay.{taken_quietly, history_same, history_more}
use Rattle.kt_threads.proofs.state.State.take_quietly.Goals as goal

pub invariant_of-self-in_err-taken : goal.invariant_of-self-in_err-taken
invariant_of-self-in_err-taken c =
    rw c.reserve.ensures.items
    (history_same (map (λ step. step.value) c.self.inside.steps.items) c.self.inside.world c.take_quietly.new.self c.in_err-taken.ensures.err c.self.invariant)

pub invariant_of-self-2 : goal.invariant_of-self-2
invariant_of-self-2 c =
    let old = c.self.inside.world in
    let new = c.take_quietly.new.self in
    let took : c.in_ok-taken.taken ≡ true = search rules in
    let step : IsMade old c.taken_of-quiet.result new =
    taken_quietly old new c.in-Take.at c.in-Take.from (length c.rows.result.now) c.taken_of-quiet.result c.taken_of-quiet.ensures
    (ap length (c.rows.ensures.rows ∙ ap (λ l. l.rows) c.log.ensures.log)) (c.in_ok-taken.ensures.allowed took) c.in_ok-taken.ensures.keeps
    (c.in_ok-taken.ensures.made took (record { able = false; body = pos 0 }) refl) (c.in_ok-taken.ensures.in_runs took) in
    rw (c.record_made.ensures, c.reserve.ensures.items)
    (history_more (map (λ step. step.value) c.self.inside.steps.items) c.taken_of-quiet.result old new step c.self.invariant)

pub returns-clause-made : goal.returns-clause-made
returns-clause-made c =
    let old = c.self.inside.world in
    let new = c.take_quietly.new.self in
    let made = c.taken_of-quiet.result in
    let took : c.in_ok-taken.taken ≡ true = search rules in
    let step : IsMade old made new =
    taken_quietly old new c.in-Take.at c.in-Take.from (length c.rows.result.now) made c.taken_of-quiet.ensures
    (ap length (c.rows.ensures.rows ∙ ap (λ l. l.rows) c.log.ensures.log)) (c.in_ok-taken.ensures.allowed took) c.in_ok-taken.ensures.keeps
    (c.in_ok-taken.ensures.made took (record { able = false; body = pos 0 }) refl) (c.in_ok-taken.ensures.in_runs took) in
    let steps : map (λ step. step.value) c.record_made.new.steps.items ≡ c.args.self.now.steps ++ made ∷ [] =
    rw (c.record_made.ensures, c.reserve.ensures.items) (ap (λ (h : WorldHistory). h.steps ++ made ∷ []) c.self.view_is) in
    record {
      made = made;
      steps = steps;
      is = ap (λ (m : Made). m.told.step) c.taken_of-quiet.ensures;
      leads = subst (λ (h : WorldHistory). IsMade h.world made new) c.self.view_is step;
      idle = ap (λ (m : Made). is_no_errand (errand_of m)) c.taken_of-quiet.ensures;
    }
