use Rattle.std.proofs.Common.{◌∙◌, ap, sym, subst, map, length}
use Rattle.kt_threads.specs.Histories.{WorldHistory, IsMade}
use Rattle.kt_threads.specs.Turns.{IsReadyStep}
use Rattle.kt_threads.proofs.Replay.{acted, history_same, history_more}
use Rattle.kt_threads.proofs.state.State.act.Goals as goal

pub invariant_of-self-in_err-make_step : goal.invariant_of-self-in_err-make_step
invariant_of-self-in_err-make_step c =
    rw c.reserve.ensures.items
    (history_same (map (λ step. step.value) c.self.inside.steps.items) c.self.inside.world c.make_step.new.self c.in_err-make_step.ensures.err c.self.invariant)

pub invariant_of-self-2 : goal.invariant_of-self-2
invariant_of-self-2 c =
    let old = c.self.inside.world in
    let new = c.make_step.new.self in
    let ready : IsReadyStep old c.args.ready.now = subst (λ (h : WorldHistory). IsReadyStep h.world c.args.ready.now) (sym c.self.view_is) c.requires in
    let step : IsMade old c.acted_of-made.result new =
    acted old new c.args.ready.now c.args.give c.make_step.new.acts (length c.rows.result.now) c.acted_of-made.result c.acted_of-made.ensures
    (ap length (c.rows.ensures.rows ∙ ap (λ l. l.rows) c.log.ensures.log)) ready c.in_ok-make_step.ensures.keeps c.in_ok-make_step.ensures.made in
    rw (c.record_made.ensures, c.reserve.ensures.items)
    (history_more (map (λ step. step.value) c.self.inside.steps.items) c.acted_of-made.result old new step c.self.invariant)

pub returns-clause-made : goal.returns-clause-made
returns-clause-made c =
    let old = c.self.inside.world in
    let new = c.make_step.new.self in
    let ready : IsReadyStep old c.args.ready.now = subst (λ (h : WorldHistory). IsReadyStep h.world c.args.ready.now) (sym c.self.view_is) c.requires in
    subst (λ (h : WorldHistory). IsMade h.world c.acted_of-made.result new) c.self.view_is
    (acted old new c.args.ready.now c.args.give c.make_step.new.acts (length c.rows.result.now) c.acted_of-made.result c.acted_of-made.ensures
    (ap length (c.rows.ensures.rows ∙ ap (λ l. l.rows) c.log.ensures.log)) ready c.in_ok-make_step.ensures.keeps c.in_ok-make_step.ensures.made)
