use Rattle.std.proofs.Common.{refl, subst, sym, ◌∙◌}
use Rattle.kt_process.specs.ProcessStates.{ProcessState, inst_of, asked_of}
use Rattle.kt_process.specs.Shown.{IsSeenAs, closed_as}
use Rattle.kt_system.proofs.Showing.{is_turned, stood, placed}
use Rattle.std.proofs.Common.{◌≡◌, refl, arith, ap, ◌∙◌}
use Rattle.kt_system.proofs.Turns.{state_at, tables_at}
use Rattle.kt_system.proofs.system.System.leave.Goals as goal

pub returns-clause-tell : goal.returns-clause-tell
returns-clause-tell c = λ q.
    let was = state_at _ _ c.args.p c.index.result c.index_mut.result.now c.self.view_is c.self.invariant c.requires c.index.ensures.value c.index_mut.ensures.value in
    c.close.ensures.tell q ∙ ap (λ (x : ProcessState). asked_of x.side q) was

pub returns-clause-within : goal.returns-clause-within
returns-clause-within c = λ q h.
    let was = state_at _ _ c.args.p c.index.result c.index_mut.result.now c.self.view_is c.self.invariant c.requires c.index.ensures.value c.index_mut.ensures.value in
    let size : c.index_mut.result.now.tables.processes ≡ c.args.self.now.size = ap (λ (x : ProcessState). x.tables.processes) was ∙ tables_at _ _ c.args.p c.self.view_is c.self.invariant c.requires in
    let k = c.close.ensures.within q h in omega arith

pub returns-clause-turned : goal.returns-clause-turned
returns-clause-turned c = is_turned _ _ _ c.args.p c.index.result c.close.new.self c.self.view_is c.index.ensures.value refl refl refl refl refl refl refl refl

pub returns-clause-shows : goal.returns-clause-shows
returns-clause-shows c = λ v h there. let was = state_at _ _ c.args.p c.index.result c.index_mut.result.now c.self.view_is c.self.invariant c.requires c.index.ensures.value c.index_mut.ensures.value in
    subst (λ (x : ProcessState). IsSeenAs x (closed_as c.args.commit (v.states c.args.p))) (sym (placed _ _ _ c.args.p c.index.result c.close.new.self c.self.view_is c.self.invariant c.requires c.index.ensures.value refl)) (c.close.ensures.shows (v.states c.args.p) (stood _ _ c.args.p c.index.result c.index_mut.result.now v c.self.view_is c.self.invariant c.requires c.index.ensures.value c.index_mut.ensures.value h) (λ e. there (sym (ap (λ (x : ProcessState). inst_of x.side) was) ∙ e)))
