use Rattle.std.proofs.Common.{[], ◌∷◌, ◌++◌}
use Rattle.kt_tables.specs.Calls.{sent}
use Rattle.std.proofs.Common.{refl, subst, sym, ◌∙◌}
use Rattle.kt_process.specs.ProcessStates.{ProcessState}
use Rattle.kt_process.specs.Shown.{IsSeenAs}
use Rattle.kt_system.proofs.Showing.{is_turned, stood, placed}
use Rattle.std.proofs.Common.{◌<◌, ◌+◌, sym, ap, subst, ◌∙◌}
use Rattle.kt_system.proofs.Turns.{state_at}
use Rattle.kt_system.proofs.system.System.note_sent.Goals as goal

pub send-requires-clause-left : goal.send-requires-clause-left
send-requires-clause-left c =
    let was = state_at _ _ c.args.p c.index.result c.index_mut.result.now c.self.view_is c.self.invariant c.requires.p c.index.ensures.value c.index_mut.ensures.value in
    subst (λ (x : ProcessState). x.used < 281474976710655) (sym was) c.requires.left

pub returns-clause-label : goal.returns-clause-label
returns-clause-label c =
    let was = state_at _ _ c.args.p c.index.result c.index_mut.result.now c.self.view_is c.self.invariant c.requires.p c.index.ensures.value c.index_mut.ensures.value in
    c.send.ensures.label ∙ ap (λ (x : ProcessState). x.used + 1) was

pub returns-clause-turned : goal.returns-clause-turned
returns-clause-turned c = is_turned _ _ _ c.args.p c.index.result c.send.new.self c.self.view_is c.index.ensures.value refl refl refl refl refl refl refl refl

pub returns-clause-shows : goal.returns-clause-shows
returns-clause-shows c = λ v h s. subst (λ (x : ProcessState). IsSeenAs x (record (v.states c.args.p) { calls = (v.states c.args.p).calls ++ sent c.args.to ((v.states c.args.p).used + 1) ∷ []; used = (v.states c.args.p).used + 1 })) (sym (placed _ _ _ c.args.p c.index.result c.send.new.self c.self.view_is c.self.invariant c.requires.p c.index.ensures.value refl)) (c.send.ensures.shows (v.states c.args.p) (stood _ _ c.args.p c.index.result c.index_mut.result.now v c.self.view_is c.self.invariant c.requires.p c.index.ensures.value c.index_mut.ensures.value h) s)
