use Rattle.std.proofs.Common.{[], ◌∷◌, ◌++◌}
use Rattle.kt_tables.specs.Calls.{received}
use Rattle.std.proofs.Common.{refl, subst, sym}
use Rattle.kt_process.specs.ProcessStates.{ProcessState}
use Rattle.kt_process.specs.Shown.{IsSeenAs}
use Rattle.kt_system.proofs.Showing.{is_turned, stood, placed}
use Rattle.kt_system.proofs.system.System.note_received.Goals as goal

pub returns-clause-turned : goal.returns-clause-turned
returns-clause-turned c = is_turned _ _ _ c.args.p c.index.result c.receive.new.self c.self.view_is c.index.ensures.value refl refl refl refl refl refl refl refl

pub returns-clause-shows : goal.returns-clause-shows
returns-clause-shows c = λ v h s. subst (λ (x : ProcessState). IsSeenAs x (record (v.states c.args.p) { calls = (v.states c.args.p).calls ++ received c.args.from c.args.label ∷ [] })) (sym (placed _ _ _ c.args.p c.index.result c.receive.new.self c.self.view_is c.self.invariant c.requires.p c.index.ensures.value refl)) (c.receive.ensures.shows (v.states c.args.p) (stood _ _ c.args.p c.index.result c.index_mut.result.now v c.self.view_is c.self.invariant c.requires.p c.index.ensures.value c.index_mut.ensures.value h) s)
