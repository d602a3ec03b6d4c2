use Rattle.std.proofs.Common.{refl, subst, sym}
use Rattle.kt_process.specs.ProcessStates.{ProcessState}
use Rattle.kt_process.specs.Shown.{IsSeenAs}
use Rattle.std.specs.Prelude.{false}
use Rattle.kt_system.proofs.Showing.{is_turned, stood, placed}
use Rattle.kt_system.proofs.system.System.put_down.Goals as goal

pub returns-clause-turned : goal.returns-clause-turned
returns-clause-turned c = is_turned _ _ _ c.args.p c.index.result c.fail.new.self c.self.view_is c.index.ensures.value refl refl refl refl refl refl refl refl

pub returns-clause-shows : goal.returns-clause-shows
returns-clause-shows c = λ v h. subst (λ (x : ProcessState). IsSeenAs x (record (v.states c.args.p) { up = false })) (sym (placed _ _ _ c.args.p c.index.result c.fail.new.self c.self.view_is c.self.invariant c.requires c.index.ensures.value refl)) (c.fail.ensures.shows (v.states c.args.p) (stood _ _ c.args.p c.index.result c.index_mut.result.now v c.self.view_is c.self.invariant c.requires c.index.ensures.value c.index_mut.ensures.value h))
