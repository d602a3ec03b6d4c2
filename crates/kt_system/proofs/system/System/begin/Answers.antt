use Rattle.std.proofs.Common.{[], rules}
use Rattle.kt_system.proofs.Tallying.{tallies_then}
use Rattle.std.proofs.Common.{ap, sym, ◌∙◌}
use Rattle.kt_process.specs.ProcessStates.{ProcessState, inst_of}
use Rattle.kt_system.specs.Shown.{ShowsState, JoinsAs, with_instance, begun_as}
use Rattle.std.proofs.Common.{subst}
use Rattle.kt_system.proofs.Frames.{can_join_kept}
use Rattle.kt_process.specs.declared.actions.Action.{Action}
use Rattle.kt_system.specs.Systems.{CanCarryOut}
use Rattle.kt_system.proofs.Growing.{grows_then}
use Rattle.kt_system.proofs.system.System.begin.Goals as goal

pub join-told-requires-clause-room : goal.join-told-requires-clause-room
join-told-requires-clause-room c =
    can_join_kept _ _ _ _ _ c.open.ensures.keeps (subst (λ (action : Action). CanCarryOut c.args.self.now c.args.p action) c.in-Join.is c.requires.room)

pub returns-in-Join-clause-shows : goal.returns-in-Join-clause-shows
returns-in-Join-clause-shows c = λ v test label h joins.
    let j = subst (λ (a : Action). JoinsAs c.args.self.now v c.args.p test label a) c.in-Join.is joins in
    subst (λ (a : Action). ShowsState c.join-told.new.self (begun_as v c.args.p c.args.inst c.args.kind test label a)) (sym c.in-Join.is)
    (c.join-told.ensures.shows (with_instance v c.args.p c.args.inst c.args.kind) test label (c.open.ensures.shows v h) j.0 j.1 j.2 (λ e. j.3 (sym (ap (λ (x : ProcessState). inst_of x.side) (c.open.ensures.keeps.state_of c.args.p)) ∙ e)))

pub returns-in-Join-clause-keeps : goal.returns-in-Join-clause-keeps
returns-in-Join-clause-keeps c = record {
  size = search rules;
  grows = grows_then 1 3 _ _ _ c.open.ensures.grows c.join-told.ensures.keeps.grows;
  tallies = tallies_then [] _ _ _ c.open.ensures.tallies c.join-told.ensures.keeps.tallies;
}
