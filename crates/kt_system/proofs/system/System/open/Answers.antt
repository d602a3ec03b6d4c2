use Rattle.kt_system.proofs.Tallying.{tallies_kept}
use Rattle.std.proofs.Common.{List, [], ◌∷◌, ◌++◌, refl, ap, subst, sym, ◌∙◌}
use Rattle.kt_spacetime.specs.declared.event.Event.{Event}
use Rattle.kt_spacetime.specs.declared.event.Event.TheVariants.{Began}
use Rattle.kt_system.specs.Systems.{Whole}
use Rattle.kt_system.specs.Shown.{ShowsState}
use Rattle.kt_system.proofs.Showing.{shows_parts}
use Rattle.std.proofs.Common.{refl}
use Rattle.kt_system.proofs.Frames.{keeps_parcels}
use Rattle.kt_system.proofs.system.System.open.Goals as goal

pub returns-clause-keeps : goal.returns-clause-keeps
returns-clause-keeps c = keeps_parcels _ _ _ c.self.view_is refl refl refl refl refl

pub returns-clause-shows : goal.returns-clause-shows
returns-clause-shows c = λ v h.
    let i = subst (λ (w : Whole). ShowsState w v) (sym c.self.view_is) h in
    let rows = c.push_reserved.ensures.rows ∙ ap (λ (l : List Event). l ++ Began c.args.p c.args.inst c.args.kind ∷ []) i.log in
    shows_parts _ _ _ v v.channel v.held v.kept (v.log ++ Began c.args.p c.args.inst c.args.kind ∷ []) c.args.inst c.self.view_is refl refl i.channels i.held i.kept rows c.get-self-inside.ensures.value h

pub returns-clause-tallies : goal.returns-clause-tallies
returns-clause-tallies c = tallies_kept _ _ _ c.self.view_is refl refl refl
