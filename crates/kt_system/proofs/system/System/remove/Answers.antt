use Rattle.kt_system.proofs.Tallying.{tallies_popped}
use Rattle.std.proofs.Common.{Bool, drop, refl, ap, subst, sym, ◌∙◌}
use Rattle.kt_machine.specs.Seen.{SeenLists}
use Rattle.kt_machine.specs.ListChanges.{with_rest}
use Rattle.kt_system.specs.Systems.{Whole}
use Rattle.kt_system.specs.Shown.{ShowsState, channel_without, held_without}
use Rattle.kt_system.proofs.Showing.{shows_parts, popped_is}
use Rattle.kt_system.proofs.system.System.remove.Goals as goal

pub returns-then-is_held-clause-shows : goal.returns-then-is_held-clause-shows
returns-then-is_held-clause-shows c = λ v h.
    let at = c.args.at in
    let from = c.args.from in
    let i = subst (λ (w : Whole). ShowsState w v) (sym c.self.view_is) h in
    let e = sym c.if-is_held.true in
    let held = c.pop.ensures.lists ∙ (popped_is _ from at _ ∙ (ap (λ (f : SeenLists). with_rest f from at (drop 1 (f from at))) i.held ∙ ap (λ (b : Bool). held_without b v at from) e)) in
    shows_parts _ _ _ v (channel_without c.args.is_held v at from) (held_without c.args.is_held v at from) v.kept v.log v.begun c.self.view_is refl refl (i.channels ∙ ap (λ (b : Bool). channel_without b v at from) e) held i.kept i.log i.begun h

pub returns-else-is_held-clause-shows : goal.returns-else-is_held-clause-shows
returns-else-is_held-clause-shows c = λ v h.
    let at = c.args.at in
    let from = c.args.from in
    let i = subst (λ (w : Whole). ShowsState w v) (sym c.self.view_is) h in
    let e = sym c.if-is_held.false in
    let channels = c.pop-else-is_held.ensures.lists ∙ (popped_is _ from at _ ∙ (ap (λ (f : SeenLists). with_rest f from at (drop 1 (f from at))) i.channels ∙ ap (λ (b : Bool). channel_without b v at from) e)) in
    shows_parts _ _ _ v (channel_without c.args.is_held v at from) (held_without c.args.is_held v at from) v.kept v.log v.begun c.self.view_is refl refl channels (i.held ∙ ap (λ (b : Bool). held_without b v at from) e) i.kept i.log i.begun h

pub returns-else-is_held-clause-tallies : goal.returns-else-is_held-clause-tallies
returns-else-is_held-clause-tallies c = rw c.if-is_held.false (tallies_popped _ _ _ c.args.at c.args.from c.self.view_is c.requires.from c.requires.at refl c.pop-else-is_held.ensures.lists refl)
