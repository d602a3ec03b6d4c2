use Rattle.std.proofs.Common.{arith, sym, ap, subst, ◌∙◌}
use Rattle.std.proofs.lemmas.Option.{slice_get_past}
use Rattle.kt_system.specs.Counts.{takes_in, IsTakeAt}
use Rattle.kt_core.specs.Choices.{choices}
use Rattle.kt_core.specs.Worlds.{World}
use Rattle.kt_core.proofs.Counted.{none_done, count_alone, take_alone}
use Rattle.kt_core.proofs.world.World.take_at.Goals as goal

pub returns-in_err-at : goal.returns-in_err-at
returns-in_err-at c =
    let w = c.args.self.now in
    let all = ap (λ (v : World). takes_in v.system) c.self.view_is ∙ count_alone w (none_done w c.requires.closed) in
    let over = c.in_err-at.ensures.none in
    c.from_residual.ensures ∙ sym (slice_get_past (choices w) c.args.place (omega (arith, all, over)))

pub returns : goal.returns
returns c =
    let w = c.args.self.now in
    sym (take_alone w c.in_ok-at.at c.in_ok-at.from c.args.place (none_done w c.requires.closed) (subst (λ (v : World). IsTakeAt v.system c.in_ok-at.at c.in_ok-at.from c.args.place) c.self.view_is c.in_ok-at.ensures.some))
