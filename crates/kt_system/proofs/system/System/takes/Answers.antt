use Rattle.std.proofs.Common.{◌≡◌, subst, ap, ◌∙◌}
use Rattle.kt_fifo.specs.Counts.{busy_pairs}
use Rattle.kt_system.specs.Systems.{Whole}
use Rattle.kt_system.proofs.Places.{takes_alone}
use Rattle.kt_system.proofs.system.System.takes.Goals as goal

pub returns : goal.returns
returns c =
    let w = c.args.self.now in
    let size : w.channels.processes ≡ w.size = subst (λ (v : Whole). v.channels.processes ≡ v.size) c.self.view_is c.self.invariant.channels in
    c.busy_pairs.ensures ∙ (ap (λ (v : Whole). busy_pairs v.channels) c.self.view_is ∙ takes_alone w size c.requires)
