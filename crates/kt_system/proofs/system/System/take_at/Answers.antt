use Rattle.std.specs.Prelude.{IfSome, IfNone}
use Rattle.std.proofs.Common.{◌≡◌, ◌≤◌, ℕ, subst, ap, ◌∙◌}
use Rattle.kt_fifo.specs.Counts.{busy_pairs, IsPairAt}
use Rattle.kt_system.specs.Systems.{Whole}
use Rattle.kt_system.proofs.Places.{takes_alone, takes_at}
use Rattle.kt_system.proofs.system.System.take_at.Goals as goal

pub returns-clause-some : goal.returns-clause-some
returns-clause-some c =
    let w = c.args.self.now in
    let size : w.channels.processes ≡ w.size = subst (λ (v : Whole). v.channels.processes ≡ v.size) c.self.view_is c.self.invariant.channels in
    takes_at w c.args.place size c.requires c.pair_at.result
    (subst (λ (v : Whole). IfSome c.pair_at.result (λ pair. IsPairAt v.channels pair.0 pair.1 c.args.place)) c.self.view_is c.pair_at.ensures.some)

pub returns-clause-none : goal.returns-clause-none
returns-clause-none c =
    let w = c.args.self.now in
    let size : w.channels.processes ≡ w.size = subst (λ (v : Whole). v.channels.processes ≡ v.size) c.self.view_is c.self.invariant.channels in
    subst (λ (n : ℕ). IfNone c.pair_at.result (n ≤ c.args.place)) (ap (λ (v : Whole). busy_pairs v.channels) c.self.view_is ∙ takes_alone w size c.requires) c.pair_at.ensures.none
