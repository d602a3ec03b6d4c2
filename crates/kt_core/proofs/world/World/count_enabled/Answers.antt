use Rattle.std.proofs.Common.{length, sym, ap, subst, ◌∙◌}
use Rattle.std.specs.Prelude.{Option}
use Rattle.std.proofs.Common.{ℕ}
use Rattle.kt_core.specs.Choices.{AreMovers}
use Rattle.kt_core.specs.Worlds.{World}
use Rattle.kt_core.proofs.Choices.{listed_in_run}
use Rattle.kt_core.proofs.Counted.{none_done, count_alone, none_made}
use Rattle.kt_system.specs.Counts.{takes_in}
use Rattle.kt_core.proofs.world.World.count_enabled.Goals as goal

pub returns-in-None : goal.returns-in-None
returns-in-None c =
    let w = c.args.self.now in
    let alone = subst (λ (o : Option ℕ). AreMovers w o) c.in-None.is c.requires in
    let are = c.takes.ensures ∙ (ap (λ (v : World). takes_in v.system) c.self.view_is ∙ count_alone w (none_done w alone.closed)) in
    record { choices = are; none = λ e. none_made w (sym are ∙ e); in_runs = λ first v r. are ∙ ap length (listed_in_run c.laws_of_runs.ensures w first v r) }

pub returns-in-Some : goal.returns-in-Some
returns-in-Some c =
    let w = c.args.self.now in
    let are = c.count_of_movers.ensures in
    record { choices = are; none = λ e. none_made w (sym are ∙ e); in_runs = λ first v r. are ∙ ap length (listed_in_run c.laws_of_runs.ensures w first v r) }
