use Rattle.kt_system.proofs.Tallying.{tallies_popped}
use Rattle.std.proofs.Common.{drop, ◌∙◌}
use Rattle.kt_machine.specs.Seen.{SeenLists}
use Rattle.kt_machine.specs.ListChanges.{with_rest}
use Rattle.kt_system.proofs.Showing.{shows_channels, popped_is}
use Rattle.std.proofs.Common.{refl}
use Rattle.kt_system.proofs.Frames.{gives_room}
use Rattle.kt_system.proofs.system.System.pop.Goals as goal

pub returns-clause-gives : goal.returns-clause-gives
returns-clause-gives c = gives_room _ _ _ c.self.view_is refl refl c.pop.ensures.grows refl refl

pub returns-clause-shows : goal.returns-clause-shows
returns-clause-shows c = λ v h. shows_channels _ _ _ v (λ (f : SeenLists). with_rest f c.args.from c.args.at (drop 1 (f c.args.from c.args.at))) c.self.view_is refl refl refl refl refl refl
    (c.pop.ensures.lists ∙ popped_is _ c.args.from c.args.at _) h

pub returns-clause-tallies : goal.returns-clause-tallies
returns-clause-tallies c = tallies_popped _ _ _ c.args.at c.args.from c.self.view_is c.requires.from c.requires.at refl c.pop.ensures.lists refl
