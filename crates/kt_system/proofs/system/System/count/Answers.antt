use Rattle.kt_machine.specs.Seen.{SeenLists}
use Rattle.kt_system.proofs.Showing.{shows_channels}
use Rattle.std.proofs.Common.{refl}
use Rattle.kt_system.proofs.Frames.{keeps_parcels}
use Rattle.kt_system.proofs.system.System.count.Goals as goal

pub returns-clause-keeps : goal.returns-clause-keeps
returns-clause-keeps c = keeps_parcels _ _ _ c.self.view_is refl refl refl refl refl

pub returns-clause-shows : goal.returns-clause-shows
returns-clause-shows c = λ v h. shows_channels _ _ _ v (λ (f : SeenLists). f) c.self.view_is refl refl refl refl refl refl refl h
