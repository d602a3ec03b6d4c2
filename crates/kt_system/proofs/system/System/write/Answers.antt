use Rattle.kt_system.proofs.Tallying.{tallies_kept}
use Rattle.kt_system.proofs.Showing.{shows_log}
use Rattle.std.proofs.Common.{refl}
use Rattle.kt_system.proofs.Frames.{keeps_parcels}
use Rattle.kt_system.proofs.system.System.write.Goals as goal

pub returns-clause-keeps : goal.returns-clause-keeps
returns-clause-keeps c = keeps_parcels _ _ _ c.self.view_is refl refl refl refl refl

pub returns-clause-shows : goal.returns-clause-shows
returns-clause-shows c = λ v h. shows_log _ _ _ v c.args.event c.self.view_is refl refl refl refl refl refl c.push_reserved.ensures.rows h

pub returns-clause-tallies : goal.returns-clause-tallies
returns-clause-tallies c = tallies_kept _ _ _ c.self.view_is refl refl refl
