use Rattle.std.proofs.Common.{refl}
use Rattle.kt_system.proofs.Frames.{keeps_room}
use Rattle.kt_system.proofs.system.System.make_room_back.Goals as goal

pub returns-clause-keeps : goal.returns-clause-keeps
returns-clause-keeps c = keeps_room _ _ _ c.self.view_is refl refl refl
