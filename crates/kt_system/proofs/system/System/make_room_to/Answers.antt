use Rattle.std.proofs.Common.{refl}
use Rattle.kt_system.specs.Systems.{room_to}
use Rattle.kt_system.proofs.Frames.{gives_room}
use Rattle.kt_system.proofs.system.System.make_room_to.Goals as goal

pub returns-clause-gives : goal.returns-clause-gives
returns-clause-gives c = gives_room _ _ _ c.self.view_is refl refl c.make_room_to.ensures.grows refl refl

pub returns-clause-parcel : goal.returns-clause-parcel
unfolding room_to
returns-clause-parcel c = c.make_room_to.ensures.ok
