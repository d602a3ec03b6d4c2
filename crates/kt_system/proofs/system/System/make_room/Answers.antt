use Rattle.std.proofs.Common.{refl}
use Rattle.kt_system.specs.Systems.{room_to}
use Rattle.kt_system.proofs.Frames.{gives_room}
use Rattle.std.proofs.lemmas.Result.{on_ok_weaker}
use Rattle.kt_system.proofs.system.System.make_room.Goals as goal

pub returns-clause-gives : goal.returns-clause-gives
returns-clause-gives c = gives_room _ _ _ c.self.view_is refl refl c.make_room.ensures.grows refl refl

pub returns-clause-parcels : goal.returns-clause-parcels
unfolding room_to
returns-clause-parcels c = on_ok_weaker c.make_room.result (λ r. record { room = λ q b h. r q h }) c.make_room.ensures.ok
