use Rattle.kt_fifo.specs.Channels.{spare_of}
use Rattle.kt_system.proofs.Ranges.{grows_all}
use Rattle.kt_system.proofs.rooms.make_room_to.Goals as goal

pub returns-clause-grows : goal.returns-clause-grows
returns-clause-grows c = grows_all (spare_of c.args.channels.now) (spare_of c.reserve_many.new.self) _ _ _ c.reserve_many.ensures.spare c.reserve_many.ensures.grows
