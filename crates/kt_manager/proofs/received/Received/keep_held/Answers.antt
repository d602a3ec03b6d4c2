use Rattle.std.specs.VecDeque.{deque_capacity}
use Rattle.kt_manager.proofs.Borders.{border_up}
use Rattle.kt_manager.proofs.received.Received.keep_held.Goals as goal

pub returns : goal.returns
returns c = rw (← c.self.view_is) (border_up c.self.inside.kept c.self.inside.items.items (deque_capacity c.self.inside.items))
