use Rattle.std.specs.VecDeque.{deque_capacity}
use Rattle.kt_manager.proofs.Borders.{border_down}
use Rattle.kt_manager.proofs.received.Received.put_back.Goals as goal

pub returns : goal.returns
returns c =
    rw (← c.self.view_is, c.drop_above.ensures.items, c.drop_above.ensures.space)
    (border_down c.self.inside.kept c.self.inside.items.items c.args.most (deque_capacity c.self.inside.items))
