use Rattle.std.specs.VecDeque.{deque_capacity}
use Rattle.kt_manager.proofs.Borders.{forgotten}
use Rattle.kt_manager.proofs.received.Received.forget.Goals as goal

pub returns : goal.returns
returns c =
    rw (← c.self.view_is, c.drop_first.ensures.items, c.drop_first.ensures.space)
    (forgotten c.args.count c.min-gone.result c.self.inside.kept c.self.inside.items.items (deque_capacity c.self.inside.items) c.min-gone.ensures)
