use Rattle.kt_manager.proofs.Borders.{held_past}
use Rattle.kt_manager.proofs.received.Received.has_held.Goals as goal

pub returns : goal.returns
returns c = rw (← c.self.view_is, c.len.ensures, c.self.inside.items.ok.0) (held_past c.self.inside.kept c.self.inside.items.items)
