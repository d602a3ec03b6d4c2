use Rattle.std.proofs.Common.{◌∙◌, ap}
use Rattle.kt_fifo.specs.Counts.{busy_pairs}
use Rattle.kt_fifo.proofs.Places.{busy_kept}
use Rattle.kt_fifo.proofs.channels.Channels.busy_pairs.Goals as goal

pub returns : goal.returns
returns c = c.total.ensures ∙ (busy_kept _ _ _ _ c.self.invariant ∙ ap busy_pairs c.self.view_is)
