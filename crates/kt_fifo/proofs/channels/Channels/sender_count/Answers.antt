use Rattle.std.proofs.Common.{◌∙◌, ◌<◌, ap, sym, subst}
use Rattle.kt_fifo.specs.Channels.{ChannelLists}
use Rattle.kt_fifo.specs.Counts.{count_first, waits}
use Rattle.kt_fifo.proofs.Places.{count_kept}
use Rattle.kt_fifo.proofs.channels.Channels.sender_count.Goals as goal

pub returns : goal.returns
returns c =
    let low = subst (λ (w : ChannelLists). c.args.to < w.processes) (sym c.self.view_is) c.requires in
    c.get.ensures.value ∙ (count_kept _ _ _ _ c.self.invariant c.args.to low ∙ ap (λ (w : ChannelLists). count_first (waits w c.args.to) w.processes) c.self.view_is)
