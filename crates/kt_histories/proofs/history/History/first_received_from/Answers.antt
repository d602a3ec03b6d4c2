use Rattle.std.proofs.Common.{sym, ◌∙◌}
use Rattle.std.proofs.lemmas.Option.{slice_get_read}
use Rattle.kt_meaning.proofs.Items.{some_same}
use Rattle.kt_histories.proofs.history.History.first_received_from.Goals as goal

pub returns : goal.returns
returns c =
    let inv = c.self.invariant in
    let at = slice_get_read c.self.inside.received.items 64 c.get.result c.index.result.now (sym inv.senders) c.get.ensures.in_range c.index.ensures in
    let same = some_same (sym at ∙ inv.received c.get.result c.get.ensures.in_range) in
    rw (← c.self.view_is, ← c.get.ensures.value, ← same) c.first_from.ensures
