use Rattle.std.proofs.Common.{◌∙◌, ap}
use Rattle.kt_fifo.specs.Channels.{channel}
use Rattle.kt_fifo.proofs.Wiring.{place_of, spare_here, lists_kept, wired_kept}
use Rattle.kt_fifo.proofs.channels.Channels.reserve_many.Goals as goal

pub invariant_of-self : goal.invariant_of-self
invariant_of-self c =
    let at = place_of _ _ _ _ _ c.self.view_is c.self.invariant.square c.requires.from c.requires.to c.place-place.ensures.place in
    wired_kept _ _ _ _ _ _ c.self.invariant (lists_kept _ _ _ _ _ _ at c.index_mut-fifo.ensures.value c.reserve.ensures.parcels)

pub returns-clause-lists : goal.returns-clause-lists
returns-clause-lists c =
    let at = place_of _ _ _ _ _ c.self.view_is c.self.invariant.square c.requires.from c.requires.to c.place-place.ensures.place in
    lists_kept _ _ _ _ _ _ at c.index_mut-fifo.ensures.value c.reserve.ensures.parcels ∙ ap channel c.self.view_is

pub returns-clause-spare : goal.returns-clause-spare
returns-clause-spare c =
    let at = place_of _ _ _ _ _ c.self.view_is c.self.invariant.square c.requires.from c.requires.to c.place-place.ensures.place in
    rw (← c.self.view_is) (spare_here _ _ _ _ c.reserve.new.self at)
