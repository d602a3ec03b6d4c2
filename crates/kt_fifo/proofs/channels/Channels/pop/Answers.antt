use Rattle.std.proofs.Common.{drop, sym, ◌∙◌}
use Rattle.kt_fifo.proofs.Wiring.{place_of, lists_changed, spare_freed, wired_written, wired_left, count_before}
use Rattle.kt_fifo.proofs.channels.Channels.pop.Goals as goal

pub note_count-requires-clause-counted : goal.note_count-requires-clause-counted
note_count-requires-clause-counted c =
    let at = place_of _ _ _ _ _ c.self.view_is c.self.invariant.square c.requires.from c.requires.to c.place-place.ensures.place in
    count_before _ _ _ _ _ _ _ _ _ c.self.invariant at c.get-receiver.ensures.value c.index-before.ensures

pub invariant_of-self : goal.invariant_of-self
invariant_of-self c =
    let at = place_of _ _ _ _ _ c.self.view_is c.self.invariant.square c.requires.from c.requires.to c.place-place.ensures.place in
    wired_left _ _ _ _ _ _ _ _ _ c.self.invariant at c.index_mut-fifo.ensures.value c.pop-parcel.ensures.parcels (sym c.has_parcel.ensures ∙ c.if-has_parcel.true)

pub invariant_of-self-2 : goal.invariant_of-self-2
invariant_of-self-2 c =
    let at = place_of _ _ _ _ _ c.self.view_is c.self.invariant.square c.requires.from c.requires.to c.place-place.ensures.place in
    wired_written _ _ _ _ _ _ _ _ _ _ _ _ _ c.self.invariant at c.get-receiver.ensures.value c.index-before.ensures (c.without-senders.ensures.removed ∙ (sym c.if-has_parcel.false ∙ c.has_parcel.ensures)) c.without-senders.ensures.others c.note_receiver.ensures.some c.note_receiver.ensures.none c.note_receiver.ensures.others c.note_count.ensures.counted c.note_count.ensures.others

pub returns-then-has_parcel-clause-lists : goal.returns-then-has_parcel-clause-lists
returns-then-has_parcel-clause-lists c =
    let at = place_of _ _ _ _ _ c.self.view_is c.self.invariant.square c.requires.from c.requires.to c.place-place.ensures.place in
    rw (← c.self.view_is) (lists_changed _ _ _ _ _ _ (λ l. drop 1 l) at c.index_mut-fifo.ensures.value c.pop-parcel.ensures.parcels)

pub returns-then-has_parcel-clause-spare : goal.returns-then-has_parcel-clause-spare
returns-then-has_parcel-clause-spare c =
    let at = place_of _ _ _ _ _ c.self.view_is c.self.invariant.square c.requires.from c.requires.to c.place-place.ensures.place in
    rw (← c.self.view_is) (spare_freed _ _ _ _ _ _ at c.index_mut-fifo.ensures.value c.pop-parcel.ensures.spare)

pub returns-clause-lists : goal.returns-clause-lists
returns-clause-lists c =
    let at = place_of _ _ _ _ _ c.self.view_is c.self.invariant.square c.requires.from c.requires.to c.place-place.ensures.place in
    rw (← c.self.view_is) (lists_changed _ _ _ _ _ _ (λ l. drop 1 l) at c.index_mut-fifo.ensures.value c.pop-parcel.ensures.parcels)

pub returns-clause-spare : goal.returns-clause-spare
returns-clause-spare c =
    let at = place_of _ _ _ _ _ c.self.view_is c.self.invariant.square c.requires.from c.requires.to c.place-place.ensures.place in
    rw (← c.self.view_is) (spare_freed _ _ _ _ _ _ at c.index_mut-fifo.ensures.value c.pop-parcel.ensures.spare)
