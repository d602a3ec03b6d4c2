use Rattle.std.proofs.Common.{◌∙◌, sym, ap, List, [], ◌++◌, length, ◌-◌, ◌+◌, ◌≡◌}
use Rattle.kt_fifo.specs.declared.parcels.Parcel.{Parcel}
use Rattle.kt_fifo.specs.Queues.{Queue, has_parcel}
use Rattle.kt_fifo.specs.Channels.{channel}
use Rattle.kt_fifo.proofs.Wiring.{place_of, queue_read, lists_changed, spare_changed, wired_written, count_before}
use Rattle.kt_fifo.proofs.channels.Channels.put_before.Goals as goal

pub note_count-requires-clause-counted : goal.note_count-requires-clause-counted
note_count-requires-clause-counted c =
    let at = place_of _ _ _ _ _ c.self.view_is c.self.invariant.square c.requires.from c.requires.to c.place-place.ensures.place in
    count_before _ _ _ _ _ _ _ _ _ c.self.invariant at c.get-receiver.ensures.value c.index-before.ensures

pub invariant_of-self : goal.invariant_of-self
invariant_of-self c =
    let at = place_of _ _ _ _ _ c.self.view_is c.self.invariant.square c.requires.from c.requires.to c.place-place.ensures.place in
    wired_written _ _ _ _ _ _ _ _ _ _ _ _ _ c.self.invariant at c.get-receiver.ensures.value c.index-before.ensures (c.noted-senders.ensures.here ∙ c.has_parcel-waits.ensures) c.noted-senders.ensures.others c.note_receiver.ensures.some c.note_receiver.ensures.none c.note_receiver.ensures.others c.note_count.ensures.counted c.note_count.ensures.others

pub invariant_of-other : goal.invariant_of-other
invariant_of-other c =
    let there = place_of _ _ _ _ _ c.other.view_is c.other.invariant.square c.requires.from_there c.requires.to_there c.place-other_place.ensures.place in
    wired_written _ _ _ _ _ _ _ _ _ _ _ _ _ c.other.invariant there c.get-receiver.ensures.value c.index-other_before.ensures
    (c.noted-other_senders.ensures.here ∙ ap has_parcel (sym c.put_before.ensures.emptied)) c.noted-other_senders.ensures.others c.note_receiver-2.ensures.some c.note_receiver-2.ensures.none c.note_receiver-2.ensures.others c.note_count-2.ensures.counted c.note_count-2.ensures.others

pub returns-clause-lists : goal.returns-clause-lists
returns-clause-lists c =
    let at = place_of _ _ _ _ _ c.self.view_is c.self.invariant.square c.requires.from c.requires.to c.place-place.ensures.place in
    let there = place_of _ _ _ _ _ c.other.view_is c.other.invariant.square c.requires.from_there c.requires.to_there c.place-other_place.ensures.place in
    let read : channel c.args.other.now c.args.from c.args.to ≡ c.index_mut.result.now.parcels =
    rw (← c.other.view_is) (ap (λ (q : Queue). q.parcels) (queue_read _ _ _ _ _ there c.index_mut.ensures.value)) in
    rw (← c.self.view_is)
    (lists_changed _ _ _ _ _ _ (λ l. channel c.args.other.now c.args.from c.args.to ++ l) at c.index_mut-fifo.ensures.value
    (c.put_before.ensures.parcels ∙ ap (λ (l : List Parcel). l ++ c.index_mut-fifo.result.now.parcels) (sym read)))

pub returns-clause-spare : goal.returns-clause-spare
returns-clause-spare c =
    let at = place_of _ _ _ _ _ c.self.view_is c.self.invariant.square c.requires.from c.requires.to c.place-place.ensures.place in
    let there = place_of _ _ _ _ _ c.other.view_is c.other.invariant.square c.requires.from_there c.requires.to_there c.place-other_place.ensures.place in
    let read : channel c.args.other.now c.args.from c.args.to ≡ c.index_mut.result.now.parcels =
    rw (← c.other.view_is) (ap (λ (q : Queue). q.parcels) (queue_read _ _ _ _ _ there c.index_mut.ensures.value)) in
    rw (← c.self.view_is)
    (spare_changed _ _ _ _ _ _ (λ q. q.spare - length (channel c.args.other.now c.args.from c.args.to)) at c.index_mut-fifo.ensures.value
    (c.put_before.ensures.spare ∙ ap (λ (l : List Parcel). c.index_mut-fifo.result.now.spare - length l) (sym read)))

pub returns-clause-other_lists : goal.returns-clause-other_lists
returns-clause-other_lists c =
    let there = place_of _ _ _ _ _ c.other.view_is c.other.invariant.square c.requires.from_there c.requires.to_there c.place-other_place.ensures.place in
    rw (← c.other.view_is) (lists_changed _ _ _ _ _ _ (λ _. []) there c.index_mut.ensures.value c.put_before.ensures.emptied)

pub returns-clause-other_spare : goal.returns-clause-other_spare
returns-clause-other_spare c =
    let there = place_of _ _ _ _ _ c.other.view_is c.other.invariant.square c.requires.from_there c.requires.to_there c.place-other_place.ensures.place in
    rw (← c.other.view_is) (spare_changed _ _ _ _ _ _ (λ q. q.spare + length q.parcels) there c.index_mut.ensures.value c.put_before.ensures.freed)
