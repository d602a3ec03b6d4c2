use Rattle.std.proofs.Common.{◌≡◌, true, false, drop, refl}
use Rattle.kt_fifo.specs.declared.parcels.Parcel.{Parcel}
use Rattle.kt_fifo.specs.declared.parcels.Parcel.TheVariants as parcel
use Rattle.kt_fifo.specs.Channels.{channel, ChannelLists, spare_of}
use Rattle.kt_machine.specs.Seen.{SeenLists}
use Rattle.kt_machine.specs.ListChanges.{with_parcel, with_rest}
use Rattle.kt_machine.specs.Transition.{is_seen_ready}
use Rattle.kt_system.specs.Shown.{ShowsState}
use Rattle.kt_system.proofs.Showing.{shows_parts, pushed_is}
use Rattle.kt_system.proofs.Replying.{ready_seen}
use Rattle.std.proofs.Common.{◌≤◌, arith, sym, ap, subst, ◌∙◌}
use Rattle.kt_system.specs.Systems.{Whole}
use Rattle.kt_system.proofs.system.System.take_message.Goals as goal

pub push_reserved-requires-clause-room : goal.push_reserved-requires-clause-room
push_reserved-requires-clause-room c =
    let same = ap (λ (w : Whole). w.held) c.self-then-is_ready.view_is ∙ c.pop.ensures.held in
    let room = subst (λ (held : ChannelLists). 1 ≤ spare_of held c.args.from c.args.at) (sym same) c.in_ok-reserve_many.ensures.ok in
    omega (arith, room)

pub returns-then-is_ready-clause-shows : goal.returns-then-is_ready-clause-shows
returns-then-is_ready-clause-shows c = λ v h speaks.
    let at = c.args.at in
    let from = c.args.from in
    let message = c.args.message in
    let seen = h.states at c.requires.can.process in
    let ready : is_seen_ready v at ≡ true = sym (ready_seen _ v at seen c.is_ready.ensures.numbered) ∙ (sym c.is_ready.ensures.ready ∙ c.if-is_ready.true) in
    let i = subst (λ (w : Whole). ShowsState w v) (sym c.self.view_is) h in
    let one = shows_parts _ _ _ v v.channel v.held v.kept v.log v.begun c.self.view_is refl refl i.channels (c.reserve_many.ensures.lists ∙ i.held) i.kept i.log i.begun h in
    let rest = drop 1 (v.channel from at) in
    let state = record v { channel = with_rest v.channel from at rest } in
    let two = c.pop.ensures.shows v one in
    let j = subst (λ (w : Whole). ShowsState w state) (sym c.self-then-is_ready.view_is) two in
    let x = parcel.App message.label message.msg message.body in
    let lists = c.push_reserved.ensures.lists ∙ (pushed_is _ from at _ ∙ (ap (λ (y : Parcel). with_parcel (channel c.self-then-is_ready.inside.held) from at y) c.parcel.ensures ∙ ap (λ (f : SeenLists). with_parcel f from at x) j.held)) in
    rw ready (shows_parts _ _ _ state state.channel (with_parcel v.held from at x) state.kept state.log state.begun c.self-then-is_ready.view_is refl refl j.channels lists j.kept j.log j.begun two)

pub returns-clause-shows : goal.returns-clause-shows
returns-clause-shows c = λ v h speaks.
    let at = c.args.at in
    let ready : is_seen_ready v at ≡ false = sym (ready_seen _ v at (h.states at c.requires.can.process) c.is_ready.ensures.numbered) ∙ (sym c.is_ready.ensures.ready ∙ c.if-is_ready.false) in
    rw ready (c.accept.ensures.shows v h (speaks ready))

pub returns-clause-acts : goal.returns-clause-acts
returns-clause-acts c = λ v h.
    let at = c.args.at in
    let ready : is_seen_ready v at ≡ false = sym (ready_seen _ v at (h.states at c.requires.can.process) c.is_ready.ensures.numbered) ∙ (sym c.is_ready.ensures.ready ∙ c.if-is_ready.false) in
    rw ready (c.accept.ensures.acts v h)
