use Rattle.std.specs.Prelude.{if◌then◌else◌}
use Rattle.kt_system.specs.Tallies.{front}
use Rattle.kt_system.proofs.Tallying.{tallies_same, tallies_kept, tallies_turned, tallies_then, tallies_removed}
use Rattle.kt_fifo.specs.Channels.{channel}
use Rattle.std.proofs.Common.{true, false, [], ◌∷◌, ◌++◌, arith, refl, ap, subst, sym, ◌∙◌, ◌≡◌, rules}
use Rattle.kt_fifo.specs.declared.parcels.Parcel.{Parcel}
use Rattle.kt_fifo.specs.declared.parcels.Parcel.TheVariants as parcel
use Rattle.kt_machine.specs.Seen.{Seen, SeenLists}
use Rattle.kt_tables.specs.Calls.{received}
use Rattle.kt_machine.specs.ListChanges.{with_parcel}
use Rattle.kt_system.specs.Systems.{Whole}
use Rattle.kt_system.specs.Shown.{ShowsState, turned_to, channel_without, held_without}
use Rattle.kt_system.proofs.Showing.{shows_same, shows_parts, shows_turned, pushed_is}
use Rattle.kt_system.proofs.Messages.{arrives_up, arrives_down}
use Rattle.kt_system.proofs.system.System.accept.Goals as goal

pub returns-then-not-is_up-clause-shows : goal.returns-then-not-is_up-clause-shows
returns-then-not-is_up-clause-shows c = λ v h speaks.
    let at = c.args.at in
    let from = c.args.from in
    let one = shows_same _ _ v c.make_room_for_rows.ensures.same h in
    let seen = one.states at (let k = c.make_room_for_rows.ensures.same.size in let b = c.requires.can.process in omega arith) in
    let down : (v.states at).up ≡ false = sym seen.up ∙ (sym c.is_up.ensures ∙ c.if-not-is_up.true) in
    let two = c.remove.ensures.shows v one in
    subst (λ (z : Seen). ShowsState c.write.new.self z)
    (arrives_down v (channel_without c.args.is_held v at from) (held_without c.args.is_held v at from) at from c.args.message.label c.args.message.msg c.args.message.body down) (c.write.ensures.shows _ two)

pub returns-clause-shows : goal.returns-clause-shows
returns-clause-shows c = λ v h speaks.
    let at = c.args.at in
    let from = c.args.from in
    let message = c.args.message in
    let one = shows_same _ _ v c.make_room_for_rows.ensures.same h in
    let seen = one.states at (let k = c.make_room_for_rows.ensures.same.size in let b = c.requires.can.process in omega arith) in
    let up : (v.states at).up ≡ true = sym seen.up ∙ (sym c.is_up.ensures ∙ c.if-not-is_up.false) in
    let i = subst (λ (w : Whole). ShowsState w v) (sym c.self.view_is) one in
    let kept = shows_parts _ _ _ v v.channel v.held v.kept v.log v.begun c.self.view_is refl refl i.channels i.held (c.reserve_many.ensures.lists ∙ i.kept) i.log i.begun one in
    let without = record v { channel = channel_without c.args.is_held v at from; held = held_without c.args.is_held v at from } in
    let two = c.remove-2.ensures.shows v kept in
    let heard = c.note_received.ensures.shows without two (speaks up) in
    let y = record (v.states at) { calls = (v.states at).calls ++ received from message.label ∷ [] } in
    let state = turned_to without at y in
    let three = shows_turned _ _ without at y c.note_received.ensures.turned heard two in
    let j = subst (λ (w : Whole). ShowsState w state) (sym c.self-2.view_is) three in
    let lists = c.push_reserved.ensures.lists ∙ (pushed_is _ from at _ ∙ (ap (λ (x : Parcel). with_parcel (channel c.self-2.inside.kept) from at x) c.parcel.ensures ∙ ap (λ (f : SeenLists). with_parcel f from at (parcel.App message.label message.msg message.body)) j.kept)) in
    let four = shows_parts _ _ _ state state.channel state.held (with_parcel v.kept from at (parcel.App message.label message.msg message.body)) state.log state.begun c.self-2.view_is refl refl j.channels j.held lists j.log j.begun three in
    subst (λ (z : Seen). ShowsState c.write-2.new.self z)
    (arrives_up v (channel_without c.args.is_held v at from) (held_without c.args.is_held v at from) at from message.label message.msg message.body up) (c.write-2.ensures.shows _ four)

pub returns-then-not-is_up-clause-keeps : goal.returns-then-not-is_up-clause-keeps
returns-then-not-is_up-clause-keeps c =
    let same = c.make_room_for_rows.ensures.same in
    record {
      size = search rules;
      err = tt;
      grows = search rules;
      tallies = tallies_then (if c.args.is_held then [] else front c.args.self.now c.args.at c.args.from) _ _ _ (tallies_removed _ _ _ c.args.at c.args.from c.args.is_held (tallies_same _ _ same) same.channels c.remove.ensures.tallies) c.write.ensures.tallies;
    }

pub returns-clause-keeps : goal.returns-clause-keeps
returns-clause-keeps c =
    let same = c.make_room_for_rows.ensures.same in
    let channels = ap (λ (w : Whole). channel w.channels) c.self.view_is ∙ same.channels in
    let room = tallies_then [] _ _ _ (tallies_same _ _ same) (tallies_kept _ _ _ c.self.view_is refl refl refl) in
    record {
      size = search rules;
      err = tt;
      grows = search rules;
      tallies = tallies_then (if c.args.is_held then [] else front c.args.self.now c.args.at c.args.from) _ _ _ (tallies_removed _ _ _ c.args.at c.args.from c.args.is_held room channels c.remove-2.ensures.tallies) (tallies_then [] _ _ _ (tallies_turned _ _ c.args.at c.note_received.ensures.turned) (tallies_then [] _ _ _ (tallies_kept _ _ _ c.self-2.view_is refl refl refl) c.write-2.ensures.tallies));
    }
