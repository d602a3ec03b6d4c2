use Rattle.kt_system.proofs.Tallying.{tallies_then, tallies_same, tallies_turned, tallies_sent}
use Rattle.std.specs.Prelude.{ℤ}
use Rattle.std.specs.Int.{w64}
use Rattle.std.proofs.lemmas.Int.{to_z-of_z}
use Rattle.kt_spacetime.specs.declared.event.Event.TheVariants.{Sent}
use Rattle.std.proofs.Common.{true, false, ℕ, arith, ap, subst, sym, ◌∙◌, ◌≡◌, ◌<◌, ◌+◌, length, List, [], ◌∷◌, ◌++◌}
use Rattle.kt_fifo.specs.declared.parcels.Parcel.TheVariants as parcel
use Rattle.kt_spacetime.specs.declared.event.Event.{Event}
use Rattle.kt_machine.specs.Seen.{Seen}
use Rattle.kt_machine.specs.ListChanges.{with_parcel}
use Rattle.kt_system.specs.Shown.{ShowsState, turned_to, with_row}
use Rattle.kt_system.proofs.Showing.{shows_same, shows_turned}
use Rattle.kt_system.proofs.Messages.{sends_up, sends_down, speaks_sent}
use Rattle.std.proofs.Common.{◌≡◌, ◌<◌, true, arith, rules, sym, subst, ◌∙◌}
use Rattle.kt_process.specs.ProcessStates.{ProcessState}
use Rattle.kt_system.proofs.Frames.{room_same}
use Rattle.kt_system.proofs.system.System.send.Goals as goal

pub note_sent-label-requires-clause-left : goal.note_sent-label-requires-clause-left
note_sent-label-requires-clause-left c =
    let same = c.make_room_to.ensures.gives.state_of c.args.p in
    let up : c.is_up.result ≡ true = search rules in
    subst (λ (x : ProcessState). x.up ≡ true → x.used < 281474976710655) (sym same) c.requires.left (sym c.is_up.ensures ∙ up)

pub put-requires-clause-room : goal.put-requires-clause-room
put-requires-clause-room c =
    let same = room_same c.make_room_to.new.self c.note_sent-label.new.self c.note_sent-label.ensures.turned.channels c.args.p c.args.to in
    let room = c.in_ok-make_room_to.ensures.parcel in
    omega (arith, same, room)

pub returns-then-not-is_up-clause-shows : goal.returns-then-not-is_up-clause-shows
returns-then-not-is_up-clause-shows c = λ v h free other speaks.
    let p = c.args.p in
    let one = shows_same _ _ v c.make_room_to.ensures.same h in
    let size = c.make_room_to.ensures.same.size in
    let seen = one.states p (let b = c.requires.can.process in omega (arith, b, size)) in
    let down : (v.states p).up ≡ false = sym seen.up ∙ (sym c.is_up.ensures ∙ c.if-not-is_up.true) in
    let n = h.processes in
    let a : p < v.processes = (let b = c.requires.can.process in omega (arith, b, n)) in
    let b : c.args.to < v.processes = (let k = c.requires.can.other in omega (arith, k, n)) in
    subst (λ (z : Seen). ShowsState c.refuse.new.self z) (sends_down v p c.args.to c.args.body a b free other down) (c.refuse.ensures.shows v one)

pub returns-clause-shows : goal.returns-clause-shows
returns-clause-shows c = λ v h free other speaks.
    let p = c.args.p in
    let to = c.args.to in
    let one = shows_same _ _ v c.make_room_to.ensures.same h in
    let size = c.make_room_to.ensures.same.size in
    let seen = one.states p (let b = c.requires.can.process in omega (arith, b, size)) in
    let up : (v.states p).up ≡ true = sym seen.up ∙ (sym c.is_up.ensures ∙ c.if-not-is_up.false) in
    let n = h.processes in
    let a : p < v.processes = (let b = c.requires.can.process in omega (arith, b, n)) in
    let b : to < v.processes = (let k = c.requires.can.other in omega (arith, k, n)) in
    let sent = c.note_sent-label.ensures.shows v one (speaks_sent v p to c.args.body a b free other up speaks) in
    let y = record (v.states p) { calls = (v.states p).calls ++ Rattle.kt_tables.specs.Calls.sent to ((v.states p).used + 1) ∷ []; used = (v.states p).used + 1 } in
    let state = turned_to v p y in
    let two = shows_turned _ _ v p y c.note_sent-label.ensures.turned sent one in
    let three = c.put.ensures.shows _ two in
    let label : c.note_sent-label.result ≡ (v.states p).used + 1 = c.note_sent-label.ensures.label ∙ ap (λ (n : ℕ). n + 1) seen.used in
    let i = subst (λ (w : _). ShowsState w v) (sym c.self.view_is) one in
    let msg : c.after-msg.result ≡ length v.log + 1 = c.after-msg.ensures ∙ ap (λ (l : List Event). length l + 1) (c.rows.ensures.rows ∙ i.log) in
    let fits = to_z-of_z w64 c.args.body c.ranges.body in
    let four = subst (λ (l : ℕ). ShowsState c.put.new.self (record state { channel = with_parcel v.channel p to (parcel.App l (length v.log + 1) c.args.body) })) label
    (subst (λ (m : ℕ). ShowsState c.put.new.self (record state { channel = with_parcel v.channel p to (parcel.App c.note_sent-label.result m c.args.body) })) msg
    (subst (λ (z : ℤ). ShowsState c.put.new.self (record state { channel = with_parcel v.channel p to (parcel.App c.note_sent-label.result c.after-msg.result z) })) fits three)) in
    let five = subst (λ (z : ℤ). ShowsState c.write.new.self (with_row (record state { channel = with_parcel v.channel p to (parcel.App ((v.states p).used + 1) (length v.log + 1) c.args.body) }) (Sent p to z))) fits (c.write.ensures.shows _ four) in
    subst (λ (z : Seen). ShowsState c.write.new.self z) (sends_up v p to c.args.body a b free other up) five

pub returns-then-not-is_up-clause-keeps : goal.returns-then-not-is_up-clause-keeps
returns-then-not-is_up-clause-keeps c = record {
  size = search rules;
  err = tt;
  grows = search rules;
  tallies = tallies_then [] _ _ _ (tallies_same _ _ c.make_room_to.ensures.same) c.refuse.ensures.keeps.tallies;
}

pub returns-clause-keeps : goal.returns-clause-keeps
returns-clause-keeps c =
    let turned = c.note_sent-label.ensures.turned in
    let room = c.make_room_to.ensures.same.size in
    let size = turned.size in
    let low : c.args.p < c.note_sent-label.new.self.size = (let b = c.requires.can.process in omega (arith, b, room, size)) in
    let high : c.args.to < c.note_sent-label.new.self.size = (let b = c.requires.can.other in omega (arith, b, room, size)) in
    record {
      size = search rules;
      err = tt;
      grows = search rules;
      tallies = tallies_then [] _ _ _ (tallies_same _ _ c.make_room_to.ensures.same) (tallies_then [] _ _ _ (tallies_turned _ _ c.args.p turned) (tallies_then [] _ _ _ (tallies_sent _ _ c.args.p c.args.to _ _ _ low high c.put.ensures.keeps.size c.put.ensures.channels c.put.ensures.tallies) c.write.ensures.tallies));
    }
