use Rattle.kt_process.specs.Turns.{HasPartners, reply_of}
use Rattle.kt_system.proofs.Fits.{replies_fit}
use Rattle.std.proofs.Common.{[], rules}
use Rattle.kt_system.specs.Tallies.{front}
use Rattle.kt_system.proofs.Tallying.{tallies_same, tallies_turned, tallies_then, tallies_front}
use Rattle.kt_system.specs.Systems.{state_of}
use Rattle.std.proofs.Common.{◌≡◌, drop, arith, ap, subst, sym, ◌∙◌}
use Rattle.kt_process.specs.declared.actions.Action.{Action}
use Rattle.kt_machine.specs.Seen.{Seen}
use Rattle.kt_machine.specs.SeenMessages.{seen_without_front}
use Rattle.kt_process.specs.ProcessStates.{ProcessState, part_of_side}
use Rattle.kt_process.specs.Shown.{counted_as}
use Rattle.kt_system.specs.Shown.{ShowsState, turned_to, gone_on}
use Rattle.kt_system.proofs.Showing.{shows_same, shows_turned}
use Rattle.kt_system.proofs.Replying.{replies_as, settles_inside}
use Rattle.kt_system.proofs.system.System.take_reply.Goals as goal

pub returns-clause-shows : goal.returns-clause-shows
returns-clause-shows c = λ v h.
    let at = c.args.at in
    let from = c.args.from in
    let rest = drop 1 (v.channel from at) in
    let one = shows_same _ _ v c.make_room.ensures.same h in
    let two = shows_same _ _ v c.make_room_back_if_ready.ensures.same one in
    let three = c.pop.ensures.shows v two in
    let state = seen_without_front v at from rest in
    let four = shows_turned _ _ state at (counted_as c.args.willing (v.states at)) c.hear_reply-action.ensures.turned (c.hear_reply-action.ensures.shows state three) three in
    let seen = three.states at (let a = c.make_room.ensures.same.size in let b = c.make_room_back_if_ready.ensures.same.size in let d = c.pop.ensures.gives.size in let e = c.requires.can.process in omega (arith, a, b, d, e)) in
    let action : c.hear_reply-action.result ≡ reply_of (part_of_side (state_of c.pop.new.self at).side) c.args.willing = c.hear_reply-action.ensures.action in
    let five = c.go_on.ensures.shows (turned_to state at (counted_as c.args.willing (v.states at))) four
    (λ commit tell e. settles_inside (state_of c.pop.new.self at).side (state_of c.hear_reply-action.new.self at).side c.args.willing commit tell (sym action ∙ e) c.hear_reply-action.ensures.part) in
    subst (λ (z : Seen). ShowsState c.go_on.new.self z) (replies_as (state_of c.pop.new.self at) v at from c.args.inst c.args.willing rest seen)
    (subst (λ (a : Action). ShowsState c.go_on.new.self (gone_on (turned_to state at (counted_as c.args.willing (v.states at))) at c.args.inst a)) action five)

pub returns-clause-keeps : goal.returns-clause-keeps
returns-clause-keeps c =
    let one = c.make_room.ensures.same in
    let two = c.make_room_back_if_ready.ensures.same in
    record {
      size = search rules;
      err = tt;
      grows = search rules;
      tallies = tallies_then (front c.args.self.now c.args.at c.args.from) _ _ _ (tallies_front _ _ _ c.args.at c.args.from (tallies_then [] _ _ _ (tallies_same _ _ one) (tallies_same _ _ two)) (two.channels ∙ one.channels) c.pop.ensures.tallies) (tallies_then [] _ _ _ (tallies_turned _ _ c.args.at c.hear_reply-action.ensures.turned) c.go_on.ensures.keeps.tallies);
    }

pub go_on-requires-clause-room : goal.go_on-requires-clause-room
go_on-requires-clause-room c =
    replies_fit c.args.at c.partners-targets.result c.args.willing c.args.self.now c.make_room.new.self c.make_room_back_if_ready.new.self c.pop.new.self c.hear_reply-action.new.self c.hear_reply-action.result
    (subst (λ (x : ProcessState). HasPartners (part_of_side x.side) c.partners-targets.result) c.process.ensures.process c.partners-targets.ensures.partners)
    (λ q e. let l = c.partners-targets.ensures.within q e in let n = ap (λ (x : ProcessState). x.tables.processes) c.process.ensures.process in let m = c.process.ensures.tables in omega (arith, l, n, m))
    c.in_ok-make_room.ensures.parcels c.make_room.ensures.gives c.make_room_back_if_ready.ensures.keeps c.in_ok-make_room_back_if_ready.ensures.back c.pop.ensures.gives c.hear_reply-action.ensures.turned c.hear_reply-action.ensures.action c.hear_reply-action.ensures.part c.hear_reply-action.ensures.ready
