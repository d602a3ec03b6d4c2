use Rattle.std.proofs.Common.{[], rules}
use Rattle.kt_system.specs.Tallies.{front}
use Rattle.kt_system.proofs.Tallying.{tallies_same, tallies_then, tallies_front}
use Rattle.std.proofs.Common.{◌≡◌, true, drop, ap, subst, sym, ◌∙◌}
use Rattle.std.specs.Prelude.{◌==◌}
use Rattle.kt_machine.specs.Seen.{Seen}
use Rattle.kt_process.specs.ProcessStates.{ProcessState, inst_of}
use Rattle.kt_system.specs.Shown.{ShowsState}
use Rattle.kt_system.proofs.Showing.{shows_same}
use Rattle.kt_system.proofs.Replying.{decides}
use Rattle.kt_system.proofs.system.System.take_decision.Goals as goal

pub returns-clause-shows : goal.returns-clause-shows
returns-clause-shows c = λ v h.
    let at = c.args.at in
    let from = c.args.from in
    let rest = drop 1 (v.channel from at) in
    let here : ((v.states at).inst == c.args.inst) ≡ true = sym (c.is_in.ensures.shows v h) ∙ c.if-not-is_in.false in
    let one = shows_same _ _ v c.make_room.ensures.same h in
    let two = shows_same _ _ v c.make_room_back_if_ready.ensures.same one in
    let three = c.pop-2.ensures.shows v two in
    let same = c.pop-2.ensures.gives.state_of at ∙ (c.make_room_back_if_ready.ensures.keeps.state_of at ∙ c.make_room.ensures.gives.state_of at) in
    let inside = c.is_in.ensures.inside c.if-not-is_in.false in
    subst (λ (z : Seen). ShowsState c.close.new.self z) (decides v at from c.args.inst c.args.commit rest here)
    (c.close.ensures.shows _ three (λ e. inside (sym (ap (λ (x : ProcessState). inst_of x.side) same) ∙ e)))

pub returns-clause-keeps : goal.returns-clause-keeps
returns-clause-keeps c =
    let one = c.make_room.ensures.same in
    let two = c.make_room_back_if_ready.ensures.same in
    record {
      size = search rules;
      err = tt;
      grows = search rules;
      tallies = tallies_then (front c.args.self.now c.args.at c.args.from) _ _ _ (tallies_front _ _ _ c.args.at c.args.from (tallies_then [] _ _ _ (tallies_same _ _ one) (tallies_same _ _ two)) (two.channels ∙ one.channels) c.pop-2.ensures.tallies) c.close.ensures.keeps.tallies;
    }
