use Rattle.std.proofs.Common.{[], rules}
use Rattle.kt_fifo.specs.Channels.{channel}
use Rattle.kt_system.specs.Tallies.{front}
use Rattle.kt_system.proofs.Tallying.{tallies_same, tallies_turned, tallies_then, tallies_front}
use Rattle.std.proofs.Common.{ℕ, drop, true, ap, subst, sym, ◌∙◌}
use Rattle.kt_process.specs.Shown.{asked_by, label_by, no_mark}
use Rattle.kt_machine.specs.Seen.{Seen, SeenLists}
use Rattle.kt_system.specs.Shown.{ShowsState}
use Rattle.kt_system.proofs.Showing.{shows_same}
use Rattle.kt_process.specs.ProcessStates.{ProcessState, inst_of}
use Rattle.kt_system.proofs.Commands.{heard_by, hear_shows, hear_joins, hears_inside, heard_channel, asked_by_front, hears_rollback}
use Rattle.kt_base.specs.declared.words.Kind.TheVariants as kind
use Rattle.kt_process.specs.Turns.{joins_by}
use Rattle.kt_system.proofs.Fits.{asker_room, hears_fit}
use Rattle.kt_system.proofs.system.System.take_ask_to_roll.Goals as goal

pub answer-requires-clause-reply : goal.answer-requires-clause-reply
answer-requires-clause-reply c =
    asker_room c.args.at c.args.from c.targets-targets.result c.args.self.now c.make_room.new.self c.ask_to_roll.new.self c.pop.new.self c.in_ok-make_room.ensures.parcels c.targets-targets.ensures.from c.requires.can.other
    c.make_room.ensures.gives c.ask_to_roll.ensures.turned c.pop.ensures.gives

pub answer-requires-clause-room : goal.answer-requires-clause-room
answer-requires-clause-room c =
    hears_fit kind.Rollback true c.args.from c.args.inst c.args.label c.args.at c.targets-targets.result c.args.self.now c.make_room.new.self c.ask_to_roll.new.self c.pop.new.self c.joins_rollback-joins.result c.in_ok-action.action
    c.in_ok-make_room.ensures.parcels c.targets-targets.ensures.from c.requires.can.other c.process.ensures.tables
    (c.joins_rollback-joins.ensures true ∙ ap (λ (x : ProcessState). joins_by x kind.Rollback true c.args.from c.args.label) c.process.ensures.process)
    c.targets-targets.ensures.asks c.make_room.ensures.gives c.ask_to_roll.ensures.turned c.in_ok-action.ensures.hears c.pop.ensures.gives

pub returns-clause-shows : goal.returns-clause-shows
returns-clause-shows c = λ v able h.
    let at = c.args.at in
    let from = c.args.from in
    let k = c.args.inst in
    let label = c.args.label in
    let action = c.in_ok-action.action in
    let after = c.ask_to_roll.new.self in
    let marks : ℕ → ℕ = no_mark in
    let calls = (v.states at).calls in
    let rest = drop 1 (v.channel from at) in
    let one = shows_same _ _ v c.make_room.ensures.same h in
    let s = c.in_ok-action.ensures.shows v one in
    let state = heard_by kind.Rollback from k label marks v at action in
    let two = hear_shows _ after v at from k label kind.Rollback true marks action one c.ask_to_roll.ensures.turned s in
    let three = subst (λ (f : SeenLists). ShowsState c.pop.new.self (asked_by_front state at from (drop 1 (f from at)))) (heard_channel kind.Rollback from k label marks v at action) (c.pop.ensures.shows state two) in
    let joins = hear_joins after c.pop.new.self v at from k label kind.Rollback true marks action rest s
    (λ asks goes e i. hears_inside _ after kind.Rollback true from k label at action asks goes c.in_ok-action.ensures.hears e (sym (ap (λ (x : ProcessState). inst_of x.side) (c.pop.ensures.gives.state_of at)) ∙ i)) in
    let four = c.answer.ensures.shows (asked_by_front state at from rest) (asked_by kind.Rollback calls) (label_by kind.Rollback calls) three joins in
    subst (λ (z : Seen). ShowsState c.answer.new.self z) (hears_rollback after v at from k label able no_mark action rest s) four

pub returns-clause-keeps : goal.returns-clause-keeps
returns-clause-keeps c =
    let same = c.make_room.ensures.same in
    let turned = c.ask_to_roll.ensures.turned in
    record {
      size = search rules;
      err = tt;
      grows = search rules;
      tallies = tallies_then (front c.args.self.now c.args.at c.args.from) _ _ _ (tallies_front _ _ _ c.args.at c.args.from (tallies_then [] _ _ _ (tallies_same _ _ same) (tallies_turned _ _ c.args.at turned)) (ap channel turned.channels ∙ same.channels) c.pop.ensures.tallies) c.answer.ensures.keeps.tallies;
    }
