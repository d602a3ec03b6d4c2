use Rattle.std.proofs.Common.{[], rules}
use Rattle.kt_fifo.specs.Channels.{channel}
use Rattle.kt_system.specs.Tallies.{front}
use Rattle.kt_system.proofs.Tallying.{tallies_same, tallies_turned, tallies_then, tallies_front}
use Rattle.kt_process.specs.declared.actions.Action.TheVariants.{Join}
use Rattle.std.proofs.Common.{◌≡◌, ℕ, List, length, drop, true, ap, subst, sym, ◌∙◌}
use Rattle.kt_process.specs.declared.actions.Then.{Then}
use Rattle.kt_system.specs.Kept.{kept_of}
use Rattle.kt_process.specs.Shown.{asked_by, label_by, mark_of}
use Rattle.kt_machine.specs.Seen.{Seen, SeenLists}
use Rattle.kt_system.specs.Systems.{state_of}
use Rattle.kt_system.specs.Shown.{ShowsState}
use Rattle.kt_system.proofs.Showing.{shows_same}
use Rattle.kt_process.specs.ProcessStates.{ProcessState, inst_of, is_ready}
use Rattle.kt_system.proofs.Commands.{heard_by, hear_shows, hear_joins, hears_inside, hears_joins, hears_marked, heard_channel, asked_by_front, hears_checkpoint}
use Rattle.kt_base.specs.declared.words.Kind.TheVariants as kind
use Rattle.kt_process.specs.Turns.{joins_by}
use Rattle.kt_system.proofs.Fits.{asker_room, hears_fit}
use Rattle.kt_manager.specs.ShownActs.{acts_carried_out}
use Rattle.kt_system.proofs.Acting.{hear_acts_save}
use Rattle.kt_system.proofs.system.System.join_to_save.Goals as goal

pub answer-requires-clause-reply : goal.answer-requires-clause-reply
answer-requires-clause-reply c =
    asker_room c.args.at c.args.from c.targets-targets.result c.args.self.now c.make_room.new.self c.ask_to_save.new.self c.pop.new.self c.in_ok-make_room.ensures.parcels c.targets-targets.ensures.from c.requires.can.other
    c.make_room.ensures.gives c.ask_to_save.ensures.turned c.pop.ensures.gives

pub answer-requires-clause-room : goal.answer-requires-clause-room
answer-requires-clause-room c =
    hears_fit kind.Checkpoint c.args.able c.args.from c.args.inst c.args.label c.args.at c.targets-targets.result c.args.self.now c.make_room.new.self c.ask_to_save.new.self c.pop.new.self true c.in_ok-action.action
    c.in_ok-make_room.ensures.parcels c.targets-targets.ensures.from c.requires.can.other c.requires.tables
    (sym c.requires.joins)
    c.targets-targets.ensures.asks c.make_room.ensures.gives c.ask_to_save.ensures.turned c.in_ok-action.ensures.hears c.pop.ensures.gives

pub returns-clause-shows : goal.returns-clause-shows
returns-clause-shows c = λ v h.
    let at = c.args.at in
    let from = c.args.from in
    let k = c.args.inst in
    let label = c.args.label in
    let action = c.in_ok-action.action in
    let after = c.ask_to_save.new.self in
    let marks : ℕ → ℕ = λ q. length (v.kept q at) in
    let calls = (v.states at).calls in
    let rest = drop 1 (v.channel from at) in
    let one = shows_same _ _ v c.make_room.ensures.same h in
    let marked : (asks : List (ℕ × ℕ)) (goes : Then) → action ≡ Join asks goes → mark_of c.in_ok-marks.marks.items ≡ marks = λ asks goes e.
    c.in_ok-marks.ensures.marks ∙ ap (λ (f : SeenLists). kept_of f at) one.kept in
    let s = hears_marked kind.Checkpoint c.args.able v.processes from k label (mark_of c.in_ok-marks.marks.items) marks (v.states at) (state_of after at) action marked (c.in_ok-action.ensures.shows v one) in
    let state = heard_by kind.Checkpoint from k label marks v at action in
    let two = hear_shows _ after v at from k label kind.Checkpoint c.args.able marks action one c.ask_to_save.ensures.turned s in
    let three = subst (λ (f : SeenLists). ShowsState c.pop.new.self (asked_by_front state at from (drop 1 (f from at)))) (heard_channel kind.Checkpoint from k label marks v at action) (c.pop.ensures.shows state two) in
    let joins = hear_joins after c.pop.new.self v at from k label kind.Checkpoint c.args.able marks action rest s
    (λ asks goes e i. hears_inside _ after kind.Checkpoint c.args.able from k label at action asks goes c.in_ok-action.ensures.hears e (sym (ap (λ (x : ProcessState). inst_of x.side) (c.pop.ensures.gives.state_of at)) ∙ i)) in
    let four = c.answer.ensures.shows (asked_by_front state at from rest) (asked_by kind.Checkpoint calls) (label_by kind.Checkpoint calls) three joins in
    subst (λ (z : Seen). ShowsState c.answer.new.self z) (hears_checkpoint after v at from k label c.args.able action rest s) four

pub returns-clause-acts : goal.returns-clause-acts
returns-clause-acts c = λ v h.
    let at = c.args.at in
    let from = c.args.from in
    let one = shows_same _ _ v c.make_room.ensures.same h in
    c.answer.ensures.acts ∙ (ap (λ (x : ProcessState). acts_carried_out kind.Checkpoint (is_ready x.side) c.in_ok-action.action) (c.pop.ensures.gives.state_of at)
    ∙ hear_acts_save (state_of c.ask_to_save.new.self at) v at c.args.inst (mark_of c.in_ok-marks.marks.items) from c.args.label c.args.able c.in_ok-action.action (c.in_ok-action.ensures.shows v one))

pub returns-clause-keeps : goal.returns-clause-keeps
returns-clause-keeps c =
    let same = c.make_room.ensures.same in
    let turned = c.ask_to_save.ensures.turned in
    record {
      size = search rules;
      err = tt;
      grows = search rules;
      tallies = tallies_then (front c.args.self.now c.args.at c.args.from) _ _ _ (tallies_front _ _ _ c.args.at c.args.from (tallies_then [] _ _ _ (tallies_same _ _ same) (tallies_turned _ _ c.args.at turned)) (ap channel turned.channels ∙ same.channels) c.pop.ensures.tallies) c.answer.ensures.keeps.tallies;
    }
