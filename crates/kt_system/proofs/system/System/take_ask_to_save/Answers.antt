use Rattle.std.proofs.Common.{◌≡◌, ℕ, List, length, drop, refl, ap, subst, sym, ◌∙◌, [], rules}
use Rattle.kt_base.specs.declared.words.Kind.TheVariants as kind
use Rattle.kt_process.specs.Replies.{IsReplyTo}
use Rattle.kt_process.specs.declared.actions.Action.{Action}
use Rattle.kt_process.specs.ProcessStates.{ProcessState, is_ready}
use Rattle.kt_process.specs.Shown.{HearsAs, asked_by, label_by}
use Rattle.kt_machine.specs.Seen.{Seen, SeenLists}
use Rattle.kt_system.specs.Systems.{state_of}
use Rattle.kt_system.specs.Shown.{ShowsState}
use Rattle.kt_manager.specs.ShownActs.{acts_carried_out}
use Rattle.kt_system.specs.Tallies.{front}
use Rattle.kt_system.proofs.Acting.{hear_acts_save}
use Rattle.kt_system.proofs.Commands.{heard_by, hear_shows, hear_joins, heard_channel, asked_by_front, hears_checkpoint}
use Rattle.kt_system.proofs.Fits.{asker_room, reply_fits}
use Rattle.kt_system.proofs.Showing.{shows_same, turned_none}
use Rattle.kt_system.proofs.Tallying.{tallies_same, tallies_then, tallies_front}
use Rattle.kt_system.proofs.system.System.take_ask_to_save.Goals as goal

pub answer-requires-clause-reply : goal.answer-requires-clause-reply
answer-requires-clause-reply c =
    let m = c.make_room.new.self in
    asker_room c.args.at c.args.from c.with.result c.args.self.now m m c.pop.new.self c.in_ok-make_room.ensures.parcels (search rules) c.requires.can.other
    c.make_room.ensures.gives (turned_none m c.args.at) c.pop.ensures.gives

pub answer-requires-clause-room : goal.answer-requires-clause-room
answer-requires-clause-room c = reply_fits c.pop.new.self c.args.at c.args.from c.in-Some.action c.in-Some.ensures.replies

pub returns-clause-shows : goal.returns-clause-shows
returns-clause-shows c = λ v h.
    let at = c.args.at in
    let from = c.args.from in
    let k = c.args.inst in
    let label = c.args.label in
    let action = c.in-Some.action in
    let m = c.make_room.new.self in
    let marks : ℕ → ℕ = λ q. length (v.kept q at) in
    let calls = (v.states at).calls in
    let rest = drop 1 (v.channel from at) in
    let one = shows_same _ _ v c.make_room.ensures.same h in
    let s = subst (λ (x : ProcessState). HearsAs kind.Checkpoint c.args.able v.processes from k label marks (v.states at) x action) (sym (c.make_room.ensures.gives.state_of at)) (c.in-Some.ensures.shows v marks h) in
    let state = heard_by kind.Checkpoint from k label marks v at action in
    let two = hear_shows m m v at from k label kind.Checkpoint c.args.able marks action one (turned_none m at) s in
    let three = subst (λ (f : SeenLists). ShowsState c.pop.new.self (asked_by_front state at from (drop 1 (f from at)))) (heard_channel kind.Checkpoint from k label marks v at action) (c.pop.ensures.shows state two) in
    let joins = hear_joins m c.pop.new.self v at from k label kind.Checkpoint c.args.able marks action rest s
    (λ asks goes e. absurd (subst (λ (a : Action). IsReplyTo from a) e c.in-Some.ensures.replies)) in
    let four = c.answer.ensures.shows (asked_by_front state at from rest) (asked_by kind.Checkpoint calls) (label_by kind.Checkpoint calls) three joins in
    subst (λ (z : Seen). ShowsState c.answer.new.self z) (hears_checkpoint m v at from k label c.args.able action rest s) four

pub returns-clause-acts : goal.returns-clause-acts
returns-clause-acts c = λ v h.
    let at = c.args.at in
    let m = c.make_room.new.self in
    let action = c.in-Some.action in
    let marks : ℕ → ℕ = λ q. length (v.kept q at) in
    let s = subst (λ (x : ProcessState). HearsAs kind.Checkpoint c.args.able v.processes c.args.from c.args.inst c.args.label marks (v.states at) x action) (sym (c.make_room.ensures.gives.state_of at)) (c.in-Some.ensures.shows v marks h) in
    c.answer.ensures.acts ∙ (ap (λ (x : ProcessState). acts_carried_out kind.Checkpoint (is_ready x.side) action) (c.pop.ensures.gives.state_of at)
    ∙ hear_acts_save (state_of m at) v at c.args.inst marks c.args.from c.args.label c.args.able action s)

pub returns-clause-keeps : goal.returns-clause-keeps
returns-clause-keeps c =
    let same = c.make_room.ensures.same in
    record {
      size = search rules;
      err = tt;
      grows = search rules;
      tallies = tallies_then (front c.args.self.now c.args.at c.args.from) _ _ _ (tallies_front _ _ _ c.args.at c.args.from (tallies_same _ _ same) same.channels c.pop.ensures.tallies) c.answer.ensures.keeps.tallies;
    }
