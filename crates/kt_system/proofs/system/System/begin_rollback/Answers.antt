use Rattle.std.proofs.Common.{◌≡◌, ℕ, ◌+◌, arith, ap, subst, ◌∙◌}
use Rattle.std.specs.Prelude.{true}
use Rattle.kt_base.specs.declared.words.Kind.TheVariants as which
use Rattle.kt_process.specs.ProcessStates.{ProcessState}
use Rattle.kt_process.specs.Turns.{peers_of}
use Rattle.kt_process.specs.Shown.{BeginsAs, asked_by, label_by, no_mark}
use Rattle.kt_machine.specs.Seen.{Seen}
use Rattle.kt_system.specs.Systems.{state_of}
use Rattle.kt_system.specs.Shown.{ShowsState, begun_as}
use Rattle.kt_system.proofs.Fits.{begins_fit}
use Rattle.kt_system.proofs.Showing.{shows_same}
use Rattle.kt_system.proofs.Commands.{turned_by, begin_shows, begin_joins, begins_rollback, begins_inside}
use Rattle.kt_system.proofs.Acting.{begin_acts_roll}
use Rattle.kt_system.proofs.system.System.begin_rollback.Goals as goal

pub begin-requires-clause-room : goal.begin-requires-clause-room
begin-requires-clause-room c =
    let room = c.in_ok-make_room.ensures.parcels in
    let gives = c.make_room.ensures.gives in
    let keeps = c.make_room_back.ensures.keeps in
    begins_fit which.Rollback c.in-Some.inst c.args.p c.peers-targets.result c.args.self.now c.make_room_back.new.self c.tell_to_roll.new.self c.in_ok-action.action
    (record { room = λ q l e. let x = room.room q (let z = keeps.size in omega (arith, l, z)) e in let y = keeps.room c.args.p q in omega (arith, x, y) })
    (record { size = keeps.size ∙ gives.size; state_of = λ q. keeps.state_of q ∙ gives.state_of q })
    c.process.ensures.tables (λ q. c.peers-targets.ensures.peers q ∙ ap (λ (x : ProcessState). peers_of x.tables which.Rollback q) c.process.ensures.process)
    (λ s r. c.in_ok-make_room_back.ensures.back) c.tell_to_roll.ensures.turned c.in_ok-action.ensures.begins

pub returns-clause-shows : goal.returns-clause-shows
returns-clause-shows c = λ v able h few.
    let p = c.args.p in
    let action = c.in_ok-action.action in
    let after = c.tell_to_roll.new.self in
    let calls = (v.states p).calls in
    let one = shows_same _ _ v c.make_room_back.ensures.same (shows_same _ _ v c.make_room.ensures.same h) in
    let inst : c.in-Some.inst ≡ v.begun + 1 = c.in-Some.ensures.some ∙ ap (λ (n : ℕ). n + 1) h.begun in
    let s = subst (λ (k : ℕ). BeginsAs which.Rollback true v.processes k no_mark (v.states p) (state_of after p) action) inst (c.in_ok-action.ensures.shows v one) in
    let state = turned_by which.Rollback (v.begun + 1) no_mark v p action in
    let two = begin_shows _ after v p (v.begun + 1) which.Rollback true no_mark action one c.tell_to_roll.ensures.turned s in
    let joins = begin_joins after v p (v.begun + 1) which.Rollback true no_mark action s (λ asks goes e. begins_inside _ after which.Rollback c.in-Some.inst p action asks goes c.in_ok-action.ensures.begins e) in
    let three = c.begin.ensures.shows state (asked_by which.Rollback calls) (label_by which.Rollback calls) two joins in
    subst (λ (z : Seen). ShowsState c.begin.new.self z) (begins_rollback after v p able no_mark action s)
    (subst (λ (k : ℕ). ShowsState c.begin.new.self (begun_as state p k which.Rollback (asked_by which.Rollback calls) (label_by which.Rollback calls) action)) inst three)

pub returns-clause-acts : goal.returns-clause-acts
returns-clause-acts c = λ v able h few.
    let p = c.args.p in
    let one = shows_same _ _ v c.make_room_back.ensures.same (shows_same _ _ v c.make_room.ensures.same h) in
    c.begin.ensures.acts ∙ begin_acts_roll (state_of c.tell_to_roll.new.self p) v p c.in-Some.inst no_mark able c.in_ok-action.action (c.in_ok-action.ensures.shows v one)
