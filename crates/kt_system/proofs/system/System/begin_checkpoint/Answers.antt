use Rattle.std.proofs.Common.{◌≡◌, ℕ, ◌+◌, length, ap, subst, ◌∙◌}
use Rattle.kt_system.specs.Kept.{kept_of}
use Rattle.kt_base.specs.declared.words.Kind.TheVariants as which
use Rattle.kt_process.specs.ProcessStates.{ProcessState}
use Rattle.kt_process.specs.Turns.{peers_of}
use Rattle.kt_process.specs.Shown.{BeginsAs, asked_by, label_by, mark_of}
use Rattle.kt_machine.specs.Seen.{Seen, SeenLists}
use Rattle.kt_system.specs.Systems.{state_of}
use Rattle.kt_system.specs.Shown.{ShowsState, begun_as}
use Rattle.kt_system.proofs.Fits.{begins_fit, saving_free}
use Rattle.kt_system.proofs.Showing.{shows_same}
use Rattle.kt_system.proofs.Commands.{turned_by, begin_shows, begin_joins, begins_checkpoint, begins_inside}
use Rattle.kt_system.proofs.Acting.{begin_acts_save}
use Rattle.kt_system.proofs.system.System.begin_checkpoint.Goals as goal

pub begin-requires-clause-room : goal.begin-requires-clause-room
begin-requires-clause-room c =
    let gives = c.make_room.ensures.gives in
    begins_fit which.Checkpoint c.in-Some.inst c.args.p c.peers-targets.result c.args.self.now c.make_room.new.self c.tell_to_save.new.self c.in_ok-action.action
    c.in_ok-make_room.ensures.parcels (record { size = gives.size; state_of = gives.state_of })
    c.process.ensures.tables (λ q. c.peers-targets.ensures.peers q ∙ ap (λ (x : ProcessState). peers_of x.tables which.Checkpoint q) c.process.ensures.process)
    (λ s r. absurd (saving_free (state_of c.tell_to_save.new.self c.args.p).side s r)) c.tell_to_save.ensures.turned c.in_ok-action.ensures.begins

pub returns-clause-shows : goal.returns-clause-shows
returns-clause-shows c = λ v h few.
    let p = c.args.p in
    let action = c.in_ok-action.action in
    let after = c.tell_to_save.new.self in
    let marks : ℕ → ℕ = λ q. length (v.kept q p) in
    let calls = (v.states p).calls in
    let one = shows_same _ _ v c.make_room.ensures.same h in
    let inst : c.in-Some.inst ≡ v.begun + 1 = c.in-Some.ensures.some ∙ ap (λ (n : ℕ). n + 1) h.begun in
    let marked : mark_of c.in_ok-marks.marks.items ≡ marks = c.in_ok-marks.ensures.marks ∙ ap (λ (f : SeenLists). kept_of f p) one.kept in
    let s = subst (λ (k : ℕ). BeginsAs which.Checkpoint c.args.able v.processes k marks (v.states p) (state_of after p) action) inst
    (subst (λ (m : ℕ → ℕ). BeginsAs which.Checkpoint c.args.able v.processes c.in-Some.inst m (v.states p) (state_of after p) action) marked (c.in_ok-action.ensures.shows v one)) in
    let state = turned_by which.Checkpoint (v.begun + 1) marks v p action in
    let two = begin_shows _ after v p (v.begun + 1) which.Checkpoint c.args.able marks action one c.tell_to_save.ensures.turned s in
    let joins = begin_joins after v p (v.begun + 1) which.Checkpoint c.args.able marks action s (λ asks goes e. begins_inside _ after which.Checkpoint c.in-Some.inst p action asks goes c.in_ok-action.ensures.begins e) in
    let three = c.begin.ensures.shows state (asked_by which.Checkpoint calls) (label_by which.Checkpoint calls) two joins in
    subst (λ (z : Seen). ShowsState c.begin.new.self z) (begins_checkpoint after v p c.args.able action s)
    (subst (λ (k : ℕ). ShowsState c.begin.new.self (begun_as state p k which.Checkpoint (asked_by which.Checkpoint calls) (label_by which.Checkpoint calls) action)) inst three)

pub returns-clause-acts : goal.returns-clause-acts
returns-clause-acts c = λ v h few.
    let p = c.args.p in
    let one = shows_same _ _ v c.make_room.ensures.same h in
    c.begin.ensures.acts ∙ begin_acts_save (state_of c.tell_to_save.new.self p) v p c.in-Some.inst (mark_of c.in_ok-marks.marks.items) c.args.able c.in_ok-action.action (c.in_ok-action.ensures.shows v one)
