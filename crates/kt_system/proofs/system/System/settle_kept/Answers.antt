use Rattle.std.proofs.Common.{Bool, false, ℕ, ◌≤◌}
use Rattle.std.specs.Prelude.{Option}
use Rattle.kt_fifo.specs.Channels.{channel}
use Rattle.kt_machine.specs.Seen.{SeenLists}
use Rattle.kt_machine.specs.ListChanges.{trims}
use Rattle.kt_system.specs.Kept.{put_back}
use Rattle.kt_process.specs.Shown.{mark_of}
use Rattle.kt_system.specs.Shown.{ShowsState, held_closed, kept_closed}
use Rattle.kt_system.proofs.Showing.{stood, shows_parts}
use Rattle.kt_system.proofs.Turns.{tables_at, state_at}
use Rattle.kt_system.proofs.Closing.{ready_is, noted_is, marks_are, saving_is, held_restored, kept_restored, kept_trimmed, held_stays}
use Rattle.kt_process.specs.ProcessStates.{inst_of, ProcessState, is_ready}
use Rattle.std.proofs.Common.{◌≡◌, true, refl, arith, sym, ap, subst, ◌∙◌}
use Rattle.kt_system.specs.Systems.{Whole, state_of, HasBack}
use Rattle.kt_system.proofs.Frames.{keeps_room}
use Rattle.kt_system.proofs.system.System.settle_kept.Goals as goal

pub restore-requires-clause-room : goal.restore-requires-clause-room
restore-requires-clause-room c =
    let was = state_at _ _ c.args.p c.index.result c.index-process.result.now c.self.view_is c.self.invariant c.requires.p c.index.ensures.value c.index-process.ensures in
    let ready : is_ready (state_of c.args.self.now c.args.p).side ≡ true = ap (λ (x : ProcessState). is_ready x.side) (sym was) ∙ (sym c.is_ready.ensures.ready ∙ c.if-is_ready.true) in
    let back = subst (λ (w : Whole). HasBack w c.args.p) (sym c.self.view_is) (c.requires.back ready) in
    λ q b. back.back q (let k = c.self.invariant.held in omega arith)

pub returns-then-is_ready-clause-keeps : goal.returns-then-is_ready-clause-keeps
returns-then-is_ready-clause-keeps c = keeps_room _ _ _ c.self.view_is refl refl refl

pub returns-then-marks-self-clause-keeps : goal.returns-then-marks-self-clause-keeps
returns-then-marks-self-clause-keeps c = keeps_room _ _ _ c.self.view_is refl refl refl

pub returns-then-is_ready-clause-shows : goal.returns-then-is_ready-clause-shows
returns-then-is_ready-clause-shows c = λ v h there.
    let p = c.args.p in
    let part = (v.states p).part in
    let seen = stood _ _ p c.index.result c.index-process.result.now v c.self.view_is c.self.invariant c.requires.p c.index.ensures.value c.index-process.ensures h in
    let i = subst (λ (w : Whole). ShowsState w v) (sym c.self.view_is) h in
    let ready : part.is_rollback ≡ true = sym (ready_is _ _ seen) ∙ (sym c.is_ready.ensures.ready ∙ c.if-is_ready.true) in
    let n = c.self.inside.held.processes in
    let k : c.self.inside.kept.processes ≤ n = (let a = c.self.invariant.kept in let b = c.self.invariant.held in omega arith) in
    let m : c.self.inside.held.processes ≤ n = omega arith in
    let held = c.restore.ensures.held ∙ (ap (λ (f : ℕ → Option ℕ). put_back n p f (channel c.self.inside.kept) (channel c.self.inside.held)) (noted_is _ _ seen)
    ∙ (held_restored n p part c.self.inside.kept c.self.inside.held k m ready
    ∙ (ap (λ (f : SeenLists). held_closed true p part f (channel c.self.inside.held)) i.kept ∙ ap (λ (f : SeenLists). held_closed true p part v.kept f) i.held))) in
    let kept = c.restore.ensures.kept ∙ (kept_restored n p part c.self.inside.kept k ready ∙ ap (λ (f : SeenLists). kept_closed true p part f) i.kept) in
    let commit = sym c.if-not-commit.false in
    shows_parts _ _ _ v v.channel (held_closed c.args.commit p part v.kept v.held) (kept_closed c.args.commit p part v.kept) v.log v.begun c.self.view_is refl refl i.channels
    (held ∙ ap (λ (b : Bool). held_closed b p part v.kept v.held) commit) (kept ∙ ap (λ (b : Bool). kept_closed b p part v.kept) commit) i.log i.begun h

pub returns-then-marks-self-clause-shows : goal.returns-then-marks-self-clause-shows
returns-then-marks-self-clause-shows c = λ v h there.
    let p = c.args.p in
    let part = (v.states p).part in
    let seen = stood _ _ p c.index.result c.index-process.result.now v c.self.view_is c.self.invariant c.requires.p c.index.ensures.value c.index-process.ensures h in
    let i = subst (λ (w : Whole). ShowsState w v) (sym c.self.view_is) h in
    let free = sym c.is_ready.ensures.ready ∙ c.if-is_ready.false in
    let plain : part.is_rollback ≡ false = sym (ready_is _ _ seen) ∙ free in
    let kept = c.trim.ensures.lists ∙ (ap (λ (f : ℕ → ℕ). trims true p f (channel c.self.inside.kept)) (ap mark_of c.marks-marks.ensures.marks ∙ marks_are _ _ seen free)
    ∙ (kept_trimmed p part (channel c.self.inside.kept) plain ∙ ap (λ (f : SeenLists). kept_closed true p part f) i.kept)) in
    let commit = sym c.if-not-commit.false in
    shows_parts _ _ _ v v.channel (held_closed c.args.commit p part v.kept v.held) (kept_closed c.args.commit p part v.kept) v.log v.begun c.self.view_is refl refl i.channels
    (i.held ∙ (held_stays p part v.kept v.held plain ∙ ap (λ (b : Bool). held_closed b p part v.kept v.held) commit)) (kept ∙ ap (λ (b : Bool). kept_closed b p part v.kept) commit) i.log i.begun h

pub returns-else-marks-self-clause-shows : goal.returns-else-marks-self-clause-shows
returns-else-marks-self-clause-shows c = λ v h there.
    let p = c.args.p in
    let seen = stood _ _ p c.index.result c.index-process.result.now v c.self.view_is c.self.invariant c.requires.p c.index.ensures.value c.index-process.ensures h in
    let was = state_at _ _ p c.index.result c.index-process.result.now c.self.view_is c.self.invariant c.requires.p c.index.ensures.value c.index-process.ensures in
    let free = sym c.is_ready.ensures.ready ∙ c.if-is_ready.false in
    let size : c.index-process.result.now.tables.processes ≡ c.args.self.now.size = ap (λ (x : ProcessState). x.tables.processes) was ∙ tables_at _ _ p c.self.view_is c.self.invariant c.requires.p in
    let here : c.self.inside.size ≡ c.args.self.now.size = ap (λ (w : Whole). w.size) c.self.view_is in
    let all = c.marks-marks.ensures.size (saving_is c.index-process.result.now (λ e. there (sym (ap (λ (x : ProcessState). inst_of x.side) was) ∙ e)) free) in
    absurd (c.if-marks-self.false (all ∙ (size ∙ sym here)))
