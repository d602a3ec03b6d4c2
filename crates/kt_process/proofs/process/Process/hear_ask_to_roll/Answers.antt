use Rattle.std.proofs.Common.{◌≡◌, ℕ, List, arith, sym, subst, ap, ◌∙◌}
use Rattle.std.specs.Prelude.{Option, Some, None, IfSome, OnSome, true, false}
use Rattle.kt_base.specs.declared.words.Kind.TheVariants as kind
use Rattle.kt_tables.specs.Calls.{Call}
use Rattle.kt_tables.specs.Standing.{TablesStandFor}
use Rattle.kt_process.specs.Joins.{Joins}
use Rattle.kt_process.specs.RollbackActions.{IsRollbackAnswer, AsksRollbackCohort}
use Rattle.kt_process.specs.Notes.{note_of, with_note}
use Rattle.kt_process.specs.RollbackRules.{is_in}
use Rattle.kt_process.specs.RollingSides.{RollSide, IsSideAfter}
use Rattle.kt_process.specs.ProcessStates.{ProcessState, part_of_side, inst_of, is_ready, IsNumbered}
use Rattle.kt_process.specs.declared.side.Side.{Side}
use Rattle.kt_process.specs.declared.side.Side.TheVariants as side
use Rattle.kt_process.specs.Shown.{IsSeenAs, HearsAs, noted_as, no_mark}
use Rattle.kt_machine.specs.Seen.{SeenProcess}
use Rattle.kt_process.proofs.Hearing.{hears_roll, replies_roll, notes_nothing, notes_label}
use Rattle.kt_process.proofs.process.Process.hear_ask_to_roll.Goals as goal
use Rattle.kt_process.proofs.process.Process.hear_ask_to_roll.Goals.{in-Some+in-Some+in-Checkpoint-1, in-Some+in-Some+in-Rollback-1, in-Some+in-None-1, in_default}

-- who is in an instance doesn't join
no_join : (o : Option RollSide) (s : Option ℕ) (k : ℕ) (P : Type 0) → s ≡ Some k → OnSome o ((s ≡ None) × P) → o ≡ None
no_join None s k P i h = cc
no_join (Some r) s k P i h = let n = h.0 in absurd (cc (i, n))

pub returns-in_ok-action-in-Some-Rollback-clause-shows : goal.returns-in_ok-action-in-Some-Rollback-clause-shows
returns-in_ok-action-in-Some-Rollback-clause-shows c = λ y h.
    let s = c.standing-standing.result in
    let x = c.args.self.now in
    let r = c.in-Some-Rollback.side in
    let action = c.in_ok-action-in-Some-Rollback.action in
    let is : c.self.inside.side ≡ Some (side.Rollback r) = c.in-Some-Rollback.is ∙ ap (λ (z : Side). Some z) c.in-Some-Rollback.field-0-is in
    let now : x.side ≡ Some (side.Rollback r) = subst (λ (z : ProcessState). z.side ≡ Some (side.Rollback r)) c.self.view_is is in
    let inst : s.in_inst ≡ Some r.part.inst = c.standing-standing.ensures.inst ∙ ap inst_of now in
    let none = no_join c.in_ok-action-in-Some-Rollback.field-0-0 s.in_inst r.part.inst _ inst c.in_ok-action-in-Some-Rollback.ensures.joined in
    let rule = λ (calls : List Call) (st : TablesStandFor c.self.inside.tables calls). subst (λ (o : Option RollSide). IsRollbackAnswer calls s c.args.inst c.args.from c.args.label o action) none (c.in_ok-action-in-Some-Rollback.ensures.rule calls st) in
    let rule2 = subst (λ (z : ProcessState). (calls : List Call) → TablesStandFor z.tables calls → IsRollbackAnswer calls s c.args.inst c.args.from c.args.label None action) c.self.view_is rule in
    let after = subst (λ (o : Option ℕ). IsSideAfter (is_in o c.args.inst) c.args.from c.args.label r c.on_ask.new.side.0) c.standing-standing.ensures.inst c.on_ask.ensures.side.1 in
    let noted = notes_label x y r c.on_ask.new.side.0 c.args.from c.args.inst c.args.label now h after in
    replies_roll x _ y s no_mark x.tables.processes c.args.from c.args.inst c.args.label action h (subst (λ (z : ProcessState). IsNumbered (part_of_side z.side)) c.self.view_is c.self.invariant.numbered) (omega arith)
    c.standing-standing.ensures.inst rule2
    (subst (λ (z : ProcessState). IsSeenAs (record z { side = Some (side.Rollback c.on_ask.new.side.0) }) (noted_as kind.Rollback c.args.from c.args.inst c.args.label y)) (sym c.self.view_is) noted)

abbrev before_save : goal.Joined-branch-4 → ProcessState
before_save c = record { tables = c.self.inside.tables; side = c.self.inside.side; up = c.self.inside.up; used = c.self.inside.used }

pub returns-in_ok-action-in-Some-Checkpoint-clause-shows : goal.returns-in_ok-action-in-Some-Checkpoint-clause-shows
returns-in_ok-action-in-Some-Checkpoint-clause-shows c = λ y h.
    let s = c.standing-standing.result in
    let x = c.args.self.now in
    let part = c.in-Some-Checkpoint.field-0-0 in
    let action = c.in_ok-action-in-Some-Checkpoint.action in
    let is : c.self.inside.side ≡ Some (side.Checkpoint part) = c.in-Some-Checkpoint.is ∙ ap (λ (z : Side). Some z) c.in-Some-Checkpoint.field-0-is in
    let now : x.side ≡ Some (side.Checkpoint part) = subst (λ (z : ProcessState). z.side ≡ Some (side.Checkpoint part)) c.self.view_is is in
    let inst : s.in_inst ≡ Some part.part.inst = c.standing-standing.ensures.inst ∙ ap inst_of now in
    let none = no_join c.in_ok-action-in-Some-Checkpoint.field-0-0 s.in_inst part.part.inst _ inst c.in_ok-action-in-Some-Checkpoint.ensures.joined in
    let rule = λ (calls : List Call) (st : TablesStandFor c.self.inside.tables calls). subst (λ (o : Option RollSide). IsRollbackAnswer calls s c.args.inst c.args.from c.args.label o action) none (c.in_ok-action-in-Some-Checkpoint.ensures.rule calls st) in
    let rule2 = subst (λ (z : ProcessState). (calls : List Call) → TablesStandFor z.tables calls → IsRollbackAnswer calls s c.args.inst c.args.from c.args.label None action) c.self.view_is rule in
    let noted = notes_nothing x y c.args.from c.args.inst c.args.label h (ap is_ready now) (omega arith) in
    let back : x ≡ record (before_save c) { side = Some c.in-Some-Checkpoint.field-0 } = sym c.self.view_is ∙ ap (λ (z : Option Side). record (before_save c) { side = z }) c.in-Some-Checkpoint.is in
    replies_roll x _ y s no_mark x.tables.processes c.args.from c.args.inst c.args.label action h (subst (λ (z : ProcessState). IsNumbered (part_of_side z.side)) c.self.view_is c.self.invariant.numbered) (omega arith)
    c.standing-standing.ensures.inst rule2 (subst (λ (z : ProcessState). IsSeenAs z (noted_as kind.Rollback c.args.from c.args.inst c.args.label y)) back noted)

abbrev As : goal.Joined-side → SeenProcess → ProcessState → Type 0
As c y z = HearsAs kind.Rollback true c.args.self.now.tables.processes c.args.from c.args.inst c.args.label no_mark y z c.in_ok-side-in-None.action

abbrev before : goal.Joined-side → ProcessState
before c = record { tables = c.self.inside.tables; side = c.self.inside.side; up = c.self.inside.up; used = c.self.inside.used }

joins : (c : goal.Joined-side) (y : SeenProcess) (r : RollSide) → IsSeenAs c.args.self.now y → c.in_ok-side-in-None.side ≡ Some r → As c y (record (before c) { side = Some (side.Rollback r) })
joins c y r h is =
    let x = before c in
    let k = subst (λ (z : ProcessState). IsSeenAs z y) (sym c.self.view_is) h in
    let s = c.standing-standing.result in
    let action = c.in_ok-side-in-None.action in
    let rule = λ (calls : List Call) (st : TablesStandFor x.tables calls). subst (λ (o : Option RollSide). IsRollbackAnswer calls s c.args.inst c.args.from c.args.label o action) is (c.in_ok-side-in-None.ensures.rule calls st) in
    let join = subst (λ (o : Option RollSide). IfSome o (λ (m : RollSide). Joins x.tables.processes c.args.inst (Some c.args.from) m.part action)) is c.in_ok-side-in-None.ensures.joins in
    let cohort = subst (λ (o : Option RollSide). OnSome o ((calls : List Call) → TablesStandFor x.tables calls → AsksRollbackCohort calls action)) is c.in_ok-side-in-None.ensures.cohort in
    let notes = subst (λ (o : Option RollSide). IfSome o (λ (m : RollSide). note_of m.notes ≡ with_note c.args.from c.args.label Rattle.kt_process.specs.Notes.no_note)) is c.in_ok-side-in-None.ensures.noted in
    subst (λ (z : ProcessState). HearsAs kind.Rollback true z.tables.processes c.args.from c.args.inst c.args.label no_mark y (record x { side = Some (side.Rollback r) }) action) c.self.view_is
    (hears_roll x y s r no_mark x.tables.processes c.args.from c.args.inst c.args.label action k c.self.invariant.numbered c.self.invariant.few (omega arith)
    (subst (λ (z : ProcessState). s.in_inst ≡ inst_of z.side) (sym c.self.view_is) c.standing-standing.ensures.inst) rule join cohort notes)

stays : (c : goal.Joined-side) (y : SeenProcess) → IsSeenAs c.args.self.now y → c.in_ok-side-in-None.side ≡ None → As c y c.args.self.now
stays c y h is =
    let s = c.standing-standing.result in
    let x = c.args.self.now in
    let action = c.in_ok-side-in-None.action in
    let rule = λ (calls : List Call) (st : TablesStandFor c.self.inside.tables calls). subst (λ (o : Option RollSide). IsRollbackAnswer calls s c.args.inst c.args.from c.args.label o action) is (c.in_ok-side-in-None.ensures.rule calls st) in
    let rule2 = subst (λ (z : ProcessState). (calls : List Call) → TablesStandFor z.tables calls → IsRollbackAnswer calls s c.args.inst c.args.from c.args.label None action) c.self.view_is rule in
    replies_roll x x y s no_mark x.tables.processes c.args.from c.args.inst c.args.label action h (subst (λ (z : ProcessState). IsNumbered (part_of_side z.side)) c.self.view_is c.self.invariant.numbered) (omega arith)
    c.standing-standing.ensures.inst rule2
    (notes_nothing x y c.args.from c.args.inst c.args.label h (subst (λ (z : ProcessState). is_ready z.side ≡ false) c.self.view_is (ap is_ready c.in-None.is)) (omega arith))

pub returns-after-side-clause-shows : goal.returns-after-side-clause-shows
returns-after-side-clause-shows c = λ y h. elim c.match-side.branch [
  | in-Some+in-Some+in-Checkpoint-1 w ↦ subst (λ (z : ProcessState). As c y z) (sym w.self-is) (joins c y _ h w.in-Some.is)
  | in-Some+in-Some+in-Rollback-1 w ↦ subst (λ (z : ProcessState). As c y z) (sym w.self-is) (joins c y _ h w.in-Some.is)
  | in-Some+in-None-1 w ↦ subst (λ (z : ProcessState). As c y z) (sym w.self-is) (joins c y _ h w.in-Some.is)
  | in_default w ↦ subst (λ (z : ProcessState). As c y z) (sym w.self-is) (subst (λ (z : ProcessState). As c y z) (sym c.self.view_is) (stays c y h w.in_default.is))
]
