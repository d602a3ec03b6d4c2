use Rattle.std.proofs.Common.{◌∙◌, refl, sym}
use Rattle.kt_meaning.specs.Past.{past}
use Rattle.kt_rules.proofs.Replayed.{row_read}
use Rattle.kt_explain.specs.declared.judged.OpenInstance.{OpenInstance}
use Rattle.kt_explain.proofs.Leftovers.{told_with, told_without}
use Rattle.kt_explain.proofs.judged.open_instances.Goals as goal
use Rattle.kt_explain.proofs.judged.open_instances.Goals.{in-Some+in_ok-push, in_default}

pub loop-row-preserved : goal.loop-row-preserved
loop-row-preserved c =
    let rows = c.args.rows.now in
    let i = c.loop-row.row-index in
    let begun = c.begun_open.ensures rows c.requires.histories in
    let at = row_read rows i c.row-item.result c.loop-row-test.true c.row-item.is in
    elim c.match-begun_open.branch [
      | in-Some+in_ok-push w ↦
          let o : OpenInstance = record { inst = w.in-Some.inst; inside = w.inside-inside.result } in
          rw (w.list-is, w.in_ok-push.ensures.items)
          (told_with (past rows) rows i c.row-item.result c.loop-row.list.items w.in-Some.inst o at (sym begun ∙ w.in-Some.is) (refl, λ p l. w.inside-inside.ensures rows p c.requires.histories l) c.loop-row.invariant)
      | in_default w ↦ rw w.list-is (told_without (past rows) rows i c.row-item.result c.loop-row.list.items at (sym begun ∙ w.in_default.is) c.loop-row.invariant)
    ]
