use Rattle.std.proofs.Common.{◌∙◌, ◌++◌, List, [], ◌∷◌, map, take, append_assoc, arith, rules, sym, ap}
use Rattle.kt_node.specs.Clocks.{clocked_row}
use Rattle.kt_spacetime.specs.declared.named_rows.ClockedRow.{ClockedRow}
use Rattle.kt_node.proofs.OnWay.{told_one}
use Rattle.kt_node.proofs.cluster.turns.tell.Goals as goal

pub loop-event-preserved : goal.loop-event-preserved
loop-event-preserved c =
    let i = c.loop-event.event-index in
    let told = c.args.told.now in
    let before = c.args.rows.now.items in
    let front = map (clocked_row c.args.p c.args.clock) (take i told) in
    let row = clocked_row c.args.p c.args.clock c.event-item.result in
    record {
      told = c.push_reserved.ensures.items ∙ (ap (λ (l : List ClockedRow). l ++ row ∷ []) c.loop-event.invariant.told
          ∙ (append_assoc before front (row ∷ []) ∙ ap (λ (l : List ClockedRow). before ++ l) (sym (told_one c.args.p c.args.clock told i c.event-item.result (search rules) c.event-item.is))));
      room = first_of (omega arith, search rules);
    }
