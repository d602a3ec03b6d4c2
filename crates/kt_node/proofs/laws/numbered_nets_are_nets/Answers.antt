use Rattle.std.proofs.Common.{List, map, sym, ap, arith, ◌∙◌}
use Rattle.kt_spacetime.specs.declared.named_rows.NamedRow.{NamedRow}
use Rattle.kt_spacetime.specs.declared.named_rows.ClockedRow.{ClockedRow}
use Rattle.kt_meaning.specs.Names.{numbered}
use Rattle.kt_node.specs.Clocks.{ClockedNet}
use Rattle.kt_node.specs.Erasing.{rows_from_each}
use Rattle.kt_node.specs.Numbered.{opening_numbered_from}
use Rattle.kt_node.proofs.NumberedNets.{numbered_is_net, other_number, taken_in_order}
use Rattle.kt_node.proofs.Unclocked.{rows_unclocked}
use Rattle.kt_node.proofs.laws.numbered_nets_are_nets.Goals as goal

pub returns-clause-nets : goal.returns-clause-nets
returns-clause-nets c = λ n first xs. numbered_is_net (opening_numbered_from n first) xs (λ u v. omega arith)

pub returns-clause-taken : goal.returns-clause-taken
returns-clause-taken c = λ n first xs. taken_in_order (opening_numbered_from n first) xs (λ u v. omega arith)

pub returns-clause-other : goal.returns-clause-other
returns-clause-other c = other_number

pub returns-clause-promised : goal.returns-clause-promised
returns-clause-promised c = λ n first xs log h.
    let net = numbered_is_net (opening_numbered_from n first) xs (λ u v. omega arith) in
    let rows = ap (λ (w : ClockedNet). map (λ (r : ClockedRow). r.row) w.rows) net.1 ∙ rows_unclocked n first net.0 in
    c.logs_of_nets.ensures.promised n first net.0 log (ap (λ (l : List NamedRow). numbered (rows_from_each first l)) (sym rows) ∙ h)
