use Rattle.std.proofs.Common.{[], sym, ◌∙◌}
use Rattle.kt_tables.proofs.Pairs.{find_same, find_other, find_none}
use Rattle.kt_tables.proofs.peers.label_in.Goals as goal

pub returns-then-get : goal.returns-then-get
returns-then-get c = sym (find_same c.args.pair.now [] c.args.peer (sym c.get.ensures.value ∙ (c.if-get.true ∙ c.get-2.ensures.value)))

pub returns-else-get : goal.returns-else-get
returns-else-get c =
    c.none.ensures
    ∙ sym (find_other c.args.pair.now [] c.args.peer (λ e. c.if-get.false (c.get.ensures.value ∙ (e ∙ sym c.get-2.ensures.value))) ∙ find_none c.args.peer)
