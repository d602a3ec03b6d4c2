use Rattle.std.proofs.Common.{ℕ, arith, below_more}
use Rattle.std.specs.Prelude.{All}
use Rattle.kt_manager.specs.Inboxes.{kept_of}
use Rattle.kt_node_text.specs.Ranges.{IsItem}
use Rattle.kt_node_text.proofs.Rests.{gather_none, gather_more}
use Rattle.kt_node_text.proofs.writing.put_all_kept.Goals as goal

pub loop-number-init : goal.loop-number-init
loop-number-init c = record {
  numbers = gather_none _ _;
  range = λ q b. absurd (omega arith);
}

pub loop-number-preserved : goal.loop-number-preserved
loop-number-preserved c = record {
  numbers = gather_more _ _ _ _ _ c.loop-number.invariant.numbers (rw c.nth.ensures at c.in_ok-put_kept.ensures.numbers);
  range = below_more (λ (q : ℕ). All IsItem (kept_of c.args.inbox.now q)) _ c.loop-number.invariant.range
      (rw c.nth.ensures at c.in_ok-put_kept.ensures.range);
}
