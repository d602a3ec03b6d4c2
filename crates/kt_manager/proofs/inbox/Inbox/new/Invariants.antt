use Rattle.std.specs.Prelude.{All}
use Rattle.std.proofs.Common.{◌≡◌, length}
use Rattle.kt_manager.specs.Messages.{Messages}
use Rattle.kt_manager.proofs.InTurn.{IsBare}
use Rattle.kt_manager.proofs.inbox.Inbox.new.Given as goal

abbrev pub invariant-loop-number : goal.invariant-loop-number
invariant-loop-number l = record {
  one_each : length l.lists.items ≡ l._number;
  bare : All (λ (m : Messages). IsBare m) l.lists.items;
}
