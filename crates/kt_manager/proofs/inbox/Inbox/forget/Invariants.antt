use Rattle.std.proofs.Common.{◌≡◌}
use Rattle.kt_manager.proofs.InTurn.{IsForgotten}
use Rattle.kt_manager.proofs.inbox.Inbox.forget.Given as goal

abbrev pub invariant-loop-place : goal.invariant-loop-place
invariant-loop-place l = record {
  forgotten : IsForgotten l.marks l.place (record { senders = l.initial.self-inside.lists.items }) (record { senders = l.self-inside.lists.items });
  holds : l.self-inside.holds ≡ l.initial.self-inside.holds;
}
