use Rattle.std.proofs.Common.{◌≡◌, ℕ, ◌<◌, Option}
use Rattle.kt_manager.specs.Inboxes.{processes_of, kept_of, held_of, space_of, nothing, puts_back}
use Rattle.kt_manager.proofs.InTurn.{IsUpTo}
use Rattle.kt_manager.proofs.inbox.Inbox.put_all_back.Given as goal

abbrev pub invariant-loop-number : goal.invariant-loop-number
invariant-loop-number g l = record {
  processes : processes_of l.self ≡ processes_of l.initial.self;
  kept : IsUpTo nothing l.number (kept_of l.initial.self) (kept_of l.self);
  held : (most : ℕ → Option ℕ) → ((q : ℕ) (label : Option ℕ) → q < processes_of l.initial.self → goal.F-post g l.noted q label → label ≡ most q) →
      IsUpTo (puts_back most (kept_of l.initial.self) (held_of l.initial.self)) l.number (held_of l.initial.self) (held_of l.self);
  space : space_of l.self ≡ space_of l.initial.self;
}
