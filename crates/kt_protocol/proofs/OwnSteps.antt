-- Live histories are the own ones, cut back: after every run.
use Rattle.std.proofs.Common.{◌≡◌, ℕ, ◌+◌, ◌<◌, Bool, true, false, List, refl}
use Rattle.kt_base.specs.declared.words.Cause.TheVariants.{Busy}
use Rattle.kt_spacetime.specs.declared.event.Event.TheVariants.{Dropped, Unwilling, Failed, Refused}
use Rattle.kt_protocol.specs.States.{State, ProtocolStep, opening}
use Rattle.kt_protocol.specs.Joining.{after_began}
use Rattle.kt_protocol.specs.Replies.{unable_cause}
use Rattle.kt_protocol.specs.Deciding.{after_closing, after_closing_checkpoint}
use Rattle.kt_protocol.specs.Steps.{after_step, run}
use Rattle.kt_protocol.proofs.Invariant.{Invariant}
use Rattle.kt_protocol.proofs.Choices.{at_if}
use Rattle.kt_protocol.proofs.Replying.{ask_facts}
use Rattle.kt_protocol.proofs.StepFacts.{new_undecided}
use Rattle.kt_protocol.proofs.Transitions.{invariant_opening}
use Rattle.kt_protocol.proofs.Walk.{Moves, walk_step, kept}
use Rattle.kt_protocol.proofs.OwnHistories.{OwnAgrees, own_row, own_sending, own_receiving, own_began, own_joining_checkpoint, own_joining_rollback, own_deciding, own_closing}

record OwnIn (s : State) : Type 0 where
  pub own : OwnAgrees s.log s.so_far

closes : (s : State) (p k : ℕ) (c : Bool) → 0 < k → s.so_far.open_in p ≡ k → s.so_far.is_decided k ≡ true → OwnIn s → OwnIn (after_closing s p k c)
closes s p k c pos o d b = at_if OwnIn (s.so_far.is_rollback k) _ _ (λ _. record { own = own_closing s b.own p k pos o d }) (λ _. saved c)
  where
    saved : (c : Bool) → OwnIn (after_closing_checkpoint s p k c)
    saved true = record { own = own_closing s b.own p k pos o d }
    saved false = record { own = own_closing s b.own p k pos o d }

own_moves : (x : ProtocolStep) → Moves x OwnIn OwnIn (λ s k p. OwnIn s) (λ s k p. OwnIn s)
own_moves x = record {
  stays = λ s g b. b;
  sends = λ s p q body n o u g b. record { own = own_sending s b.own p q body o };
  refuses = λ s p v c may g b. record { own = own_row s.log s.so_far (Refused p v c) b.own b.own.live };
  fails = λ s p u g b. record { own = own_row s.log s.so_far (Failed p) b.own b.own.live };
  begins_checkpoint = λ s p o u g b. record { own = own_joining_checkpoint (after_began s p false) (own_began s b.own p false g) p (s.instances + 1) o (new_undecided s g) };
  begins_rollback = λ s p o g b. record { own = own_joining_rollback (after_began s p true) (own_began s b.own p true g) p (s.instances + 1) o (new_undecided s g) };
  takes_channel = λ s p q m rest y e n g b. at_if OwnIn (s.up p) _ _ (λ _. record { own = own_receiving s b.own p q m y }) (λ _. record { own = own_row s.log s.so_far (Dropped p q m) b.own b.own.live });
  takes_held = λ s p q m rest y e g b. at_if OwnIn (s.up p) _ _ (λ _. record { own = own_receiving s b.own p q m y }) (λ _. record { own = own_row s.log s.so_far (Dropped p q m) b.own b.own.live });
  holds = λ s p q m rest y e g b. record { own = b.own };
  joins_checkpoint = λ s p q k l rest e o r t u g b. record { own = own_joining_checkpoint s b.own p k o (ask_facts s q p k l rest e g).2 };
  joins_rollback = λ s p q k l rest e o r t g b. record { own = own_joining_rollback s b.own p k o (ask_facts s q p k l rest e g).2 };
  notes = λ s p q k l rest e o g b. record { own = b.own };
  replies = λ s p q k l rest e g b. record { own = b.own };
  is_busy = λ s p q k l able rest is e n o g b. record { own = own_row s.log s.so_far (Unwilling p k (Busy (s.so_far.open_in p))) b.own b.own.live };
  is_unable = λ s p q k l able rest is e o r t u g b. record { own = own_row s.log s.so_far (Unwilling p k (unable_cause (s.up p))) b.own b.own.live };
  counts = λ s p q k w rest e g b. record { own = b.own };
  hears = λ s p q k c rest e o g b. record { own = b.own };
  ignores = λ s p q k c rest e o g b. record { own = b.own };
  waits = λ s k p j d n g w. w;
  answers = λ s k p j d n a g w. record { own = w.own };
  decides = λ s k p j d i q g w. record { own = own_deciding s w.own p k g (g.positions.joined_instance k p j).0 d (s.all_willing k p) (s.so_far.is_rollback k) refl };
  closes = λ s k p c pos o d i g w. closes s p k c pos o d w;
}

own_step : (s : State) (x : ProtocolStep) → Invariant s → OwnIn s → OwnIn (after_step s x)
own_step s x g b = (walk_step x OwnIn OwnIn (λ s k p. OwnIn s) (λ s k p. OwnIn s) (own_moves x) s g b).claim

pub own_after_run : (n : ℕ) (steps : List ProtocolStep) → OwnAgrees (run (opening n) steps).log (run (opening n) steps).so_far
own_after_run n steps = (kept OwnIn own_step (opening n) steps (invariant_opening n) (record { own = record { known = refl; live = λ u. refl } })).own
