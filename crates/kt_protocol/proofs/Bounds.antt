-- The bounds of the asks, replies and decisions of an instance.
use Rattle.std.proofs.Common.{◌≡◌, ℕ, ◌+◌, ◌≤◌, Bool, true, false, List, refl, arith, ◌∙◌}
use Rattle.std.specs.Prelude.{◌&&◌}
use Rattle.std.proofs.lemmas.Bool.Decides.{nat_tests}
use Rattle.std.specs.Prelude.{◌*◌, ◌-◌}
use Rattle.kt_protocol.proofs.Invariant.{is_ask, is_child, one}
use Rattle.kt_protocol.proofs.Choices.{at_if}
use Rattle.kt_protocol.proofs.Sums.{total_le, total_pairs}
use Rattle.kt_protocol.proofs.Counting.{Counted}
use Rattle.kt_protocol.proofs.Weights.{weigh}
use Rattle.kt_protocol.specs.Parcels.{Lists, with_rest}
use Rattle.kt_protocol.specs.States.{State, ProtocolStep, opening}
use Rattle.kt_protocol.specs.Messages.{after_arrival}
use Rattle.kt_protocol.specs.Steps.{run}
use Rattle.kt_protocol.specs.Deciding.{after_closing, after_deciding_as, after_closing_checkpoint}
use Rattle.kt_protocol.proofs.Walk.{Moves, walk_step, kept}
use Rattle.kt_protocol.proofs.Transitions.{invariant_opening}

-- no step changes the number of processes
same_deciding : (s : State) (p k : ℕ) (c roll : Bool) → (after_deciding_as c roll s p k).processes ≡ s.processes
same_deciding s p k false roll = refl
same_deciding s p k true false = refl
same_deciding s p k true true = refl

same_closing : (s : State) (p k : ℕ) (c : Bool) → (after_closing s p k c).processes ≡ s.processes
same_closing s p k c = at_if (λ (t : State). t.processes ≡ s.processes) (s.so_far.is_rollback k) _ _ (λ _. refl) (λ _. go c)
  where
    go : (c : Bool) → (after_closing_checkpoint s p k c).processes ≡ s.processes
    go true = refl
    go false = refl

same_arrival : (s : State) (channel held : Lists) (p q m : ℕ) → (after_arrival s channel held p q m).processes ≡ s.processes
same_arrival s channel held p q m = at_if (λ (t : State). t.processes ≡ s.processes) (s.up p) _ _ (λ _. refl) (λ _. refl)

same_moves : (n : ℕ) (x : ProtocolStep) → Moves x (λ s. s.processes ≡ n) (λ s. s.processes ≡ n) (λ s k p. s.processes ≡ n) (λ s k p. s.processes ≡ n)
same_moves n x = record {
  stays = λ s g b. b;
  sends = λ s p q body d o u g b. b;
  refuses = λ s p v c may g b. b;
  fails = λ s p u g b. b;
  begins_checkpoint = λ s p o u g b. b;
  begins_rollback = λ s p o g b. b;
  takes_channel = λ s p q m rest y e d g b. same_arrival s (with_rest s.channel q p rest) s.held p q m ∙ b;
  takes_held = λ s p q m rest y e g b. same_arrival s s.channel (with_rest s.held q p rest) p q m ∙ b;
  holds = λ s p q m rest y e g b. b;
  joins_checkpoint = λ s p q k l rest e o r t u g b. b;
  joins_rollback = λ s p q k l rest e o r t g b. b;
  notes = λ s p q k l rest e o g b. b;
  replies = λ s p q k l rest e g b. b;
  is_busy = λ s p q k l able rest is e d o g b. b;
  is_unable = λ s p q k l able rest is e o r t u g b. b;
  counts = λ s p q k w rest e g b. b;
  hears = λ s p q k c rest e o g b. b;
  ignores = λ s p q k c rest e o g b. b;
  waits = λ s k p j d d2 g w. w;
  answers = λ s k p j d d2 a g w. w;
  decides = λ s k p j d i q g w. same_deciding s p k (s.all_willing k p) (s.so_far.is_rollback k) ∙ w;
  closes = λ s k p c pos o d i g w. same_closing s p k c ∙ w;
}

pub same_processes : (n : ℕ) (steps : List ProtocolStep) → (run (opening n) steps).processes ≡ n
same_processes n steps = kept (λ s. s.processes ≡ n) (λ s x g b. (walk_step x (λ s. s.processes ≡ n) (λ s. s.processes ≡ n) (λ s k p. s.processes ≡ n) (λ s k p. s.processes ≡ n) (same_moves n x) s g b).claim) (opening n) steps (invariant_opening n) refl

pub asks_bounded : (s : State) → Counted s → (k : ℕ) → s.asks k ≤ s.processes * (s.processes - 1)
asks_bounded s t k = rw (t.asks_is k) (total_pairs s.processes (s.asked k) (λ p. none p (s.asked k p p) refl))
  where
    none : (p : ℕ) (b : Bool) → s.asked k p p ≡ b → s.asked k p p ≡ false
    none p false e = e
    none p true e = absurd ((t.asked_low k p p e).3 refl)

pub replies_bounded : (s : State) → Counted s → (k : ℕ) → s.replies k ≤ s.asks k
replies_bounded s t k = rw (t.asks_is k, t.replies_is k) (total_le s.processes s.processes (s.has_reply k) (s.asked k) (λ p q e. one_of (weigh (is_ask k) (s.channel p q) + one (is_child s k p q)) (s.has_reply k p q) (s.asked k p q) e (t.put_is k p q)))
  where
    one_of : (x : ℕ) (a b : Bool) → a ≡ true → x + one a ≡ one b → b ≡ true
    one_of x a b e h = grind (arith, nat_tests, e, h)

pub decisions_bounded : (s : State) → Counted s → (k : ℕ) → s.decisions k ≤ s.asks k
decisions_bounded s t k = rw (t.asks_is k, t.decisions_is k) (total_le s.processes s.processes (λ p q. s.has_closed k p && s.asked k p q) (s.asked k) (λ p q e. second (s.has_closed k p) (s.asked k p q) e))
  where
    second : (a b : Bool) → (a && b) ≡ true → b ≡ true
    second true b e = e
    second false b e = absurd (cc (e))
