-- A plan is at rest exactly where all is done and nothing is in transit.
use Rattle.std.proofs.Common.{length, ◌≡◌, ℕ, ◌<◌, Bool, true, false, List, [], ◌∷◌, refl, ap, None}
use Rattle.std.specs.Prelude.{◌==◌, ◌&&◌, ◌||◌, not, ◌↔◌, slice_get, is_some}
use Rattle.kt_fifo.specs.declared.parcels.Parcel.{Parcel}
use Rattle.kt_protocol.specs.Deciding.{none_of}
use Rattle.kt_machine.specs.Seen.{Seen}
use Rattle.kt_plan.specs.declared.commands.Command.{Command}
use Rattle.kt_plan.specs.Limits.{Planned, IsPlan}
use Rattle.kt_promises.proofs.PhaseOrder.{none_of_if}
use Rattle.kt_fifo.specs.Queues.{has_parcel}
use Rattle.kt_promises.specs.Progress.{Progress, commands_left, next_command, is_quiet}
use Rattle.kt_promises.specs.Steps.{is_at_rest}
use Rattle.kt_promises.specs.Runs.{RunReaches}
use Rattle.kt_promises.specs.AtRest.{HasNothingInTransit}
use Rattle.kt_promises.proofs.WholeLogs.{rested}

no_command : (l : List Command) → slice_get l 0 ≡ None → is_some (slice_get l 0) ≡ false
no_command [] e = refl
no_command (c ∷ cs) e = absurd (cc (e))

quiet_if : (n : ℕ) (v : Seen) → HasNothingInTransit v → is_quiet n v ≡ true
quiet_if n v h = none_of_if n (λ p. not ((v.states p).inst == 0) || not (none_of n (λ q. has_parcel (v.channel q p) || has_parcel (v.held q p)))) (λ p _. one p)
  where
    empty : (l m : List Parcel) → l ≡ [] → m ≡ [] → (has_parcel l || has_parcel m) ≡ false
    empty l m e f = rw (e, f) refl

    one : (p : ℕ) → (not ((v.states p).inst == 0) || not (none_of n (λ q. has_parcel (v.channel q p) || has_parcel (v.held q p)))) ≡ false
    one p = let c = h.closed p in let e = none_of_if n (λ q. has_parcel (v.channel q p) || has_parcel (v.held q p)) (λ q _. empty (v.channel q p) (v.held q p) (h.no_parcel q p) (h.none_held q p)) in rw (c, e) refl

both : (a b : Bool) → a ≡ true → b ≡ true → (a && b) ≡ true
both a b e f = rw (e, f) refl

pub rest_is : (plan : Planned) (first : ℕ) (w : Progress) → IsPlan plan → RunReaches plan first w →
    (is_at_rest plan w ≡ true) ↔ (((p : ℕ) → p < length plan.names → next_command plan w p ≡ None) × HasNothingInTransit w.now)
rest_is plan first w i r = (
  λ a. let h = rested plan first w i r a in (λ p _. ap (λ (cs : List Command). slice_get cs 0) (h.1 p), h.0),
  λ h. both (none_of (length plan.names) (λ p. is_some (slice_get (commands_left plan w p) 0))) (is_quiet (length plan.names) w.now) (none_of_if (length plan.names) (λ p. is_some (slice_get (commands_left plan w p) 0)) (λ p l. no_command (commands_left plan w p) (h.0 p l))) (quiet_if (length plan.names) w.now h.1),
)
