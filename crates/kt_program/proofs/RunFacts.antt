-- What is so of the log of a run: no member lacks a chain, and at its end, where all is quiet, no message is lost.
use Rattle.std.proofs.Common.{◌≡◌, ℕ, Bool, true, false, List, [], ◌∷◌, Option, Some, refl, count_by, length}
use Rattle.std.specs.Prelude.{◌&&◌, not, slice_get, ◌-◌}
use Rattle.std.specs.List.{range_with_len}
use Rattle.kt_spacetime.specs.declared.event.Event.{Event}
use Rattle.kt_spacetime.specs.declared.event.Event.TheVariants.{Sent}
use Rattle.kt_meaning.specs.Past.{Past, past}
use Rattle.kt_meaning.specs.Legal.{has_deed}
use Rattle.kt_spacetime.specs.declared.deeds.Deed.TheVariants as deed
use Rattle.kt_meaning.specs.Fitness.{HasNoChain}
use Rattle.kt_spacetime.specs.declared.unfit.CertFault.TheVariants.{NoChain, Memory}
use Rattle.kt_meaning.specs.Follows.{IsQuietPast}
use Rattle.kt_meaning.specs.Promised.{IsCertified}
use Rattle.kt_report.specs.Exact.{is_lost, lost_in}

-- a log that has certificates lacks no chain
pub chained_of : (log : List Event) → IsCertified log → (k p : ℕ) → HasNoChain log k p → ⊥
chained_of log h k p lacks = let e : NoChain k p ≡ Memory = h.certified (NoChain k p) lacks in absurd (cc)

-- a test that nothing passes counts none
none_counted : (test : ℕ → Bool) (items : List ℕ) → ((item : ℕ) → test item ≡ false) → count_by test items ≡ 0
none_counted test [] none = refl
none_counted test (item ∷ items) none = rw (none item) (none_counted test items none)

-- a message that is live is received, or dropped
arrived_or_dropped : (live dropped received : Bool) → (live ≡ true → dropped ≡ false → received ≡ true) → (live && not received && not dropped) ≡ false
arrived_or_dropped false dropped received arrived = refl
arrived_or_dropped true true true arrived = refl
arrived_or_dropped true true false arrived = refl
arrived_or_dropped true false true arrived = refl
arrived_or_dropped true false false arrived = absurd (let e = arrived refl refl in cc)

-- so no row sent a message that is lost
never_lost : (s : Past) → IsQuietPast s → (msg : ℕ) (row : Option Event) → is_lost s msg row ≡ false
never_lost s quiet msg (Some (Sent p to body)) =
    arrived_or_dropped (has_deed (deed.Sent msg to) (s.live p)) (s.dropped msg) (has_deed (deed.Received msg p) (s.live to)) (quiet.arrived msg p to)
never_lost s quiet msg _ = refl

pub none_lost : (log : List Event) → IsQuietPast (past log) → lost_in log ≡ 0
none_lost log quiet = none_counted (λ msg. is_lost (past log) msg (slice_get log (msg - 1))) (range_with_len 1 (length log)) (λ msg. never_lost (past log) quiet msg (slice_get log (msg - 1)))
