-- Sends of what objects offer.
use Rattle.std.specs.Prelude.{◌≡◌, ℕ, ℤ, Bool, true, Option, Some, option_map, List, [], ◌∷◌, length, take, slice_get}
use Rattle.kt_spacetime.specs.declared.event.Event.{Event}
use Rattle.kt_spacetime.specs.declared.event.Event.TheVariants.{Sent}
use Rattle.kt_protocol.specs.States.{ProtocolStep, Send, Begin, Fail, Take, State}
use Rattle.kt_protocol.specs.LateSteps.{late_step}
use Rattle.kt_machine.specs.Done.{done}
use Rattle.kt_machine.specs.Values.{Rules, object_value}

-- what p's object offers after a log, where it is up
abbrev pub offer : {V : Type 0} → Rules V → List Event → ℕ → Option ℤ
offer r log p = option_map r.offered (object_value r (done log) p)

-- each send of these steps that is to be at a marked place of the log has the body that its sender's object offers there
abbrev pub SendsOffers : {V : Type 0} → Rules V → (ℕ → Bool) → State → List ProtocolStep → Type 0
SendsOffers r marked s [] = Unit {0}
SendsOffers r marked s (Send p q body ∷ xs) = (marked (length s.log) ≡ true → s.up p ≡ true → offer r s.log p ≡ Some body) × SendsOffers r marked (late_step s (Send p q body)) xs
SendsOffers r marked s (Begin p roll able ∷ xs) = SendsOffers r marked (late_step s (Begin p roll able)) xs
SendsOffers r marked s (Fail p ∷ xs) = SendsOffers r marked (late_step s (Fail p)) xs
SendsOffers r marked s (Take p q able ∷ xs) = SendsOffers r marked (late_step s (Take p q able)) xs

-- each sent row at a marked place has what its sender's object offers just before it
abbrev pub HasOffers : {V : Type 0} → Rules V → (ℕ → Bool) → List Event → Type 0
HasOffers r marked log = (i p q : ℕ) (body : ℤ) → slice_get log i ≡ Some (Sent p q body) → marked i ≡ true → offer r (take i log) p ≡ Some body
