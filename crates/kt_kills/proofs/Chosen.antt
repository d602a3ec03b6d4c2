-- Where all are back, all may be chosen as they are.
use Rattle.std.proofs.Common.{ℕ, List, subst}
use Rattle.kt_node.specs.Clocks.{Envelope}
use Rattle.kt_kills.specs.KilledNets.{KilledNet}
use Rattle.kt_kills.specs.Starts.{parcels, IsFront}
use Rattle.kt_kills.specs.Standing.{AreAllBack}
use Rattle.kt_kills.proofs.Invariant.{AsItIs, IsHeld}
use Rattle.kt_kills.proofs.Ran.{Ran}
use Rattle.kt_kills.proofs.Basics.{clash}

pub as_they_are : (n first : ℕ) (w : KilledNet) → IsHeld n first w → AreAllBack w → Ran n first w.memory
as_they_are n first w held back = held.runs (λ p. AsItIs) (record {
  away = λ p e. elim (clash (w.away p) e (back p)) [ ];
  knows = λ p q. subst (λ (l : List Envelope). IsFront (parcels ((w.memory q).took p)) (parcels l)) (held.sent p (back p) q) (held.knows p q);
})
