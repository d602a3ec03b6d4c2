use Rattle.std.proofs.Common.{subst}
use Rattle.std.specs.Prelude.{List}
use Rattle.kt_node.specs.Clocks.{Envelope}
use Rattle.kt_kills.specs.Starts.{parcels, IsFront}
use Rattle.kt_kills.specs.Standing.{killed_after}
use Rattle.kt_kills.proofs.Standing.{stands}
use Rattle.kt_kills.proofs.Coming.{comes}
use Rattle.kt_kills.proofs.Invariant.{IsHeld}
use Rattle.kt_kills.proofs.Law.{held_run}
use Rattle.kt_kills.proofs.OpeningHeld.{opening_held}
use Rattle.kt_kills.proofs.Undropped.{none_dropped}
use Rattle.kt_kills.proofs.laws.nothing_acknowledged_is_lost.Goals as goal

pub returns-clause-stands : goal.returns-clause-stands
returns-clause-stands c n first es more p right = stands n first es more p

pub returns-clause-comes : goal.returns-clause-comes
returns-clause-comes c n first es p q right back = comes n first es p q (back p)

pub returns-clause-once : goal.returns-clause-once
returns-clause-once c n first es p q right back = let w = killed_after n first es in let held : IsHeld n first w = held_run n first _ es right (opening_held n first) in
    subst (λ (l : List Envelope). IsFront (parcels ((w.memory q).took p)) (parcels l)) (held.sent p (back p) q) (held.knows p q)

pub returns-clause-dropped : goal.returns-clause-dropped
returns-clause-dropped c n first es p none = none_dropped n first es p none
