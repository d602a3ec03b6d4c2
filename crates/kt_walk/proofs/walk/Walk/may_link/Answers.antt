use Rattle.std.proofs.Common.{◌≡◌, ◌+◌, ◌*◌, List, subst, ap}
use Rattle.std.specs.List.{slice_get}
use Rattle.std.specs.Prelude.{Some, None}
use Rattle.kt_walk.specs.Pairs.{PairState}
use Rattle.kt_walk.specs.Searching.{IsFoundPast}
use Rattle.kt_walk.specs.WalkParts.{WalkParts}
use Rattle.kt_walk.proofs.walk.Walk.may_link.Goals as goal

pub returns : goal.returns
returns c = λ none sent received.
    subst (λ (pairs : List PairState). (v : PairState) × (slice_get pairs (c.args.to * 64 + c.args.from) ≡ Some v) × IsFoundPast v.received_from.arrivals sent received None)
    (ap (λ (w : WalkParts). w.pair_states) c.self.view_is) (c.may_link.ensures none sent received)
