use Rattle.std.proofs.Common.{◌+◌, ◌*◌, None, refl}
use Rattle.kt_walk.specs.Pairs.{new_pair_state}
use Rattle.kt_walk.proofs.FoundFacts.{found_places, missing_places}
use Rattle.kt_walk.proofs.all_pairs.Pairs.places.Goals as goal

pub returns-clause-found : goal.returns-clause-found
returns-clause-found c =
    let known = c.in_ok-pair.ensures in
    found_places c.args.self.now c.args.self.now (c.args.to * 64 + c.args.from) c.in_ok-pair.field-0.now c.args.to c.args.from c.args.msg c.places.result refl known.by_pair known.some refl known.receiver_in_range known.sender_in_range c.places.ensures.found

pub returns-clause-none : goal.returns-clause-none
returns-clause-none c =
    let known = c.in_ok-pair.ensures in
    missing_places c.args.self.now c.args.self.now (c.args.to * 64 + c.args.from) c.in_ok-pair.field-0.now c.args.to c.args.from c.args.msg c.places.result refl known.by_pair known.some refl known.receiver_in_range known.sender_in_range c.places.ensures.none

pub returns-in_err-pair-clause-none : goal.returns-in_err-pair-clause-none
returns-in_err-pair-clause-none c =
    let known = c.in_err-pair.ensures in
    rw c.from_residual.ensures (missing_places c.args.self.now c.args.self.now (c.args.to * 64 + c.args.from) (new_pair_state c.args.to c.args.from) c.args.to c.args.from c.args.msg None refl known.by_pair known.none refl known.receiver_in_range known.sender_in_range (λ rising sent received has. absurd (cc has.1)))
