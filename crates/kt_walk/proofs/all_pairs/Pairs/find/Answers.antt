use Rattle.std.proofs.Common.{◌+◌, ◌*◌, None, refl}
use Rattle.kt_walk.specs.Pairs.{new_pair_state}
use Rattle.kt_walk.proofs.PairsFacts.{found_in_pairs, found_there, found_message}
use Rattle.kt_walk.proofs.all_pairs.Pairs.find.Goals as goal

pub returns-clause-is : goal.returns-clause-is
returns-clause-is c = λ s h.
    let known = c.in_ok-pair.ensures in
    found_in_pairs c.args.self.now s c.args.p c.args.from (c.args.p * 64 + c.args.from) c.args.msg c.in_ok-pair.field-0.now c.find.result known.by_pair known.sender_in_range refl known.some h c.find.ensures.found c.find.ensures.none

pub returns-clause-found : goal.returns-clause-found
returns-clause-found c = found_there c.args.self.now c.args.self.now (c.args.p * 64 + c.args.from) _ c.args.msg c.in_ok-pair.field-0.now c.find.result refl refl c.in_ok-pair.ensures.some c.find.ensures.found

pub returns-clause-number : goal.returns-clause-number
returns-clause-number c = found_message c.args.msg c.in_ok-pair.field-0.now c.find.result c.find.ensures.found

pub returns-in_err-pair-clause-is : goal.returns-in_err-pair-clause-is
returns-in_err-pair-clause-is c = λ s h.
    let known = c.in_err-pair.ensures in
    rw c.from_residual.ensures (found_in_pairs c.args.self.now s c.args.p c.args.from (c.args.p * 64 + c.args.from) c.args.msg (new_pair_state c.args.p c.args.from) None known.by_pair known.sender_in_range refl known.none h tt (λ in_order k w e same. absurd (cc e)))
