use Rattle.std.proofs.Common.{◌+◌, ◌*◌, None, refl}
use Rattle.kt_walk.specs.Pairs.{new_pair_state}
use Rattle.kt_walk.proofs.LinkFacts.{found_link}
use Rattle.kt_walk.proofs.all_pairs.Pairs.link.Goals as goal

pub returns : goal.returns
returns c = λ s.
    let place = c.args.p * 64 + c.args.from in
    found_link c.args.self.now c.args.self.now s place place c.args.sent c.args.received c.in_ok-pair.field-0.now _ refl refl c.in_ok-pair.ensures.some c.link.ensures

pub returns-in_err-pair : goal.returns-in_err-pair
returns-in_err-pair c = λ s.
    let place = c.args.p * 64 + c.args.from in
    rw c.from_residual.ensures (found_link c.args.self.now c.args.self.now s place place c.args.sent c.args.received (new_pair_state c.args.p c.args.from) None refl refl c.in_err-pair.ensures.none (λ rising. record { there = tt; least = λ k a e late early. absurd (cc e) }))
