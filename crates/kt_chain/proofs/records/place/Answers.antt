use Rattle.std.proofs.Common.{◌≡◌, ◌≢◌, List, refl, ap, inr, tests, rules}
use Rattle.kt_base.specs.Numbers.{IsInstNo}
use Rattle.kt_chain.specs.Spelling.{Member}
use Rattle.kt_chain.proofs.PlaceFacts.{takes_placed, is_other}
use Rattle.kt_chain.proofs.records.place.Goals as goal

pub returns-then-get-clause-fault : goal.returns-then-get-clause-fault
returns-then-get-clause-fault c =
    let other : c.in-Some.last.inst ≢ c.args.inst = search (rules, tests) in
    let last : IsInstNo c.in-Some.last.inst = search rules in
    let this : IsInstNo c.args.inst = search rules in
    inr (refl, inr (is_other c.args.certificates.now.items c.pop.new.self.items c.in-Some.last c.args.inst last this c.in-Some.ensures.items other))

pub returns-clause-placed : goal.returns-clause-placed
returns-clause-placed c is =
    let same : c.in-Some.last.inst ≡ c.args.inst = search (rules, tests) in
    takes_placed c.args.certificates.now.items c.push-2.new.self.items c.pop.new.self.items c.in-Some.last _ c.args.inst (c.args.process, c.args.chain)
    c.in-Some.ensures.items c.in_ok-push-2.ensures.items (ap (λ (x : List Member). record { inst = c.in-Some.last.inst; kind = c.in-Some.last.kind; initiator = c.in-Some.last.initiator; commit = c.in-Some.last.commit; members = x }) c.in_ok-push.ensures.ok) same is
