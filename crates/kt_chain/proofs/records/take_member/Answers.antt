use Rattle.std.proofs.Common.{◌≡◌, ◌≢◌, ◌<◌, ◌^◌, ◌∙◌, refl, ap, subst, inl, inr, arith, tests, rules, length}
use Rattle.kt_text.proofs.FieldFacts.{one_number}
use Rattle.kt_chain.proofs.ChainFacts.{no_more_than_bytes}
use Rattle.kt_chain.specs.Reading.{IsIfFew}
use Rattle.kt_chain.proofs.records.take_member.Goals as goal

pub returns-in_default-clause-fault : goal.returns-in_default-clause-fault
returns-in_default-clause-fault c =
    let small : length c.args.fourth.now < 2 ^ 63 = search rules in
    let inst = c.in_ok-inst.ensures.found in
    let process = c.in_ok-process.ensures.found in
    let count = c.in_ok-count.ensures.found in
    let chain = c.in_ok-chain.ensures.found in
    let many : 63 < length chain.0 = subst (IsIfFew chain.0) c.in_default.is chain.3 in
    let bytes = no_more_than_bytes c.args.fourth.now chain.0 chain.1 chain.2 in
    inr (inr (
      refl,
      ((c.in_ok-inst.inst, inst.0, inst.1), (c.in_ok-process.process, process.0, process.1), (c.in_ok-count.count, count.0, count.1), (chain.0, chain.1, chain.2)),
      inl (chain.0, chain.1, chain.2, λ e. omega (arith, many, count.0, one_number (length chain.0) c.in_ok-count.count c.args.third.now (omega (arith, bytes, small)) (omega (arith, count.0)) e count.1)),
    ))

pub returns-then-messages-count-clause-fault : goal.returns-then-messages-count-clause-fault
returns-then-messages-count-clause-fault c =
    let few : length c.in-Some.chain < 2 ^ 64 = search (rules, tests) in
    let inst = c.in_ok-inst.ensures.found in
    let process = c.in_ok-process.ensures.found in
    let count = c.in_ok-count.ensures.found in
    let chain = c.in_ok-chain.ensures.found in
    let same : c.in-Some.chain ≡ chain.0 = subst (IsIfFew chain.0) c.in-Some.is chain.3 in
    let other : length c.in-Some.chain ≢ c.in_ok-count.count = search (rules, tests) in
    inr (inr (
      refl,
      ((c.in_ok-inst.inst, inst.0, inst.1), (c.in_ok-process.process, process.0, process.1), (c.in_ok-count.count, count.0, count.1), (chain.0, chain.1, chain.2)),
      inl (chain.0, chain.1, chain.2, λ e. other (ap length same ∙ one_number (length chain.0) c.in_ok-count.count c.args.third.now (omega (arith, few, ap length same)) (omega (arith, count.0)) e count.1)),
    ))
