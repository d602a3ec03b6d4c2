use Rattle.std.proofs.Common.{sym, ap, ◌∙◌, inl, inr}
use Rattle.std.specs.Option.{option_copied}
use Rattle.kt_rules.proofs.Traced.{never}
use Rattle.kt_checker.proofs.Sound.{passes_of}
use Rattle.kt_checker.proofs.Marking.{number_within}
use Rattle.kt_checker.proofs.Answering.{gathered_as, refuted_of}
use Rattle.kt_checker.proofs.checking.refutation.Goals as goal

pub returns-in-None-clause-passes : goal.returns-in-None-clause-passes
returns-in-None-clause-passes c = λ e certificates rows i l h at second.
    let there = sym c.get.ensures ∙ ap option_copied c.in-Some.is in
    let tests = c.is_as_certified.ensures in
    let passed = c.if-not-is_as_certified.false in
    passes_of c.args.instances.now.list.items rows c.args.certificate.now i c.in-Some.instance.now c.in-Some-decision.decision l h there c.in-Some-decision.is
    (tests.kind passed) (tests.initiator passed) (tests.verdict passed) (tests.no_members passed) at (λ earlier. never (sym c.if-is_seen.false ∙ second.1 earlier)) c.in-None.is

pub returns-in-None-clause-listed : goal.returns-in-None-clause-listed
returns-in-None-clause-listed c = λ e.
    let there = sym c.get.ensures ∙ ap option_copied c.in-Some.is in
    number_within c.args.instances.now.list.items c.args.certificate.now.inst c.in-Some.instance.now there

pub returns-then-not-is_as_certified-clause-refused : goal.returns-then-not-is_as_certified-clause-refused
returns-then-not-is_as_certified-clause-refused c = λ certificates rows i l h at second. inl (
  c.no_verdict-then-not-is_as_certified.ensures,
  λ n stated first.
      let there = sym c.get.ensures ∙ ap option_copied c.in-Some.is in
      let same = gathered_as c.args.instances.now.list.items rows c.args.certificate.now n c.in-Some.instance.now c.in-Some-decision.decision l h there c.in-Some-decision.is stated in
      never (sym c.if-not-is_as_certified.true ∙ c.is_as_certified.ensures.all same.0 same.1 same.2 stated.no_members),
)

pub returns-in-Some-fault-clause-refused : goal.returns-in-Some-fault-clause-refused
returns-in-Some-fault-clause-refused c = λ certificates rows i l h at second.
    let there = sym c.get.ensures ∙ ap option_copied c.in-Some.is in
    let tests = c.is_as_certified.ensures in
    let passed = c.if-not-is_as_certified.false in
    inr (refuted_of c.args.instances.now.list.items rows i c.args.certificate.now c.in-Some.instance.now c.in-Some-decision.decision _ c.in-Some-fault.why l h there c.in-Some-decision.is
    (tests.kind passed) (tests.initiator passed) (tests.verdict passed) (tests.no_members passed) at (λ earlier. never (sym c.if-is_seen.false ∙ second.1 earlier)) c.no_verdict-in-Some-fault.ensures c.in-Some-fault.is)
