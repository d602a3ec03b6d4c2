use Rattle.std.proofs.Common.{[], ◌∷◌, arith, sym, subst, ◌∙◌, inl, inr}
use Rattle.std.proofs.lemmas.Bool.{cases_eq}
use Rattle.kt_meaning.specs.Past.{past}
use Rattle.kt_meaning.specs.Passing.{IsChain}
use Rattle.kt_rules.proofs.Traced.{never}
use Rattle.kt_checker.proofs.Links.{leads_low}
use Rattle.kt_checker.proofs.chains.next_in_chain.Goals as goal

pub loop-number-preserved : goal.loop-number-preserved
loop-number-preserved c = λ rows next low h chain. elim (cases_eq next c.loop-number.number) [
  | inl same ↦
      let here = subst (IsChain (past rows) c.args.certificate.now.inst c.args.certificate.now.kind c.args.at (c.args.msg ∷ [])) (same ∙ sym c.nth-next.ensures) chain in
      never (sym c.if-leads.false ∙ (c.leads.ensures rows h).1 here)
  | inr other ↦ c.loop-number.invariant rows next (omega (arith, low, other)) h chain
]

pub returns-clause-none : goal.returns-clause-none
returns-clause-none c = λ rows next h l chain.
    let low = leads_low (past rows) c.args.certificate.now.inst c.args.certificate.now.kind c.args.at c.args.msg next h.control.no_more chain in
    c.loop-number.invariant rows next (omega (arith, low, c.loop-number-test.false)) h chain

pub returns-then-leads-clause-found : goal.returns-then-leads-clause-found
returns-then-leads-clause-found c = λ rows h. (c.leads.ensures rows h).0 c.if-leads.true
