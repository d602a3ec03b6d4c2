use Rattle.std.proofs.Common.{◌≡◌, ℕ, List, refl, sym, ap, subst, ◌∙◌, length, arith, inl, inr}
use Rattle.std.proofs.lemmas.Bool.{cases_eq}
use Rattle.std.proofs.lemmas.Option.{slice_get_read, slice_get_within}
use Rattle.std.specs.List.{slice_get}
use Rattle.kt_meaning.specs.Past.{past}
use Rattle.kt_meaning.proofs.Items.{some_same}
use Rattle.kt_meaning.specs.Passing.{IsListOf}
use Rattle.kt_rules.proofs.Traced.{never}
use Rattle.kt_checker.proofs.chains.has_chains.Goals as goal

pub loop-process-preserved : goal.loop-process-preserved
loop-process-preserved c = record {
  path = λ rows h. c.is_chain.ensures.path rows h (c.loop-process.invariant.path rows h) c.if-not-is_chain.false;
  lists = λ rows i p chain low h e. elim (cases_eq i c.loop-process.process-index) [
    | inl same ↦
        let items = c.list-process-items.result.now in
        let read = slice_get_read items (length items) c.loop-process.process-index c.loop-process-item.result refl c.loop-process-test.true c.loop-process-item.is in
        let item : c.loop-process-item.result ≡ (p, chain) = some_same (sym read ∙ (ap (slice_get items) (sym same) ∙ e)) in
        subst (λ (m : ℕ × List ℕ). IsListOf (past rows) c.args.certificate.now.inst c.args.certificate.now.kind c.args.certificate.now.initiator m.0 m.1) item
        (c.is_chain.ensures.lists rows h (c.loop-process.invariant.path rows h) c.if-not-is_chain.false)
    | inr other ↦ c.loop-process.invariant.lists rows i p chain (omega (arith, low, other)) h e
  ];
}

pub returns-clause-lists : goal.returns-clause-lists
returns-clause-lists c = λ rows h t i p chain e.
    let here = rw (← c.list-process-items.ensures) at e in
    c.loop-process.invariant.lists rows i p chain (omega (arith, slice_get_within c.list-process-items.result.now i _ here, c.loop-process-test.false)) h here

pub returns-clause-exact : goal.returns-clause-exact
returns-clause-exact c = λ rows h l. (
  λ t i p chain e.
      let here = rw (← c.list-process-items.ensures) at e in
      c.loop-process.invariant.lists rows i p chain (omega (arith, slice_get_within c.list-process-items.result.now i _ here, c.loop-process-test.false)) h here,
  λ lists. refl,
)

pub returns-then-not-is_chain-clause-exact : goal.returns-then-not-is_chain-clause-exact
returns-then-not-is_chain-clause-exact c = λ rows h l. (
  λ t. absurd (never t),
  λ lists.
      let items = c.list-process-items.result.now in
      let read = slice_get_read items (length items) c.loop-process.process-index c.loop-process-item.result refl c.loop-process-test.true c.loop-process-item.is in
      let there = rw c.list-process-items.ensures at read in
      let is = (c.is_chain.ensures.exact rows h (c.loop-process.invariant.path rows h) l).1 (lists c.loop-process.process-index c.loop-process-item.result.0 c.loop-process-item.result.1 there) in
      absurd (never (sym c.if-not-is_chain.true ∙ is)),
)
