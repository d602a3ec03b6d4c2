use Rattle.std.proofs.Common.{refl, sym, subst, ◌∙◌, [], ◌∷◌}
use Rattle.kt_meaning.specs.Past.{past}
use Rattle.kt_meaning.specs.Passing.{IsChain}
use Rattle.kt_checker.proofs.Chaining.{chain_more}
use Rattle.kt_rules.proofs.Traced.{never}
use Rattle.kt_checker.proofs.Links.{one_end, list_of_other, ending}
use Rattle.kt_meaning.proofs.Links.{other_from}
use Rattle.kt_checker.proofs.Following.{path_pushed}
use Rattle.kt_checker.proofs.chains.is_chain.Goals as goal

pub returns-in_default-follow-clause-exact : goal.returns-in_default-follow-clause-exact
returns-in_default-follow-clause-exact c = λ rows h path l. (
  λ t. absurd (never t),
  λ list.
      let certificate = c.args.certificate.now in
      let earlier = c.in-Some.earlier.now in
      let parts = sym c.messages-2.ensures ∙ c.in-Some.ensures.cases.0 in
      let whole = subst (λ chain. IsChain (past rows) certificate.inst certificate.kind certificate.initiator chain c.args.process) parts (list.leads (other_from c.args.process certificate.initiator c.if-eq.ensures)) in
      let last = ending (past rows) certificate.inst certificate.kind certificate.initiator earlier c.in-Some.last.now c.args.process whole in
      absurd (c.in_default-follow.ensures.none rows last.0 h path l last.1),
)

pub returns-then-not-leads-clause-exact : goal.returns-then-not-leads-clause-exact
returns-then-not-leads-clause-exact c = λ rows h path l. (
  λ t. absurd (never t),
  λ list.
      let certificate = c.args.certificate.now in
      let earlier = c.in-Some.earlier.now in
      let parts = sym c.messages-2.ensures ∙ c.in-Some.ensures.cases.0 in
      let whole = subst (λ chain. IsChain (past rows) certificate.inst certificate.kind certificate.initiator chain c.args.process) parts (list.leads (other_from c.args.process certificate.initiator c.if-eq.ensures)) in
      let last = ending (past rows) certificate.inst certificate.kind certificate.initiator earlier c.in-Some.last.now c.args.process whole in
      let same = one_end rows certificate.inst certificate.kind certificate.initiator earlier last.0 c.in-Some-follow.at l last.1 (c.in-Some-follow.ensures.found rows h path) in
      absurd (never (sym c.if-not-leads.true ∙ (c.leads.ensures rows h).1 (subst (λ x. IsChain (past rows) certificate.inst certificate.kind x (c.in-Some.last.now ∷ []) c.args.process) same last.2))),
)

pub returns-clause-lists : goal.returns-clause-lists
returns-clause-lists c = λ rows h path t.
    let certificate = c.args.certificate.now in
    let earlier = c.in-Some.earlier.now in
    let other = other_from c.args.process certificate.initiator c.if-eq.ensures in
    let led = c.in-Some-follow.ensures.found rows h path in
    let whole = chain_more (past rows) certificate.inst certificate.kind certificate.initiator c.in-Some-follow.at c.args.process c.in-Some.last.now earlier led ((c.leads.ensures rows h).0 c.if-not-leads.false) in
    let parts = sym c.messages-2.ensures ∙ c.in-Some.ensures.cases.0 in
    list_of_other (past rows) certificate.inst certificate.kind certificate.initiator c.args.process c.args.chain.now other
    (subst (λ chain. IsChain (past rows) certificate.inst certificate.kind certificate.initiator chain c.args.process) (sym parts) whole)

pub returns-clause-exact : goal.returns-clause-exact
returns-clause-exact c = λ rows h path l. (λ t. returns-clause-lists c rows h path t, λ list. refl)

pub returns-clause-path : goal.returns-clause-path
returns-clause-path c = λ rows h path t.
    path_pushed (past rows) c.args.certificate.now c.follow.new.path c.push.new.self c.in-Some.earlier.now (record { msg = c.in-Some.last.now; to = c.args.process }) c.in-Some-follow.at c.push.ensures.room c.push.ensures.full
    (c.in-Some-follow.ensures.path rows h path) c.in-Some-follow.ensures.path_of (c.in-Some-follow.ensures.found rows h path) ((c.leads.ensures rows h).0 c.if-not-leads.false)
