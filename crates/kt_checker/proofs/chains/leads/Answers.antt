use Rattle.std.proofs.Common.{[], ◌∷◌, sym, subst, ◌∙◌, arith}
use Rattle.kt_meaning.specs.Past.{past}
use Rattle.kt_meaning.proofs.Items.{some_same}
use Rattle.kt_meaning.specs.Passing.{IsChain}
use Rattle.kt_rules.proofs.Traced.{never}
use Rattle.kt_checker.proofs.Links.{received_link, within_new, new_beyond, at_most_from, is_at_most}
use Rattle.kt_checker.proofs.chains.leads.Goals as goal

pub returns-in_default : goal.returns-in_default
returns-in_default c = λ rows h. (
  λ t. absurd (never t),
  λ chain.
      let there = subst (λ kind. IsChain (past rows) c.args.certificate.now.inst kind c.args.at (c.args.msg ∷ []) c.args.next) c.in-Checkpoint.is chain in
      absurd (c.in_default.ensures.none rows h (received_link (past rows) c.args.certificate.now.inst c.args.at c.args.msg c.args.next there)),
)

pub returns-in-Some-position : goal.returns-in-Some-position
returns-in-Some-position c = λ rows h.
    let k = c.args.certificate.now.inst in
    let found = c.in-Some.ensures.found rows h in
    let new = sym (c.position.ensures rows h) ∙ c.in-Some-position.is in (
      λ t.
          let step = within_new (past rows) k c.args.at c.args.msg c.args.next c.in-Some.received c.in-Some-position.position found.0 found.1 new (at_most_from c.in-Some.received c.in-Some-position.position t) in
          subst (λ kind. IsChain (past rows) k kind c.args.at (c.args.msg ∷ []) c.args.next) (sym c.in-Checkpoint.is) step,
      λ chain.
          let there = subst (λ kind. IsChain (past rows) k kind c.args.at (c.args.msg ∷ []) c.args.next) c.in-Checkpoint.is chain in
          let beyond = new_beyond rows k c.args.at c.args.msg c.args.next c.in-Some.received h.control.legal there found.1 in
          let same = some_same (sym new ∙ beyond.1) in
          is_at_most c.in-Some.received c.in-Some-position.position (omega (arith, same, beyond.2)),
    )
