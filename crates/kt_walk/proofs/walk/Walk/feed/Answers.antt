use Rattle.std.proofs.Common.{◌≡◌, None, [], ◌∷◌, ◌++◌, refl, sym, subst, ◌∙◌}
use Rattle.kt_spacetime.specs.declared.event.Event.{Event}
use Rattle.kt_spacetime.specs.declared.event.Event.TheVariants as event
use Rattle.kt_meaning.specs.Past.{past}
use Rattle.kt_meaning.specs.Legal.{IsLegal, broken_rule}
use Rattle.kt_walk.specs.WalkOf.{WalkOf}
use Rattle.kt_walk.specs.WalkParts.{WalkParts}
use Rattle.kt_meaning.proofs.RowRules.{none_from}
use Rattle.kt_walk.proofs.walk.Walk.feed.Goals as goal
use Rattle.kt_walk.proofs.walk.Walk.feed.Goals.{then-not-may_send+in_ok-test-in-Sent, else-not-may_send}

pub returns-in_ok-send-in-Sent-clause-fed : goal.returns-in_ok-send-in-Sent-clause-fed
returns-in_ok-send-in-Sent-clause-fed c = λ rows h.
    let here = subst (λ (w : WalkParts). WalkOf w rows) (sym c.self.view_is) h in
    let row = event.Sent c.in-Sent.p c.in-Sent.to c.in-Sent.body in
    let unbroken : broken_rule (past rows) row ≡ None = elim c.if-not-may_send.branch [
      | then-not-may_send+in_ok-test-in-Sent w ↦ subst (λ (x : Event). broken_rule (past rows) x ≡ None) c.in-Sent.is (w.in_ok-test-in-Sent.ensures.unbroken rows h (rw c.in-Sent.is refl))
      | else-not-may_send w ↦ none_from _ (sym (c.may_send.ensures rows c.in-Sent.body here.control) ∙ w.if-not-may_send.false)
    ] in
    let fed = c.in_ok-send-in-Sent.ensures.fed rows c.in-Sent.body h unbroken in
    subst (λ (x : Event). IsLegal (rows ++ x ∷ []) × WalkOf c.send.new.self (rows ++ x ∷ [])) (sym c.in-Sent.is) (fed.control.legal, fed)
