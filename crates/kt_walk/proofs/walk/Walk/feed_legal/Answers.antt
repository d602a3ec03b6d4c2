use Rattle.std.proofs.Common.{◌≡◌, None, [], ◌∷◌, ◌++◌, sym, subst}
use Rattle.kt_spacetime.specs.declared.event.Event.{Event}
use Rattle.kt_meaning.specs.Past.{past}
use Rattle.kt_meaning.specs.Legal.{IsLegal, broken_rule}
use Rattle.kt_meaning.proofs.LegalLogs.{legal_last}
use Rattle.kt_walk.specs.WalkOf.{WalkOf}
use Rattle.kt_walk.proofs.ArrivalFacts.{ok_gives}
use Rattle.kt_walk.proofs.walk.Walk.feed_legal.Goals as goal

pub returns-in-Sent-clause-fed : goal.returns-in-Sent-clause-fed
returns-in-Sent-clause-fed c = ok_gives c.send.result _ _ (λ fed rows h legal.
    let unbroken = subst (λ (row : Event). broken_rule (past rows) row ≡ None) c.in-Sent.is (legal_last rows c.args.row.now legal).1 in
    subst (λ (row : Event). WalkOf c.send.new.self (rows ++ row ∷ [])) (sym c.in-Sent.is) (fed rows c.in-Sent.body h unbroken)) c.send.ensures.fed

pub returns-in-Received-clause-fed : goal.returns-in-Received-clause-fed
returns-in-Received-clause-fed c = ok_gives c.receive_legal.result _ _ (λ fed rows h legal.
    subst (λ (row : Event). WalkOf c.receive_legal.new.self (rows ++ row ∷ [])) (sym c.in-Received.is)
    (fed rows h (subst (λ (row : Event). IsLegal (rows ++ row ∷ [])) c.in-Received.is legal))) c.receive_legal.ensures.fed

pub returns-in-Dropped-clause-fed : goal.returns-in-Dropped-clause-fed
returns-in-Dropped-clause-fed c = ok_gives c.drop_legal.result _ _ (λ fed rows h legal.
    subst (λ (row : Event). WalkOf c.drop_legal.new.self (rows ++ row ∷ [])) (sym c.in-Dropped.is)
    (fed rows h (subst (λ (row : Event). IsLegal (rows ++ row ∷ [])) c.in-Dropped.is legal))) c.drop_legal.ensures.fed

pub returns-in_default-clause-fed : goal.returns-in_default-clause-fed
returns-in_default-clause-fed c = ok_gives c.add.result _ _ (λ fed rows h legal. fed rows h (legal_last rows c.args.row.now legal).1) c.add.ensures.fed
