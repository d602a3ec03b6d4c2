use Rattle.std.proofs.Common.{◌≡◌, ℕ, is_some, true, None, [], ◌∷◌, ◌++◌, sym, ap, subst, ◌∙◌}
use Rattle.kt_spacetime.specs.declared.event.Event.TheVariants as event
use Rattle.kt_meaning.specs.Past.{past}
use Rattle.kt_meaning.specs.Legal.{broken_rule, is_undelivered}
use Rattle.kt_walk.specs.WalkOf.{WalkOf}
use Rattle.kt_walk.specs.WalkParts.{WalkParts}
use Rattle.kt_walk.proofs.WalkMessages.{found_number}
use Rattle.kt_walk.proofs.walk.Walk.feed_dropped.Goals as goal

pub returns-clause-fed : goal.returns-clause-fed
returns-clause-fed c = λ rows h.
    let here = subst (λ (w : WalkParts). WalkOf w rows) (sym c.self.view_is) h in
    let in_transit : is_undelivered (past rows) c.args.p c.args.from c.args.msg ≡ true = sym (c.find.ensures.is (past rows) here.messages) ∙ ap is_some c.in-Some.is in
    let unbroken : broken_rule (past rows) (event.Dropped c.args.p c.args.from c.args.msg) ≡ None = c.in_ok-test.ensures.unbroken rows h (sym in_transit) in
    let same = found_number c.args.msg c.find.result (c.in-Some.index, c.in-Some.message) c.find.ensures.number c.in-Some.is in
    let fed = subst (λ (m : ℕ). WalkOf c.drop_message.new.self (rows ++ event.Dropped c.args.p c.args.from m ∷ [])) same
    (c.in_ok-drop_message.ensures.fed rows h (subst (λ (m : ℕ). broken_rule (past rows) (event.Dropped c.args.p c.args.from m) ≡ None) (sym same) unbroken)) in
    (fed.control.legal, fed)
