use Rattle.std.proofs.Common.{◌≡◌, ℕ, None, [], ◌∷◌, ◌++◌, is_some, true, false, sym, ap, subst, ◌∙◌}
use Rattle.kt_spacetime.specs.declared.event.Event.TheVariants as event
use Rattle.kt_meaning.specs.Past.{past}
use Rattle.kt_meaning.specs.Legal.{broken_rule}
use Rattle.kt_meaning.proofs.LegalLogs.{kept, legal_last}
use Rattle.kt_walk.specs.WalkOf.{WalkOf}
use Rattle.kt_walk.specs.WalkParts.{WalkParts}
use Rattle.kt_walk.proofs.ArrivalFacts.{ok_gives}
use Rattle.kt_walk.proofs.WalkMessages.{found_number}
use Rattle.kt_walk.proofs.walk.Walk.drop_legal.Goals as goal

pub returns-in-Some-clause-fed : goal.returns-in-Some-clause-fed
returns-in-Some-clause-fed c = ok_gives c.drop_message.result _ _ (λ fed rows h legal.
    let same = found_number c.args.msg c.find.result (c.in-Some.index, c.in-Some.message) c.find.ensures.number c.in-Some.is in
    let unbroken = (legal_last rows (event.Dropped c.args.p c.args.from c.args.msg) legal).1 in
    subst (λ (m : ℕ). WalkOf c.drop_message.new.self (rows ++ event.Dropped c.args.p c.args.from m ∷ [])) same
    (fed rows h (subst (λ (m : ℕ). broken_rule (past rows) (event.Dropped c.args.p c.args.from m) ≡ None) (sym same) unbroken))) c.drop_message.ensures.fed

pub returns-in-None-clause-fed : goal.returns-in-None-clause-fed
returns-in-None-clause-fed c = λ rows h legal.
    let here = subst (λ (w : WalkParts). WalkOf w rows) (sym c.self.view_is) h in
    let row = event.Dropped c.args.p c.args.from c.args.msg in
    let found : is_some c.find.result ≡ true = c.find.ensures.is (past rows) here.messages ∙ (kept (past rows) row (legal_last rows row legal).1).message in
    let missed : is_some c.find.result ≡ false = ap is_some c.in-None.is in
    absurd (cc (found, missed))
