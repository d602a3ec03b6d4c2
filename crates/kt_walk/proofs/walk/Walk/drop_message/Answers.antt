use Rattle.std.proofs.Common.{sym, subst}
use Rattle.kt_walk.specs.WalkOf.{WalkOf}
use Rattle.kt_walk.specs.WalkParts.{WalkParts}
use Rattle.kt_walk.proofs.WalkMessages.{drops_message}
use Rattle.kt_walk.proofs.walk.Walk.drop_message.Goals as goal

pub returns-clause-fed : goal.returns-clause-fed
returns-clause-fed c = λ rows h unbroken.
    let here = subst (λ (w : WalkParts). WalkOf w rows) (sym c.self.view_is) h in
    record {
      control = c.drop_message-2.ensures rows here.control unbroken;
      messages = drops_message _ _ rows c.args.p c.args.from c.args.message.msg c.in_ok-drop_message.ensures.ok here.control.legal here.messages;
    }
