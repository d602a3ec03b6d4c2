use Rattle.std.proofs.Common.{◌∙◌, sym, ap, subst, refl}
use Rattle.std.specs.Prelude.{Some, None}
use Rattle.std.specs.String.{string_bytes}
use Rattle.kt_plan.proofs.NameFacts.{looked_up, unreadable}
use Rattle.kt_plan.specs.Names.{AreNames}
use Rattle.kt_plan.proofs.names.Names.number_of.Goals as goal

pub returns-then-len-le-FEW : goal.returns-then-len-le-FEW
returns-then-len-le-FEW c = record {
  number = ap Some c.nth.ensures ∙ looked_up string_bytes c.self.inside.set.keys c.args.self.now c.args.word.now c.args.word.now (Some c.in_ok-number.number) c.self.view_is refl (rw c.as_slice.ensures.keys at c.in_ok-number.ensures.place);
}

pub returns-in_err-number : goal.returns-in_err-number
returns-in_err-number c = record {
  number = c.from_residual.ensures ∙ looked_up string_bytes c.self.inside.set.keys c.args.self.now c.args.word.now c.args.word.now None c.self.view_is refl (rw c.as_slice.ensures.keys at c.in_err-number.ensures.place);
}

pub returns-in_default : goal.returns-in_default
returns-in_default c = record {
  number = sym (unreadable c.args.self.now c.args.word.now (subst AreNames c.self.view_is c.self.invariant) c.in_default.ensures.cases.0);
}

pub returns-in_err-number-2 : goal.returns-in_err-number-2
returns-in_err-number-2 c = record {
  number = c.from_residual-in_err-number-2.ensures ∙ looked_up string_bytes c.self.inside.set.keys c.args.self.now c.in-Ok.text.now c.args.word.now None c.self.view_is c.in-Ok.ensures.cases.0 c.in_err-number-2.ensures.index;
}

pub returns : goal.returns
returns c = record {
  number = ap Some c.nth-2.ensures ∙ looked_up string_bytes c.self.inside.set.keys c.args.self.now c.in-Ok.text.now c.args.word.now (Some c.in_ok-number-2.number) c.self.view_is c.in-Ok.ensures.cases.0 c.in_ok-number-2.ensures.index;
}
