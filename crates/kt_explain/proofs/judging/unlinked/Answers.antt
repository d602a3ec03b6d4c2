use Rattle.std.proofs.Common.{Option, Some, sym, subst}
use Rattle.kt_spacetime.specs.declared.unfit.Unfit.{Unfit}
use Rattle.kt_explain.specs.Judging.{IsBasis, IsUnlinkedOr}
use Rattle.kt_explain.proofs.Bases.{broken_judging}
use Rattle.kt_explain.proofs.judging.unlinked.Goals as goal

pub returns-in-None : goal.returns-in-None
returns-in-None c = λ rows named list basis. subst (λ (o : Option Unfit). IsBasis rows named o list) c.in-None.is basis

pub returns-in-BadLog : goal.returns-in-BadLog
returns-in-BadLog c = λ rows named list basis.
    let basis = subst (λ (o : Option Unfit). IsBasis rows named o list) c.in-Some.is basis in
    broken_judging rows named c.in-BadLog.field-0 c.in-BadLog.field-1 list (subst (λ (w : Unfit). IsBasis rows named (Some w) list) c.in-BadLog.is basis)

pub returns-in-NoChain : goal.returns-in-NoChain
returns-in-NoChain c = λ rows named list basis.
    let basis = subst (λ (o : Option Unfit). IsBasis rows named o list) c.in-Some.is basis in
    subst (λ (w : Unfit). IsUnlinkedOr rows named (Some w) list) (sym c.in-NoChain.is) (subst (λ (w : Unfit). IsBasis rows named (Some w) list) c.in-NoChain.is basis)
