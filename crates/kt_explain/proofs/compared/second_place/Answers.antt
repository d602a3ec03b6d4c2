use Rattle.std.proofs.Common.{ℕ, Option, sym, subst}
use Rattle.std.specs.Prelude.{IfNone, IfSome}
use Rattle.kt_explain.specs.Compared.{IsAlone, IsSecondAt}
use Rattle.kt_explain.proofs.Comparing.{second_found, second_lacks, none_alone}
use Rattle.kt_histories.proofs.Gives.{if_none}
use Rattle.kt_explain.proofs.compared.second_place.Goals as goal

pub returns : goal.returns
returns c =
    let list = c.args.certificates.now in
    let k = c.args.inst in
    let first = c.in_ok-first.field-0 in
    record {
      second = subst (λ (o : Option ℕ). IfSome c.place_from.result (IsSecondAt list k o)) (sym c.in_ok-first.was) (second_found list k first c.place_from.result c.place_from.ensures.found c.place_from.ensures.from);
      none = subst (λ (o : Option ℕ). IfNone c.place_from.result (IsAlone list k o)) (sym c.in_ok-first.was) (second_lacks list k first c.place_from.result c.place_from.ensures.none);
    }

pub returns-in_err-first-clause-none : goal.returns-in_err-first-clause-none
returns-in_err-first-clause-none c =
    if_none c.from_residual.result _ (subst (λ (o : Option ℕ). IsAlone c.args.certificates.now c.args.inst o) (sym c.in_err-first.was) (none_alone c.args.certificates.now c.args.inst))
