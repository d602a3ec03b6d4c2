use Rattle.std.proofs.Common.{◌∙◌, Option, sym, ap}
use Rattle.std.specs.Prelude.{option_map}
use Rattle.kt_meaning.specs.Past.{Beginning, Past, initiator_of}
use Rattle.kt_meaning.specs.Legal.{is_instance}
use Rattle.kt_histories.proofs.Demands.{from_not, from_not_false, judged_by}
use Rattle.kt_histories.proofs.breach.before.Before.initiator.Goals as goal

pub returns : goal.returns
returns c =
    let known = ap (λ (o : Option Beginning). option_map (λ b. b.initiator) o) c.in-Some.ensures.known in
    judged_by c.args.self.now.rows.now (λ (s : Past). is_instance (initiator_of s c.args.inst) c.args.p) _ c.ne.result c.then_some.result c.then_some.ensures
    (λ e. record {
      so = (known, _, c.in-Some.ensures.row);
      against = λ log legal so. ap (λ o. is_instance o c.args.p) so.0 ∙ from_not _ (sym c.ne.ensures ∙ e);
    })
    (λ e. ap (λ o. is_instance o c.args.p) known ∙ from_not_false _ (sym c.ne.ensures ∙ e))
