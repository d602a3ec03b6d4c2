use Rattle.std.proofs.lemmas.Bool.Decides.{Decides-eqb}
use Rattle.std.proofs.lemmas.Slice.Eq.{strip_prefix_is}
use Rattle.kt_merge.proofs.NameFacts.{on_some, on_none}
use Rattle.kt_merge.proofs.names.after.Goals as goal

pub returns-clause-found : goal.returns-clause-found
returns-clause-found c = on_some c.strip_prefix.result _ _ (strip_prefix_is Decides-eqb c.args.text.now c.args.beginning.now c.strip_prefix.result c.strip_prefix.ensures.cases)

pub returns-clause-none : goal.returns-clause-none
returns-clause-none c = on_none c.strip_prefix.result _ _ (strip_prefix_is Decides-eqb c.args.text.now c.args.beginning.now c.strip_prefix.result c.strip_prefix.ensures.cases)
