use Rattle.std.proofs.lemmas.Bool.Decides.{Decides-eqb}
use Rattle.std.proofs.lemmas.Slice.Eq.{slice_eq-Decides}
use Rattle.kt_explain.proofs.compared.is_same_chain.Goals as goal

pub returns : goal.returns
returns c = slice_eq-Decides Decides-eqb c.args.here.now c.args.there.now c.eq.result c.eq.ensures
