use Rattle.kt_explain.proofs.Comparing.{first_found}
use Rattle.kt_explain.proofs.compared.first_place.Goals as goal

pub returns : goal.returns
returns c = first_found c.args.certificates.now c.args.inst c.place_from.result c.place_from.ensures.found c.place_from.ensures.first c.place_from.ensures.none
