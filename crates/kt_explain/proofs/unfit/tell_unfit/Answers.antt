use Rattle.kt_explain.proofs.Bases.{unfit_told}
use Rattle.kt_explain.proofs.unfit.tell_unfit.Goals as goal

pub returns : goal.returns
returns c = record {
  told = unfit_told c.args.log.now.rows c.args.why c.in_ok-explanation.explanation c.in_ok-explanation.ensures.broken c.in_ok-explanation.ensures.unlinked;
}
