use Rattle.worked_runs.proofs.Verdicts.{passes_if_yes}
use Rattle.worked_runs.proofs.judging.passes.Goals as goal

pub returns : goal.returns
returns g c = passes_if_yes _ c.args.certificates.now c.in_ok-verdict.verdict c.is_yes.result c.is_yes.ensures c.in_ok-verdict.ensures.yes
