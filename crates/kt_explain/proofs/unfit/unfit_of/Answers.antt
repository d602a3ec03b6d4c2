use Rattle.std.proofs.Common.{subst}
use Rattle.kt_meaning.specs.Fitness.{IsWhyUnfit}
use Rattle.kt_explain.proofs.DecidedRows.{decided_somewhere, unfit_at}
use Rattle.kt_explain.proofs.unfit.unfit_of.Goals as goal

pub returns-in-Some : goal.returns-in-Some
returns-in-Some c = record {
  why = unfit_at c.args.rows.now c.in-NoChain.inst c.in-NoChain.p c.in-Some.row (subst (IsWhyUnfit c.args.rows.now) c.in-NoChain.is c.requires.unfit) c.in-Some.ensures;
}

pub unreachable-requires : goal.unreachable-requires
unreachable-requires c =
    decided_somewhere c.args.rows.now c.in-NoChain.inst c.in-NoChain.p (subst (IsWhyUnfit c.args.rows.now) c.in-NoChain.is c.requires.unfit) c.in-None.ensures
