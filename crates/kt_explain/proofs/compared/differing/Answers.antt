use Rattle.kt_explain.proofs.compared.differing.Goals as goal

pub returns-in-Some-clause-differ : goal.returns-in-Some-clause-differ
returns-in-Some-clause-differ c = rw (c.certificate_at-here.ensures, c.certificate_at-there.ensures) at c.in-Some.ensures.differ
