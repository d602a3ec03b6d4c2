use Rattle.std.proofs.Common.{refl, inl}
use Rattle.kt_meaning.proofs.DecidedLogs.{promised_well}
use Rattle.kt_meaning.proofs.promised.certificates_of_promised_logs.Goals as goal

pub returns-clause-certified : goal.returns-clause-certified
returns-clause-certified c = λ log h.
    let passed = c.certificates_of_well_decided_logs.ensures.passed log (promised_well log h) in
    record {
      certified = λ f. c.certificates_of_well_decided_logs.ensures.certified log f (promised_well log h);
      passed = passed;
      answer = inl (refl, passed);
    }

pub returns-clause-yes : goal.returns-clause-yes
returns-clause-yes c = λ log v h. c.certificates_of_well_decided_logs.ensures.yes log v (promised_well log h)
