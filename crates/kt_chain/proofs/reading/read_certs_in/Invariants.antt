use Rattle.std.proofs.Common.{◌-◌}
use Rattle.kt_text.specs.Records.{left_in}
use Rattle.kt_chain.specs.Reading.{GathersCertificates}
use Rattle.kt_chain.proofs.reading.read_certs_in.Given as goal

abbrev pub invariant-loop-certificates : goal.invariant-loop-certificates
invariant-loop-certificates g l = GathersCertificates g.R.Read.remaining (left_in g.R.Read.remaining l.fn.records) l.records l.count l.certificates.items

abbrev pub decreases-loop-certificates : goal.decreases-loop-certificates
decreases-loop-certificates g l = 524289 - l.count
