use Rattle.std.proofs.lemmas.Result.{err_from_is_err_and}
use Rattle.kt_chain.specs.declared.fault.CertTextFault.TheVariants as cert
use Rattle.kt_program.specs.Stored.{certificates_told}
use Rattle.kt_program.proofs.Unread.{no_certificates}
use Rattle.kt_program.proofs.stored.read_certificates.Goals as goal

pub returns-in_err-records-clause-fault : goal.returns-in_err-records-clause-fault
returns-in_err-records-clause-fault g c =
    let p = err_from_is_err_and c.from_residual.result c.from_residual.ensures.1 in
    rw p.1 (cert.Memory, p.2, no_certificates (certificates_told (g.C.Read.remaining c.args.cert.source)))
