use Rattle.std.proofs.lemmas.Result.{IfOk-weaker, IfErr-weaker}
use Rattle.kt_chain.specs.Texts.{IsCertText, IsFirstCertificateFault}
use Rattle.kt_chain.proofs.GatherFacts.{of_bytes}
use Rattle.kt_chain.proofs.reading.read_certs.Goals as goal

pub returns-clause-found : goal.returns-clause-found
returns-clause-found g c =
    IfOk-weaker c.read_certs_in.result _ _ (λ list h. of_bytes (g.R.Read.remaining c.args.reader) (λ text. IsCertText text list.items) h) (rw c.in_ok-records.ensures.text at (rw c.deref_mut.ensures.value at c.read_certs_in.ensures.found))

pub returns-clause-fault : goal.returns-clause-fault
returns-clause-fault g c =
    IfErr-weaker c.read_certs_in.result _ _ (λ e h. of_bytes (g.R.Read.remaining c.args.reader) (λ text. IsFirstCertificateFault text e) h) (rw c.in_ok-records.ensures.text at (rw c.deref_mut.ensures.value at c.read_certs_in.ensures.fault))
