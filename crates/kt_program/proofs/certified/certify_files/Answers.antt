use Rattle.std.proofs.Common.{List, ℕ, subst, sym}
use Rattle.kt_program.specs.Certified.{IsTextOfCertificates}
use Rattle.kt_program.proofs.StoredLogs.{certified_to, left}
use Rattle.kt_program.proofs.certified.certify_files.Goals as goal

pub returns-clause-certified : goal.returns-clause-certified
returns-clause-certified g c =
    let told = g.F.File.Read.remaining in
    let file = c.in_ok-log.log.source in
    certified_to told c.args.cert c.as_slice.result.now (g.O.Write.contents c.args.out.now) (g.O.Write.contents c.deliver.new.out) file
    (subst (λ (t : List ℕ). IsTextOfCertificates (told file) t) (sym c.as_slice.ensures.value) c.in_ok-text.ensures.text) c.deliver.result c.deliver.ensures.output

pub returns-clause-output : goal.returns-clause-output
returns-clause-output g c =
    let told = g.F.File.Read.remaining in
    let file = c.in_ok-log.log.source in
    left told c.args.cert c.as_slice.result.now (g.O.Write.contents c.args.out.now) (g.O.Write.contents c.deliver.new.out) file
    (subst (λ (t : List ℕ). IsTextOfCertificates (told file) t) (sym c.as_slice.ensures.value) c.in_ok-text.ensures.text) c.deliver.result c.deliver.ensures.output c.deliver.ensures.kept
