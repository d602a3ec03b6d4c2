use Rattle.std.proofs.Common.{◌∙◌, List, refl, subst}
use Rattle.kt_spacetime.specs.declared.certificate.Certificate.{Certificate}
use Rattle.kt_explain.specs.Compared.{AreAlike, IsDifference, IsFirstAt, asks_all, asks_chains, certificate_at}
use Rattle.kt_explain.proofs.Comparing.{first_within, nothing_alike}
use Rattle.kt_explain.proofs.compared.beside.Goals as goal

pub differing-requires : goal.differing-requires
differing-requires c = record { has = first_within c.args.certificates.now c.args.inst c.first_place-has.result c.first_place-has.ensures }

pub returns-in-Some : goal.returns-in-Some
returns-in-Some c = (
  record { row = c.args.row; reason = c.args.why; verdict_is = refl; of_certificate = c.requires.of_certificate },
  record {
    meant = c.requires.meant;
    has = c.first_place-has.ensures;
    means = subst (λ (l : List Certificate). IsFirstAt l c.args.inst c.first_place-means.result) c.as_slice.ensures.value c.first_place-means.ensures;
    differs = subst (λ (l : List Certificate). IsDifference c.args.certificates.now c.args.inst c.first_place-has.result l c.first_place-means.result c.in-Some.differs) c.as_slice-2.ensures.value c.in-Some.ensures.differ;
  },
)

pub returns-in-None : goal.returns-in-None
returns-in-None c =
    let list = c.args.certificates.now in
    let laws = c.certificates_of_legal_logs.ensures in
    absurd (nothing_alike c.args.log.now.rows list c.args.inst c.args.row c.first_place-has.result c.first_place-means.result
    (record { complete = laws.complete; stated = laws.stated; listed = laws.listed; chains = laws.chains }) c.requires.chained c.first_place-has.ensures
    (subst (λ (l : List Certificate). IsFirstAt l c.args.inst c.first_place-means.result) (c.as_slice.ensures.value ∙ c.requires.meant) c.first_place-means.ensures)
    c.args.why c.requires.of_certificate c.requires.answer
    (subst (λ (l : List Certificate). AreAlike (asks_all c.args.why) (asks_chains c.args.why) (certificate_at list c.first_place-has.result) (certificate_at l c.first_place-means.result)) (c.as_slice-2.ensures.value ∙ c.requires.meant) c.in-None.ensures.alike)
    c.in-None.ensures.alone)
