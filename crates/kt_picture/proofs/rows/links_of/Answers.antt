use Rattle.std.proofs.Common.{◌≡◌, ◌∙◌, ℕ, suc, Option, Some, None, List, length, get_or, cond, sym, ap, refl, arith}
use Rattle.std.specs.List.{slice_get}
use Rattle.std.specs.Option.{option_or}
use Rattle.std.proofs.lemmas.Option.{slice_get_read}
use Rattle.kt_meaning.proofs.Items.{written}
use Rattle.kt_picture.specs.Evidence.{has_chained}
use Rattle.kt_picture.proofs.LinkFacts.{chained_more}
use Rattle.kt_picture.proofs.rows.links_of.Goals as goal

pub loop-certificate-preserved : goal.loop-certificate-preserved
loop-certificate-preserved c =
    let certificates = c.args.certificates.now in
    let i = c.loop-certificate.certificate-index in
    let item = c.certificate-item.result in
    let at : slice_get certificates i ≡ Some item = slice_get_read certificates (length certificates) i item refl c.loop-certificate-test.true c.certificate-item.is in
    let old = c.loop-certificate.noted.items in
    let new = c.note_certificate.new.noted in
    let value = c.deref_mut.ensures.value in
    let few : length new ≡ length old = c.note_certificate.ensures.few ∙ ap length value in
    let all : length new ≡ c.loop-certificate.noted.len = few ∙ sym c.loop-certificate.noted.ok.0 in
    let same = written c.loop-certificate.noted.len new old all in
    record {
      few = ap length same ∙ (few ∙ c.loop-certificate.invariant.few);
      noted = λ n l.
          ap (λ (xs : List (Option ℕ)). get_or xs n None) same
          ∙ c.note_certificate.ensures.noted n (omega (arith, l, ap length value, c.loop-certificate.invariant.few))
          ∙ ap (λ (xs : List (Option ℕ)). option_or (get_or xs n None) (cond (has_chained (suc n) item) (Some item.inst) None)) value
          ∙ ap (λ (o : Option ℕ). option_or o (cond (has_chained (suc n) item) (Some item.inst) None)) (c.loop-certificate.invariant.noted n l)
          ∙ sym (chained_more certificates i (suc n) item at);
    }
