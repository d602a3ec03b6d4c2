use Rattle.std.proofs.Common.{◌≡◌, true, false, Some, length, sym, ap, subst, ◌∙◌}
use Rattle.std.specs.List.{slice_get}
use Rattle.std.proofs.lemmas.Option.{slice_get-get_or, slice_get_within}
use Rattle.kt_checker.specs.Judged.{IsFirstOfInstance}
use Rattle.kt_checker.proofs.FirstPlaces.{first_of}
use Rattle.kt_checker.proofs.judge.Judge.first_certificate.Goals as goal

pub returns-in_default : goal.returns-in_default
returns-in_default c = λ firsts i certificate at.
    let certificates = c.args.certificates.now in
    let none = subst (IsFirstOfInstance certificates (length certificates) c.args.inst) c.in_default.is (c.get.ensures certificates firsts) in
    none i certificate (slice_get_within certificates i certificate at) at

pub returns-in_default-get : goal.returns-in_default-get
returns-in_default-get c = λ firsts.
    let certificates = c.args.certificates.now in
    let first = subst (IsFirstOfInstance certificates (length certificates) c.args.inst) c.in-Some.is (c.get.ensures certificates firsts) in
    let never : false ≡ true = rw c.in_default-get.is at (c.get-2.ensures.lookup.2 first.3) in
    absurd (cc)

pub returns : goal.returns
returns c = λ firsts.
    let certificates = c.args.certificates.now in
    let certificate = c.in-Some-get.certificate.now in
    let place = c.in-Some.place in
    let first = subst (IsFirstOfInstance certificates (length certificates) c.args.inst) c.in-Some.is (c.get.ensures certificates firsts) in
    let looked : slice_get certificates place ≡ Some certificate = slice_get-get_or certificates place certificate first.3 ∙ ap Some (sym c.in-Some-get.ensures.lookup.1) in
    first_of certificates c.args.inst place (Some certificate) (sym looked) first
