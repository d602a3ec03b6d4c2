use Rattle.std.proofs.Common.{◌≡◌, Some, sym, ap, subst, ◌∙◌}
use Rattle.std.specs.Option.{option_copied}
use Rattle.kt_rules.specs.Standing.{at_number}
use Rattle.kt_checker.specs.Judged.{IsFirstCertificate}
use Rattle.kt_checker.proofs.Judging.{kind_gathered}
use Rattle.kt_checker.proofs.judge.Judge.is_of_its_kind.Goals as goal

pub returns : goal.returns
returns c = λ rows h t.
    let certificates = c.args.certificates.now in
    let instance = c.in-Some.instance.now in
    let list = c.args.self.now.instances.list.items in
    let first = subst (IsFirstCertificate certificates c.args.inst) (ap option_copied c.in-Some-first_certificate.is) (c.first_certificate.ensures h.firsts) in
    let there : at_number list c.args.inst ≡ Some instance = sym c.get.ensures ∙ ap option_copied c.in-Some.is in
    let kind : instance.kind ≡ c.in-Some-first_certificate.certificate.now.kind = c.has_kind_of.ensures t in
    (first.0, c.in-Some-first_certificate.certificate.now, first.1, first.2, first.3, kind_gathered list rows c.args.inst instance h.gathered there ∙ ap Some kind)
