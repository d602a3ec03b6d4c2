use Rattle.std.proofs.Common.{◌≡◌, true, ◌++◌, ◌∷◌, [], Some, None, length, sym, ap, ◌∙◌, subst}
use Rattle.std.specs.Option.{option_copied}
use Rattle.std.proofs.lemmas.Option.{slice_get_within}
use Rattle.kt_spacetime.specs.declared.event.Event.{Event}
use Rattle.kt_rules.specs.Standing.{at_number}
use Rattle.kt_meaning.specs.Past.{past}
use Rattle.kt_meaning.specs.Legal.{IsLegal, is_undecided}
use Rattle.kt_checker.specs.Judged.{IsFirstCertificate}
use Rattle.kt_checker.specs.Gathered.{IsFinding}
use Rattle.kt_checker.proofs.Judging.{found_of, decided_begun, undecided_before}
use Rattle.kt_checker.proofs.judge.Judge.fault_at.Goals as goal

pub returns-in_default-get : goal.returns-in_default-get
returns-in_default-get c = λ rows p k commit h l is.
    let number : c.in-Decided.inst ≡ k = cc in
    let list = c.args.self.now.instances.list.items in
    let there = decided_begun list rows p k commit h.gathered (subst (λ (x : Event). IsLegal (rows ++ x ∷ [])) is l) in
    let none : at_number list k ≡ None = ap (at_number list) (sym number) ∙ (sym c.get.ensures ∙ ap option_copied c.in_default-get.is) in
    absurd (cc)

pub returns-in_default-first_certificate : goal.returns-in_default-first_certificate
returns-in_default-first_certificate c = λ rows p k commit h l is i v at inst first.
    let number : c.in-Decided.inst ≡ k = cc in
    let none = subst (IsFirstCertificate c.args.certificates.now c.in-Decided.inst) (ap option_copied c.in_default-first_certificate.is) (c.first_certificate.ensures h.firsts) in
    absurd (none i v at (inst ∙ sym number))

pub returns : goal.returns
returns c = λ rows p k commit h l is.
    let number : c.in-Decided.inst ≡ k = cc in
    let same : c.in-Decided.commit ≡ commit = cc in
    let certificates = c.args.certificates.now in
    let certificate = c.in-Some-first_certificate.certificate.now in
    let instance = c.in-Some.instance.now in
    let list = c.args.self.now.instances.list.items in
    let first = subst (IsFirstCertificate certificates c.in-Decided.inst) (ap option_copied c.in-Some-first_certificate.is) (c.first_certificate.ensures h.firsts) in
    let there : at_number list k ≡ Some instance = ap (at_number list) (sym number) ∙ (sym c.get.ensures ∙ ap option_copied c.in-Some.is) in
    let inst : certificate.inst ≡ k = first.2 ∙ number in
    let undecided = subst (λ j. is_undecided (past rows) j ≡ true) (sym inst) (undecided_before rows p k commit (subst (λ (x : Event). IsLegal (rows ++ x ∷ [])) is l)) in
    let finding = subst (λ b. IsFinding (past rows) instance.members.items instance.refused b certificate c.fault_in.result) same (c.fault_in.ensures rows h.walk h.consistent undecided) in
    found_of list rows k instance commit c.fault_in.result certificate (length certificates) first.0 h.gathered there (certificate, first.1, inst, slice_get_within certificates first.0 certificate first.1, first.3) first.1 finding
