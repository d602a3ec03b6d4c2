use Rattle.std.proofs.Common.{◌≡◌, not, true, Some, None, sym, ap, subst, ◌∙◌}
use Rattle.kt_meaning.specs.Past.{past, kind_of}
use Rattle.kt_meaning.specs.Throughout.{LeavesConsistent}
use Rattle.kt_checker.specs.Gathered.{IsFoundFirst}
use Rattle.kt_rules.proofs.Traced.{never}
use Rattle.kt_checker.proofs.FirstPlaces.{none_of}
use Rattle.kt_checker.proofs.Judging.{decisions_more, leaves_of}
use Rattle.kt_checker.proofs.judge.Judge.stays_consistent.Goals as goal

pub returns-in_default : goal.returns-in_default
returns-in_default c = λ rows h found t. decisions_more rows c.args.row.now (h.consistent t) (λ p k is. absurd (c.in_default.not-Decided _ _ _ is))

pub returns-then-not-commit : goal.returns-then-not-commit
returns-then-not-commit c = λ rows h found t. decisions_more rows c.args.row.now (h.consistent c.if-self.true) (λ p k is.
    let same : c.in-Decided.commit ≡ true = cc in
    absurd (never (sym (ap not same) ∙ t)))

pub returns-then-is_none : goal.returns-then-is_none
returns-then-is_none c = λ rows h found t.
    let certificates = c.args.certificates.now in
    let claim = c.is_of_its_kind.ensures rows h t in
    let none : c.args.fault ≡ None = none_of c.args.fault c.if-is_none.ensures in
    decisions_more rows c.args.row.now (h.consistent c.if-self.true) (λ p k is.
    let number : c.in-Decided.inst ≡ k = cc in
    let inst : claim.1.inst ≡ k = claim.3 ∙ number in
    let of_kind = subst (λ j. kind_of (past rows) j ≡ Some claim.1.kind) (sym claim.3) claim.5 in
    let nothing = subst (λ j. IsFoundFirst certificates rows j true None) (sym inst) (subst (IsFoundFirst certificates rows k true) none (found p k true is)) in
    subst (LeavesConsistent (past rows)) inst (leaves_of certificates rows claim.0 claim.1 h.walk.control.legal claim.2 claim.4 of_kind nothing))
