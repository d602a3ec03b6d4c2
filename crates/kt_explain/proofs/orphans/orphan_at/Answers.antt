use Rattle.std.proofs.Common.{◌≡◌, ◌-◌, ◌+◌, ℕ, Option, take, refl, subst, ap, ◌∙◌, arith}
use Rattle.kt_meaning.specs.Past.{past, kind_of}
use Rattle.std.specs.Prelude.{IfNone}
use Rattle.kt_meaning.specs.Cuts.{IsConsistent}
use Rattle.kt_meaning.specs.Passing.{decided_cut}
use Rattle.kt_explain.specs.declared.orphans.Orphan.{Orphan}
use Rattle.kt_explain.proofs.Faults.{before, orphan_fault, not_consistent}
use Rattle.kt_explain.proofs.orphans.orphan_at.Goals as goal

pub orphan_before-requires-clause-kind : goal.orphan_before-requires-clause-kind
orphan_before-requires-clause-kind c =
    let rows = c.args.log.now.rows in
    let h = before rows c.args.certificates.now c.args.inst c.args.row c.in-Some.first.now c.requires.answer c.in-Some.ensures.first in
    let same : c.get.result - 1 ≡ h.place = omega (arith, c.get.ensures.value, h.row_is) in
    ap (λ (n : ℕ). kind_of (past (take n rows)) c.args.inst) same ∙ h.kind

pub orphan_before-requires-clause-before : goal.orphan_before-requires-clause-before
orphan_before-requires-clause-before c =
    let h = before c.args.log.now.rows c.args.certificates.now c.args.inst c.args.row c.in-Some.first.now c.requires.answer c.in-Some.ensures.first in
    omega (arith, c.get.ensures.value, h.row_is, h.upto)

pub returns-in_default : goal.returns-in_default
returns-in_default c =
    let h = orphan_fault c.args.log.now.rows c.args.certificates.now c.args.inst c.args.row c.requires.answer in
    absurd (c.in_default.ensures.none h.certificate h.first)

pub returns-in-None : goal.returns-in-None
returns-in-None c =
    let rows = c.args.log.now.rows in
    let positive = before rows c.args.certificates.now c.args.inst c.args.row c.in-Some.first.now c.requires.answer c.in-Some.ensures.first in
    let number : c.args.row ≡ (c.get.result - 1) + 1 = omega (arith, c.get.ensures.value, positive.row_is) in
    let none = subst (λ (o : Option Orphan). IfNone o (IsConsistent (past (take (c.get.result - 1) rows)) (decided_cut (past (take (c.get.result - 1) rows)) c.args.inst c.in-Some.first.now.kind))) c.in-None.is c.in_ok-orphan.ensures.none in
    absurd (not_consistent rows c.args.certificates.now c.args.inst c.args.row (c.get.result - 1) c.in-Some.first.now.kind c.requires.answer number (c.in-Some.first.now, c.in-Some.ensures.first, refl) none)
