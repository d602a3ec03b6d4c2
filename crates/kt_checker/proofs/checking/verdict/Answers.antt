use Rattle.std.proofs.Common.{◌≡◌, ◌+◌, Some, length, refl, sym, ap, subst, ◌∙◌, arith, inl, inr}
use Rattle.std.proofs.lemmas.Option.{slice_get_read}
use Rattle.std.specs.List.{slice_get}
use Rattle.kt_meaning.proofs.Items.{written}
use Rattle.kt_checker.specs.Missing.{AnswersMissing}
use Rattle.kt_checker.proofs.Marking.{IsMarkedBy, HasMarked, marked_next, marks_next, marked_all, marks_all, seen_second}
use Rattle.kt_checker.proofs.Answering.{pass_next, pass_all, answer_of}
use Rattle.kt_checker.proofs.checking.verdict.Goals as goal

pub loop-certificate-preserved : goal.loop-certificate-preserved
loop-certificate-preserved c =
    let items = c.args.certificates.now in
    let index = c.loop-certificate.certificate-index in
    let inv = c.loop-certificate.invariant in
    let item = c.certificate-item.result in
    let at : slice_get items index ≡ Some item = slice_get_read items (length items) index item refl c.loop-certificate-test.true c.certificate-item.is in
    let old = c.loop-certificate.seen.items in
    let value : c.deref_mut.result.now ≡ old = c.deref_mut.ensures.value in
    let long : length c.mark.new.seen ≡ length old = c.mark.auto.seen ∙ ap length value in
    let seen_len : length c.mark.new.seen ≡ c.loop-certificate.seen.len = long ∙ sym c.loop-certificate.seen.ok.0 in
    let whole = written c.loop-certificate.seen.len c.mark.new.seen old seen_len in
    let marked = subst (λ s. IsMarkedBy s items index) (sym value) inv.marked in
    let marks = subst (λ s. HasMarked s items index) (sym value) inv.marks in
    let second = seen_second c.deref.result.now items index item c.is_marked-is_seen.result (subst (λ s. IsMarkedBy s items index) (sym c.deref.ensures.value) inv.marked) (subst (λ s. HasMarked s items index) (sym c.deref.ensures.value) inv.marks) c.is_marked-is_seen.ensures in
    record {
      many = ap length whole ∙ (long ∙ inv.many);
      passed = λ rows l h. pass_next rows items index item at (inv.passed rows l h) (c.refutation.ensures.passes c.in_default.is items rows index l h at second) (λ earlier. c.refutation.ensures.fresh c.in_default.is (second.1 earlier));
      marked = subst (λ s. IsMarkedBy s items (index + 1)) (sym whole) (marked_next c.deref_mut.result.now c.mark.new.seen items index item at marked c.mark.ensures.marked);
      marks = subst (λ s. HasMarked s items (index + 1)) (sym whole) (marks_next c.deref_mut.result.now c.mark.new.seen items index item at marks c.mark.ensures.kept
          (c.mark.ensures.marks (omega (arith, c.refutation.ensures.listed c.in_default.is, inv.many, ap length value))));
    }

pub returns : goal.returns
returns c = λ rows l h.
    let certificates = c.args.certificates.now in
    let list = c.args.instances.now.list.items in
    let seen = c.loop-certificate.seen.items in
    let inv = c.loop-certificate.invariant in
    answer_of list rows certificates seen c.missing_verdict.result l h
    (pass_all rows certificates c.loop-certificate.certificate-index c.loop-certificate-test.false (inv.passed rows l h))
    (marked_all seen certificates c.loop-certificate.certificate-index inv.marked)
    (marks_all seen certificates c.loop-certificate.certificate-index c.loop-certificate-test.false inv.marks)
    (subst (λ s. AnswersMissing list s c.missing_verdict.result) c.deref-2.ensures.value c.missing_verdict.ensures)

pub returns-in-Some : goal.returns-in-Some
returns-in-Some c = λ rows l h.
    let items = c.args.certificates.now in
    let index = c.loop-certificate.certificate-index in
    let inv = c.loop-certificate.invariant in
    let item = c.certificate-item.result in
    let at : slice_get items index ≡ Some item = slice_get_read items (length items) index item refl c.loop-certificate-test.true c.certificate-item.is in
    let second = seen_second c.deref.result.now items index item c.is_marked-is_seen.result (subst (λ s. IsMarkedBy s items index) (sym c.deref.ensures.value) inv.marked) (subst (λ s. HasMarked s items index) (sym c.deref.ensures.value) inv.marks) c.is_marked-is_seen.ensures in
    inr (inr (l, inl (index, item, at, inv.passed rows l h, (rw c.in-Some.is at c.refutation.ensures.refused) items rows index l h at second)))
