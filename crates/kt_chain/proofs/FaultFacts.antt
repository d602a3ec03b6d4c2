-- A text has one first fault.
use Rattle.std.proofs.Common.{◌≡◌, ◌≢◌, ◌∙◌, ◌<◌, ℕ, List, [], ◌∷◌, ◌++◌, length, refl, sym, ap, subst, arith, inl, inr}
use Rattle.std.specs.Prelude.{◌⊎◌}
use Rattle.std.proofs.lemmas.Bool.{cases_lt}
use Rattle.kt_text.proofs.FieldFacts.{Records, first_and_rest, field_1, field_2, field_3, field_4}
use Rattle.kt_spacetime.specs.declared.certificate.Certificate.{Certificate}
use Rattle.kt_chain.specs.declared.fault.CertTextFault.{CertTextFault}
use Rattle.kt_chain.specs.declared.records.RecordFault.{RecordFault}
use Rattle.kt_chain.specs.declared.records.RecordFault.TheVariants as fault
use Rattle.kt_chain.specs.Spelling.{records_of}
use Rattle.kt_chain.specs.Texts.{Slot, IsFirstCertificateMisfit, IsCertificateFieldFault, IsCertificateFaultAfter, IsAfterCertificates, IsFirstCertificateFault, IsOfCertificates, record_count, max_records, fault_at}
use Rattle.kt_chain.specs.Texts as slot
use Rattle.kt_chain.proofs.SpellingFacts.{field_5, two_words, one_list}
use Rattle.kt_chain.proofs.TextFacts.{none_wrong, InFields, record_kinds, none_wrong_in, right_next, IsRight, HasTooMany, HasWrong, kinds}

-- of four texts one is the first that does not fit
one_misfit : (w x y z : Slot) (a b c d : List ℕ) (f g : RecordFault) → IsFirstCertificateMisfit w x y z a b c d f → IsFirstCertificateMisfit w x y z a b c d g → f ≡ g
one_misfit w x y z a b c d f g (inl p) (inl q) = p.0 ∙ sym q.0
one_misfit w x y z a b c d f g (inl p) (inr (inl q)) = absurd (p.1 q.0)
one_misfit w x y z a b c d f g (inl p) (inr (inr (inl q))) = absurd (p.1 q.0)
one_misfit w x y z a b c d f g (inl p) (inr (inr (inr q))) = absurd (p.1 q.0)
one_misfit w x y z a b c d f g (inr (inl p)) (inl q) = absurd (q.1 p.0)
one_misfit w x y z a b c d f g (inr (inl p)) (inr (inl q)) = p.1.0 ∙ sym q.1.0
one_misfit w x y z a b c d f g (inr (inl p)) (inr (inr (inl q))) = absurd (p.1.1 q.1)
one_misfit w x y z a b c d f g (inr (inl p)) (inr (inr (inr q))) = absurd (p.1.1 q.1)
one_misfit w x y z a b c d f g (inr (inr (inl p))) (inl q) = absurd (q.1 p.0)
one_misfit w x y z a b c d f g (inr (inr (inl p))) (inr (inl q)) = absurd (q.1.1 p.1)
one_misfit w x y z a b c d f g (inr (inr (inl p))) (inr (inr (inl q))) = p.2.0 ∙ sym q.2.0
one_misfit w x y z a b c d f g (inr (inr (inl p))) (inr (inr (inr q))) = absurd (p.2.1 q.2)
one_misfit w x y z a b c d f g (inr (inr (inr p))) (inl q) = absurd (q.1 p.0)
one_misfit w x y z a b c d f g (inr (inr (inr p))) (inr (inl q)) = absurd (q.1.1 p.1)
one_misfit w x y z a b c d f g (inr (inr (inr p))) (inr (inr (inl q))) = absurd (q.2.1 p.2)
one_misfit w x y z a b c d f g (inr (inr (inr p))) (inr (inr (inr q))) = p.3.0 ∙ sym q.3.0

-- five fields have one fault
one_in_fields : (before : List Certificate) (w x y z u : List ℕ) (f g : RecordFault) → IsCertificateFieldFault before w x y z u f → IsCertificateFieldFault before w x y z u g → f ≡ g
one_in_fields before w x y z u f g (inl p) (inl q) = p.0 ∙ sym q.0
one_in_fields before w x y z u f g (inl p) (inr (inl q)) = absurd (p.1 q.0)
one_in_fields before w x y z u f g (inl p) (inr (inr q)) = absurd (p.2 q.0)
one_in_fields before w x y z u f g (inr (inl p)) (inl q) = absurd (q.1 p.0)
one_in_fields before w x y z u f g (inr (inl p)) (inr (inl q)) = one_misfit slot.instance slot.kind slot.process slot.decision x y z u f g p.1 q.1
one_in_fields before w x y z u f g (inr (inl p)) (inr (inr q)) = absurd (two_words (sym p.0 ∙ q.0))
one_in_fields before w x y z u f g (inr (inr p)) (inl q) = absurd (q.2 p.0)
one_in_fields before w x y z u f g (inr (inr p)) (inr (inl q)) = absurd (two_words (sym q.0 ∙ p.0))
one_in_fields before w x y z u f g (inr (inr (v, inl p))) (inr (inr (t, inl q))) = one_misfit slot.instance slot.process slot.count slot.chain x y z u f g p q
one_in_fields before w x y z u f g (inr (inr (v, inl p))) (inr (inr (t, inr q))) =
    absurd (none_wrong slot.instance slot.process slot.count slot.chain x y z u f q.1.0 q.1.1 q.1.2 q.1.3 p)
one_in_fields before w x y z u f g (inr (inr (v, inr p))) (inr (inr (t, inl q))) =
    absurd (none_wrong slot.instance slot.process slot.count slot.chain x y z u g p.1.0 p.1.1 p.1.2 p.1.3 q)
one_in_fields before w x y z u f g (inr (inr (v, inr p))) (inr (inr (t, inr q))) = p.0 ∙ sym q.0

-- the fault of five fields, said of the record
in_record : (before : List Certificate) (fields : List (List ℕ)) (f : RecordFault) → InFields before fields f → IsCertificateFieldFault before (field_1 fields) (field_2 fields) (field_3 fields) (field_4 fields) (field_5 fields) f
in_record before fields f (w, x, y, z, u, at, h) =
    subst (λ (r : List (List ℕ)). IsCertificateFieldFault before (field_1 r) (field_2 r) (field_3 r) (field_4 r) (field_5 r) f) (sym at) h

-- a record has one fault
one_in_record : (before : List Certificate) (fields : List (List ℕ)) (f g : RecordFault) → ((f ≡ fault.Fields) × (length fields ≢ 5)) ⊎ InFields before fields f
    → ((g ≡ fault.Fields) × (length fields ≢ 5)) ⊎ InFields before fields g → f ≡ g
one_in_record before fields f g (inl p) (inl q) = p.0 ∙ sym q.0
one_in_record before fields f g (inl p) (inr q) = absurd (p.1 (ap length q.5))
one_in_record before fields f g (inr p) (inl q) = absurd (q.1 (ap length p.5))
one_in_record before fields f g (inr p) (inr q) =
    one_in_fields before (field_1 fields) (field_2 fields) (field_3 fields) (field_4 fields) (field_5 fields) f g (in_record before fields f p) (in_record before fields g q)

-- after some certificates one thing is first wrong
one_after : (before : List Certificate) (left : Records) (f g : CertTextFault) → HasTooMany before left f ⊎ HasWrong before left f → HasTooMany before left g ⊎ HasWrong before left g → f ≡ g
one_after before left f g (inl p) (inl q) = p.0 ∙ sym q.0
one_after before left f g (inl p) (inr q) = absurd (omega (arith, p.1, q.4.1))
one_after before left f g (inr p) (inl q) = absurd (omega (arith, p.4.1, q.1))
one_after before left f g (inr (n, d, is_f, kept, (number, few, fields, rest, at, wrong))) (inr (m, e, is_g, kept_too, (number_too, few_too, others, more, at_too, wrong_too))) =
    let head = (first_and_rest others fields more rest (sym at_too ∙ at)).0 in
    let at_fields = subst (λ (r : List (List ℕ)). ((e ≡ fault.Fields) × (length r ≢ 5)) ⊎ InFields before r e) head (record_kinds before others e kept_too wrong_too) in
    let same = one_in_record before fields d e (record_kinds before fields d kept wrong) at_fields in
    is_f ∙ ap (λ (r : RecordFault). fault_at r n) same ∙ ap (fault_at e) (number ∙ sym number_too) ∙ sym is_g

-- of two lists that go on as one, the longer goes on from the shorter
goes_on : (xs ys l r : Records) → xs ++ l ≡ ys ++ r → length xs < length ys → (fields : List (List ℕ)) × (more : Records) × (ys ≡ xs ++ (fields ∷ more)) × (l ≡ fields ∷ (more ++ r))
goes_on [] [] l r e less = absurd (omega (arith, less))
goes_on [] (y ∷ ys) l r e less = (y, ys, refl, e)
goes_on (x ∷ xs) [] l r e less = absurd (omega (arith, less))
goes_on (x ∷ xs) (y ∷ ys) l r e less =
    let split = first_and_rest x y (xs ++ l) (ys ++ r) e in
    let (fields, more, longer, left) = goes_on xs ys l r split.1 (omega (arith, less)) in
    (fields, more, ap (λ (h : List (List ℕ)). h ∷ ys) (sym split.0) ∙ ap (λ (t : Records). x ∷ t) longer, left)

-- two of one length are one, and go on alike
goes_alike : (xs ys l r : Records) → xs ++ l ≡ ys ++ r → length xs ≡ length ys → (xs ≡ ys) × (l ≡ r)
goes_alike [] [] l r e n = (refl, e)
goes_alike [] (y ∷ ys) l r e n = absurd (omega (arith, n))
goes_alike (x ∷ xs) [] l r e n = absurd (omega (arith, n))
goes_alike (x ∷ xs) (y ∷ ys) l r e n =
    let split = first_and_rest x y (xs ++ l) (ys ++ r) e in
    let rest = goes_alike xs ys l r split.1 (omega (arith, n)) in
    (ap (λ (h : List (List ℕ)). h ∷ xs) split.0 ∙ ap (λ (t : Records). y ∷ t) rest.0, rest.1)

-- where a list goes on, nothing is wrong
none_before : (before others : List Certificate) (left rest text : Records) (f : CertTextFault) → IsAfterCertificates before left text → IsAfterCertificates others rest text → record_count before < record_count others
    → HasTooMany before left f ⊎ HasWrong before left f → ⊥
none_before before others left rest text f p q less (inl many) = omega (arith, many.1, less, q.few)
none_before before others left rest text f p q less (inr (n, d, is_f, kept, (number, few, fields, more, at, wrong))) =
    let on = goes_on (records_of before) (records_of others) left rest (sym p.spelled ∙ q.spelled) less in
    let head = (first_and_rest fields on.0 more (on.1 ++ rest) (sym at ∙ on.3)).0 in
    let right = right_next before others on.0 on.1 p.in_range q.in_range (sym on.2) in
    none_wrong_in before fields d kept p.in_range (subst (λ (r : List (List ℕ)). IsRight before r) (sym head) right) wrong

pub one_fault : (text : Records) (f g : CertTextFault) → IsOfCertificates f → IsOfCertificates g → IsFirstCertificateFault text f → IsFirstCertificateFault text g → f ≡ g
one_fault text f g o u p q =
    let wrong = kinds p.before p.left f o p.wrong in
    let other = kinds q.before q.left g u q.wrong in
    elim (cases_lt (record_count p.before) (record_count q.before)) [
      | inl less ↦ absurd (none_before p.before q.before p.left q.left text f p.after q.after less wrong)
      | inr at_least ↦ elim (cases_lt (record_count q.before) (record_count p.before)) [
        | inl more ↦ absurd (none_before q.before p.before q.left p.left text g q.after p.after more other)
        | inr at_most ↦
            let alike = goes_alike (records_of q.before) (records_of p.before) q.left p.left (sym q.after.spelled ∙ p.after.spelled) (omega (arith, at_least, at_most)) in
            let same = one_list q.before p.before q.after.in_range p.after.in_range alike.0 in
            let at_before = subst (λ (b : List Certificate). HasTooMany b q.left g ⊎ HasWrong b q.left g) same other in
            one_after p.before p.left f g wrong (subst (λ (l : Records). HasTooMany p.before l g ⊎ HasWrong p.before l g) alike.1 at_before)
      ]
    ]
